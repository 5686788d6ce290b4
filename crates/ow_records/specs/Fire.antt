-- What is kept of the fire of a trigger.
use Rattle.std.specs.Prelude.{ℕ, List, None, false}
use Rattle.ow_records.specs.declared.fires.Fire.{Fire}
use Rattle.ow_records.specs.declared.notes.Notes.{Notes}
use Rattle.ow_records.specs.declared.record.Record.{Record}

-- the record of a fire has no annotations
abbrev pub no_notes : Notes
no_notes = record {
  binding = None;
  caused_by = false;
  init_time = None;
  kind = None;
  limits = None;
  path = None;
  topmost = false;
  wait_time = None;
}

-- the record of a fire: it starts and ends at its moment and succeeds with the merged parameters, and its logs are these lines, one for each rule
abbrev pub trigger_record : Fire → List (List ℕ) → Record
trigger_record f lines = record {
  id = f.id;
  name = f.name;
  namespace = f.namespace;
  subject = f.subject;
  version = f.version;
  cause = None;
  span = record { start = f.at; end = f.at };
  notes = no_notes;
  logs = lines;
  response = record { code = 0; result = f.params };
}
