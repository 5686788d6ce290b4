-- What is kept of an activation that has not ended, and its record where it is abandoned.
use Rattle.std.specs.Prelude.{ℕ, max, is_some, [], Some, None}
use Rattle.ow_records.specs.declared.activations.Activation.{Activation}
use Rattle.ow_records.specs.declared.notes.Notes.{Notes}
use Rattle.ow_records.specs.declared.outcomes.Ending.TheVariants.{Abandoned}
use Rattle.ow_records.specs.declared.record.Record.{Record}
use Rattle.ow_records.specs.declared.unrecorded.Unrecorded.{Unrecorded}
use Rattle.ow_records.specs.Form.{is_topmost}
use Rattle.ow_records.specs.Notes.{kind_of}
use Rattle.ow_records.specs.Outcome.{outcome}

abbrev pub unrecorded_of : Activation → Unrecorded
unrecorded_of a = record {
  id = a.id;
  at = a.at;
  binding = a.binding;
  cause = a.cause;
  form = a.form;
  kind = kind_of a.action.exec;
  limits = a.action.limits;
  namespace = a.namespace;
  path = a.action.name;
  subject = a.subject;
  version = a.action.version;
}

-- neither how long it waited nor how long a start took is known
abbrev pub abandoned_notes : Unrecorded → Notes
abandoned_notes u = record {
  binding = u.binding;
  caused_by = is_some u.cause;
  init_time = None;
  kind = Some u.kind;
  limits = Some u.limits;
  path = Some u.path;
  topmost = is_topmost u.form u.cause;
  wait_time = None;
}

-- the record of an activation that was abandoned at this moment: it counts from its acceptance and has no logs
abbrev pub abandoned_record : Unrecorded → ℕ → Record
abandoned_record u at = record {
  id = u.id;
  name = u.path.name;
  namespace = u.namespace;
  subject = u.subject;
  version = u.version;
  cause = u.cause;
  span = record { start = u.at; end = max u.at at };
  notes = abandoned_notes u;
  logs = [];
  response = outcome Abandoned u.limits;
}
