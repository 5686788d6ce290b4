-- What is kept of an activation that has ended.
use Rattle.std.specs.Prelude.{◌-◌, ℕ, max, is_some, Option, Some, None}
use Rattle.ow_records.specs.declared.activations.Activation.{Activation}
use Rattle.ow_records.specs.declared.outcomes.Ending.{Ending}
use Rattle.ow_records.specs.declared.outcomes.Ending.TheVariants.{Replied, Overran, Abandoned, Composed}
use Rattle.ow_records.specs.declared.notes.Notes.{Notes}
use Rattle.ow_records.specs.declared.record.Record.{Record}
use Rattle.ow_records.specs.Form.{is_topmost}
use Rattle.ow_records.specs.Logs.{logs_of}
use Rattle.ow_records.specs.Notes.{kind_of}
use Rattle.ow_records.specs.Outcome.{outcome}

-- the moment when the last run was ordered, if there is one, or else that of the acceptance
abbrev pub run_start : ℕ → Option ℕ → ℕ
run_start accepted None = accepted
run_start accepted (Some moment) = moment

-- an activation that was abandoned counts from its acceptance, and so does a composite
abbrev pub start_of : ℕ → Ending → Option ℕ → ℕ
start_of accepted (Replied reply) started = run_start accepted started
start_of accepted Overran started = run_start accepted started
start_of accepted Abandoned started = accepted
start_of accepted (Composed response children) started = accepted

-- how long the activation waited for its start, unless it was abandoned or is a composite
abbrev pub wait_of : ℕ → Ending → ℕ → Option ℕ
wait_of accepted (Replied reply) start = Some (start - accepted)
wait_of accepted Overran start = Some (start - accepted)
wait_of accepted Abandoned start = None
wait_of accepted (Composed response children) start = None

-- the time from the start until the last run began, where it began before the end, the activation wasn't abandoned and is no composite
abbrev pub init_of : Ending → ℕ → Option ℕ → Option ℕ
init_of (Replied reply) start None = None
init_of (Replied reply) start (Some begun) = Some (begun - start)
init_of Overran start None = None
init_of Overran start (Some begun) = Some (begun - start)
init_of Abandoned start begun = None
init_of (Composed response children) start begun = None

-- the annotations of an activation with this ending and this start, whose last run began at `begun`, where it began
abbrev pub notes_of : Activation → Ending → ℕ → Option ℕ → Notes
notes_of a ending start begun = record {
  binding = a.binding;
  caused_by = is_some a.cause;
  init_time = init_of ending start begun;
  kind = Some (kind_of a.action.exec);
  limits = Some a.action.limits;
  path = Some a.action.name;
  topmost = is_topmost a.form a.cause;
  wait_time = wait_of a.at ending start;
}

-- the record of an activation with this ending, from `start` to `at`; the last run began at `begun`, where it began
abbrev pub record_from : Activation → Ending → ℕ → Option ℕ → ℕ → Record
record_from a ending start begun at = record {
  id = a.id;
  name = a.action.name.name;
  namespace = a.namespace;
  subject = a.subject;
  version = a.action.version;
  cause = a.cause;
  span = record { start = start; end = max start at };
  notes = notes_of a ending start begun;
  logs = logs_of a.action.limits.logs ending;
  response = outcome ending a.action.limits;
}

-- the record of an activation with this ending at `at`; the last run, if any, was ordered at `started`; it began at `begun`, where it did
abbrev pub record_of : Activation → Ending → Option ℕ → Option ℕ → ℕ → Record
record_of a ending started begun at = record_from a ending (start_of a.at ending started) begun at
