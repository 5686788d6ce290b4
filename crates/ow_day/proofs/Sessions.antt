-- A session between statements: how a day goes on by it.
use Rattle.std.proofs.Common.{◌≡◌, ℕ, List, refl}
use Rattle.ow_traits.specs.Telling.{Telling}
use Rattle.ow_day.specs.declared.line.Statement as code
use Rattle.ow_day.specs.declared.line.Statement.TheVariants as statements
use Rattle.ow_day.specs.declared.session.Session.{Session}
use Rattle.ow_day.specs.declared.session.StepOutcome.{StepOutcome}
use Rattle.ow_day.specs.declared.session.StepOutcome.TheVariants as steps
use Rattle.ow_day.specs.Line.{statement}
use Rattle.ow_day.specs.declared.statement_outcome.StatementOutcome.{StatementOutcome}
use Rattle.ow_day.specs.Machine.{Does}
use Rattle.ow_day.specs.Session.{CarriesOut, GoesTo, IsLater, machine_of}
use Rattle.ow_day.specs.Statement.{Statement, End}
use Rattle.ow_day.proofs.Behind.{done_behind}
use Rattle.ow_day.proofs.Meeting.{same_session}

-- a statement of the code that means `end` is `End`
pub end_is : (s : code.Statement) → statement s ≡ End → s ≡ statements.End
end_is (statements.At moment) e = cc
end_is (statements.Call name text) e = cc
end_is (statements.Ask request) e = cc
end_is statements.Next e = cc
end_is (statements.Begun run) e = cc
end_is (statements.Answer run text) e = cc
end_is (statements.Logged run text count logs) e = cc
end_is (statements.Exit run code) e = cc
end_is (statements.NoStart run text) e = cc
end_is (statements.Fault run) e = cc
end_is (statements.Lost run) e = cc
end_is (statements.Gone slot generation) e = cc
end_is statements.Sweep e = cc
end_is (statements.Collect id) e = cc
end_is statements.Turn e = cc
end_is statements.Drain e = cc
end_is statements.Reopen e = cc
end_is statements.End e = refl

-- a statement leaves a later session
pub goes_later : {P : Type 0} (telling : P → Telling) (old new : Session P) (s : Statement) (outcome : StatementOutcome) → GoesTo telling old new (Does (machine_of old) s) outcome → IsLater telling old new
goes_later telling old new s outcome (failed, (does, rose)) = record { behind = done_behind (machine_of old) (machine_of new) s failed outcome does; count = rose.0 }

-- whatever its outcome, the session goes on
pub carries_later : {P : Type 0} (telling : P → Telling) (old new : Session P) (s : Statement) (before now : List ℕ) (step : StepOutcome) → CarriesOut telling old new s before now step → IsLater telling old new
carries_later telling old new s before now steps.Done (not_end, (outcome, (goes, lines))) = goes_later telling old new s outcome goes
carries_later telling old new s before now steps.End (end, lines, same) = rw same (same_session telling old)
carries_later telling old new s before now steps.Bad never = absurd never
carries_later telling old new s before now steps.Cut never = absurd never
carries_later telling old new s before now steps.NoMemory later = later

-- and where it then stays
pub later_same : {P : Type 0} (telling : P → Telling) (old mid new : Session P) → IsLater telling old mid → new ≡ mid → IsLater telling old new
later_same telling old mid new later same = rw same later
