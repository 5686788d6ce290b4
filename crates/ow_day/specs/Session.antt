-- For private clauses: what a statement does to a session.
use Rattle.std.specs.Prelude.{◌≡◌, ◌≤◌, ◌++◌, ℕ, List, Result, Ok, Err, IfOk, IfSome, IsOk}
use Rattle.ow_traits.specs.Telling.{Telling}
use Rattle.ow_value.specs.declared.memory.NoMemory.{NoMemory as Want}
use Rattle.ow_floor.specs.declared.answers.AnswerRefusal.{AnswerRefusal}
use Rattle.ow_floor.specs.declared.answers.AnswerRefusal.TheVariants as refusals
use Rattle.ow_floor.specs.declared.answers.FloorRefusal.{FloorRefusal}
use Rattle.ow_hall.specs.Openings.{HasStartCause}
use Rattle.ow_row_text.specs.Sorted.{Entries}
use Rattle.ow_keep.specs.Judged.{judged}
use Rattle.ow_tenant.specs.Table.{Table}
use Rattle.ow_day.specs.declared.statement_outcome.StatementOutcome.{StatementOutcome}
use Rattle.ow_day.specs.declared.statement_outcome.StatementOutcome.TheVariants.{NoRun, Taken, Denied, StoreFault}
use Rattle.ow_day.specs.declared.session.Session.{Session}
use Rattle.ow_day.specs.declared.session.Unopened.{Unopened}
use Rattle.ow_day.specs.declared.session.StepOutcome.{StepOutcome}
use Rattle.ow_day.specs.declared.session.StepOutcome.TheVariants as steps
use Rattle.ow_day.specs.Faults.{RoseBy}
use Rattle.ow_day.specs.Machine.{Machine, Does, IsBehind, start}
use Rattle.ow_day.specs.Statement.{Statement, End}
use Rattle.ow_day.specs.Texts.{lines_of}

-- the machine that a session of the code is
abbrev pub machine_of : {P : Type 0} → Session P → Machine
machine_of s = record { tenants = s.hall.tenants; ledger = s.hall.ledger; given = s.given; shelf = s.shelf }

-- why a runner's reply isn't taken: no live run has its number, the store failed, or there is no memory
abbrev pub Denies : AnswerRefusal → Result StatementOutcome Want → Type 0
Denies (refusals.NoRun run reply) result = IfOk result (λ outcome. outcome ≡ NoRun run)
Denies (refusals.NoMemory reply) result = IfOk result (λ outcome. ⊥)
Denies (refusals.StoreFault reply) result = IfOk result (λ outcome. outcome ≡ StoreFault)

-- the report on a container was accepted, or why not
abbrev pub told_of : Result (Unit {0}) FloorRefusal → StatementOutcome
told_of (Ok taken) = Taken
told_of (Err refusal) = Denied refusal

-- ---- the outcome of a statement

-- a statement has this outcome, and the store's count of faults rose by the number of times that it failed at the statement
abbrev pub GoesTo : {P : Type 0} → (P → Telling) → Session P → Session P → (ℕ → StatementOutcome → Machine → Type 0) → StatementOutcome → Type 0
GoesTo telling old new Is outcome = (failed : ℕ) × (Is failed outcome (machine_of new) × RoseBy failed (telling old.hall.store).faults (telling new.hall.store).faults)

-- a session goes on from another: its machine follows the other's, and the store's count of faults didn't fall
pub record IsLater {P : Type 0} (telling : P → Telling) (old new : Session P) : Type 0 where
  pub behind : IsBehind (machine_of old) (machine_of new)
  pub count : (telling old.hall.store).faults ≤ (telling new.hall.store).faults

-- without memory it goes on so
abbrev pub ComesTo : {P : Type 0} → (P → Telling) → Session P → Session P → (ℕ → StatementOutcome → Machine → Type 0) → Result StatementOutcome Want → Type 0
ComesTo telling old new Is (Ok outcome) = GoesTo telling old new Is outcome
ComesTo telling old new Is (Err e) = IsLater telling old new

-- a statement was carried out, and its lines were appended to what was written before
abbrev pub Performs : {P : Type 0} → (P → Telling) → Session P → Session P → Statement → List ℕ → List ℕ → Type 0
Performs telling old new s before now = (outcome : StatementOutcome) × (GoesTo telling old new (Does (machine_of old) s) outcome × (now ≡ before ++ lines_of outcome))

-- a statement was carried out, or ends the day
abbrev pub CarriesOut : {P : Type 0} → (P → Telling) → Session P → Session P → Statement → List ℕ → List ℕ → StepOutcome → Type 0
CarriesOut telling old new s before now steps.Done = (s ≡ End → ⊥) × Performs telling old new s before now
CarriesOut telling old new s before now steps.End = (s ≡ End) × (now ≡ before) × (new ≡ old)
CarriesOut telling old new s before now steps.NoMemory = IsLater telling old new
CarriesOut telling old new s before now other = ⊥

-- ---- openings

-- a session was begun over a store and an office table. Its rows are the store's, where the store reports them, and are allowed
pub record Begins {P : Type 0} (telling : P → Telling) (store : P) (t : Table) (s : Session P) : Type 0 where
  pub loaded : Entries
  pub told : IfSome (telling store).rows (λ kept. loaded ≡ kept)
  pub allowed : IsOk (judged loaded)
  pub machine : machine_of s ≡ start t loaded
  pub later : (telling store).faults ≤ (telling s.hall.store).faults

-- why it wasn't, and the store that is handed back
pub record IsHandedBack {P : Type 0} (telling : P → Telling) (store : P) (u : Unopened P) : Type 0 where
  pub cause : HasStartCause telling store u.store u.why
  pub rows_stay : (telling u.store).rows ≡ (telling store).rows
  pub old_rows_stay : (telling u.store).old_rows ≡ (telling store).old_rows
  pub later : (telling store).faults ≤ (telling u.store).faults
