-- For private clauses: what a session counts while it goes on, and how the line is written.
use Rattle.std.specs.Prelude.{◌≡◌, ℕ, List, Option, Result, Ok, Err}
use Rattle.ow_traits.specs.Streams.{Takes, TakesFront}
use Rattle.ow_traits.specs.Telling.{Telling}
use Rattle.ow_value.specs.declared.memory.NoMemory.{NoMemory as Want}
use Rattle.ow_command_line.specs.declared.status.Status.{Status}
use Rattle.ow_command_line.specs.declared.status.Status.TheVariants as statuses
use Rattle.ow_day.specs.declared.session.Session.{Session}
use Rattle.ow_day.specs.Faults.{RoseBy}
use Rattle.ow_day.specs.Machine.{Machine}
use Rattle.ow_day.specs.Session.{IsLater, machine_of}
use Rattle.ow_drill.specs.Drill.{drill_text}
use Rattle.ow_drill.specs.declared.tally.Tally.{Tally}

-- a session has gone on so, and this was counted: the store's count of faults rose by the statements at which it failed
pub record GoesOn {P : Type 0} (telling : P → Telling) (old new : Session P) (Is : Tally → ℕ → Machine → Type 0) (tally : Tally) : Type 0 where
  pub failed : ℕ
  pub is : Is tally failed (machine_of new)
  pub rose : RoseBy failed (telling old.hall.store).faults (telling new.hall.store).faults
  pub later : IsLater telling old new

-- without memory it goes on, and nothing is counted
abbrev pub Counts : {P : Type 0} → (P → Telling) → Session P → Session P → (Tally → ℕ → Machine → Type 0) → Result Tally Want → Type 0
Counts telling old new Is (Ok tally) = GoesOn telling old new Is tally
Counts telling old new Is (Err e) = IsLater telling old new

-- the line is written, or isn't made
abbrev pub WritesLine : (n seed : ℕ) → Tally → Option (List ℕ) → Option (List ℕ) → Status → Type 0
WritesLine n seed tally old new statuses.Ok = Takes old new (drill_text n seed tally)
WritesLine n seed tally old new statuses.WriteFault = TakesFront old new (drill_text n seed tally)
WritesLine n seed tally old new statuses.NoMemory = new ≡ old
WritesLine n seed tally old new other = ⊥

-- the line of a drill that was made is written, and nothing is written where there was no memory
abbrev pub WritesMade : (n seed : ℕ) → Result Tally Want → Option (List ℕ) → Option (List ℕ) → Status → Type 0
WritesMade n seed (Ok tally) old new status = WritesLine n seed tally old new status
WritesMade n seed (Err e) old new status = (status ≡ statuses.NoMemory) × (new ≡ old)
