-- What a drill over an office table writes, and what it leaves of its store.
use Rattle.std.specs.Prelude.{◌≡◌, ◌⊎◌, ℕ, List, Option}
use Rattle.ow_traits.specs.Telling.{Telling}
use Rattle.ow_traits.specs.Streams.{Rose, Takes, TakesFront}
use Rattle.ow_row_text.specs.Sorted.{Entries}
use Rattle.ow_tenant.specs.Table.{Table}
use Rattle.ow_command_line.specs.declared.status.Status.{Status}
use Rattle.ow_command_line.specs.declared.status.Status.TheVariants as statuses
use Rattle.ow_day.specs.Carried.{HasBadRow, IsOpenedOver, IsUnopened, LeavesStore}
use Rattle.ow_day.specs.Machine.{IsBehind, Machine, start}
use Rattle.ow_drill.specs.Drill.{IsMade, drill_text}
use Rattle.ow_drill.specs.declared.tally.Tally.{Tally}

-- the drill was made over the service that was opened. The store failed at most at `failed` of its statements
pub record IsDrilled (t : Table) (n seed : ℕ) (before after : Telling) (tally : Tally) : Type 0 where
  pub rows : Entries
  pub opened : IsOpenedOver before rows
  pub failed : ℕ
  pub last : Machine
  pub made : IsMade n seed (start t rows) tally failed last
  pub leaves : LeavesStore before after failed last

-- the service was opened, and the drill wasn't made to its end or isn't reported. Nothing is written
pub record IsCutShort (t : Table) (before after : Telling) (old new : Option (List ℕ)) : Type 0 where
  pub rows : Entries
  pub opened : IsOpenedOver before rows
  pub last : Machine
  pub behind : IsBehind (start t rows) last
  pub leaves : LeavesStore before after 0 last
  pub unwritten : new ≡ old

-- what was written and kept, by the status: the line of the whole drill, a prefix of it where a write failed, or nothing
abbrev pub TellsDrill : Table → (n seed : ℕ) → Telling → Telling → Option (List ℕ) → Option (List ℕ) → Status → Type 0
TellsDrill t n seed before after old new statuses.Ok = (tally : Tally) × IsDrilled t n seed before after tally × Takes old new (drill_text n seed tally)
TellsDrill t n seed before after old new statuses.WriteFault = (tally : Tally) × IsDrilled t n seed before after tally × TakesFront old new (drill_text n seed tally)
TellsDrill t n seed before after old new statuses.StoreFault = IsUnopened before after old new × Rose before.faults after.faults
TellsDrill t n seed before after old new (statuses.BadKept key) = IsUnopened before after old new × HasBadRow before key
TellsDrill t n seed before after old new statuses.NoMemory = IsUnopened before after old new ⊎ IsCutShort t before after old new
TellsDrill t n seed before after old new other = ⊥

-- a status with which a drill over a good table ends
abbrev pub EndsDrill : Status → Type 0
EndsDrill statuses.Ok = Unit {0}
EndsDrill statuses.WriteFault = Unit {0}
EndsDrill statuses.StoreFault = Unit {0}
EndsDrill (statuses.BadKept key) = Unit {0}
EndsDrill statuses.NoMemory = Unit {0}
EndsDrill other = ⊥
