-- The command `usage`: it writes what the records count for that a store keeps. It doesn't touch the office table or the input, and
-- requests no commit.
use Rattle.std.specs.Prelude.{◌≡◌, ◌≤◌, ℕ, Bool, List, IfSome}
use Rattle.ow_traits.specs.Streams.{Rose, Takes, TakesFront}
use Rattle.ow_traits.specs.Telling.{Telling}
use Rattle.ow_row_text.specs.Sorted.{Entries}
use Rattle.ow_keep.specs.Kept.{IsBadRow}
use Rattle.ow_keep.specs.Split.{HoldsItems, Parts}
use Rattle.ow_records.specs.declared.record.Record.{Record}
use Rattle.ow_usage.specs.Cells.{AreCells, Cells}
use Rattle.ow_usage.specs.Text.{IsUsageText}
use Rattle.ow_day.specs.Carried.{HasBadRow}
use Rattle.ow_command_line.specs.declared.status.Status.{Status}
use Rattle.ow_command_line.specs.declared.status.Status.TheVariants as statuses
use Rattle.ow_office.specs.Sides.{Sides, SinkView, sides}

-- the text that shows what these records count for, from one day to another, both counted from 1970-01-01
pub record ShowsRecords (from to : ℕ) (csv : Bool) (rs : List Record) (text : List ℕ) : Type 0 where
  pub cells : Cells
  pub counted : AreCells rs from to cells
  pub shown : IsUsageText csv cells text

-- the same of the records that rows hold
pub record ShowsUsage (from to : ℕ) (csv : Bool) (rows : Entries) (text : List ℕ) : Type 0 where
  pub parts : Parts
  pub held : HoldsItems rows parts
  pub shows : ShowsRecords from to csv parts.records text

-- the same for the rows of a store, as it reports them, where it does
pub record ShowsStore (from to : ℕ) (csv : Bool) (store : Telling) (text : List ℕ) : Type 0 where
  pub rows : Entries
  pub told : IfSome store.rows (λ kept. rows ≡ kept)
  pub shows : ShowsUsage from to csv rows text

-- the rows, the old rows and the commits of a store stay; calls of it may fail
pub record StaysRead (before after : Telling) : Type 0 where
  pub rows : after.rows ≡ before.rows
  pub old_rows : after.old_rows ≡ before.old_rows
  pub commits : after.commits ≡ before.commits
  pub later : before.faults ≤ after.faults

-- why there is no text
abbrev pub IsUnshown : Telling → Telling → Status → Type 0
IsUnshown before after statuses.StoreFault = Rose before.faults after.faults
IsUnshown before after (statuses.BadKept key) = HasBadRow before key
IsUnshown before after statuses.NoMemory = Unit {0}
IsUnshown before after other = ⊥

-- rows that aren't read, for private clauses
abbrev pub IsUnkept : Entries → Status → Type 0
IsUnkept rows (statuses.BadKept key) = IsBadRow rows key
IsUnkept rows statuses.NoMemory = Unit {0}
IsUnkept rows other = ⊥

-- what was written, by the status: the whole text, a prefix of it where a write failed, or nothing
abbrev pub WritesUsage : (from to : ℕ) → Bool → Telling → Telling → SinkView → SinkView → Status → Type 0
WritesUsage from to csv before after old new statuses.Ok = (text : List ℕ) × ShowsStore from to csv before text × Takes old.taken new.taken text
WritesUsage from to csv before after old new statuses.WriteFault =
    (text : List ℕ) × ShowsStore from to csv before text × TakesFront old.taken new.taken text × Rose old.faults new.faults
WritesUsage from to csv before after old new other = (new ≡ old) × IsUnshown before after other

pub record TellsUsage (from to : ℕ) (csv : Bool) (before after : Sides) (status : Status) : Type 0 where
  pub writes : WritesUsage from to csv before.store after.store before.out after.out status
  pub stays : StaysRead before.store after.store
  pub others : after ≡ sides before.table before.day after.out after.store
