-- What a day over an office table writes, and what it leaves of its store.
use Rattle.std.specs.Prelude.{◌≡◌, ◌≤◌, ◌⊎◌, ℕ, List, Option, IfSome, IsOk, take}
use Rattle.ow_traits.specs.Telling.{Telling}
use Rattle.ow_traits.specs.Streams.{Rose, Takes, TakesFront}
use Rattle.ow_row_text.specs.Sorted.{Entries}
use Rattle.ow_keep.specs.Judged.{judged}
use Rattle.ow_keep.specs.Kept.{IsBadRow}
use Rattle.ow_hall.specs.Comes.{HoldsBook}
use Rattle.ow_hall.specs.History.{IsLegal}
use Rattle.ow_hall.specs.declared.refusals.StartFault.{StartFault}
use Rattle.ow_hall.specs.declared.refusals.StartFault.TheVariants as starts
use Rattle.ow_tenant.specs.Table.{Table}
use Rattle.ow_command_line.specs.declared.status.Status.{Status}
use Rattle.ow_command_line.specs.declared.status.Status.TheVariants as statuses
use Rattle.ow_day.specs.Faults.{RoseBy}
use Rattle.ow_day.specs.Statement.{Statement}
use Rattle.ow_day.specs.Machine.{Machine, start, CarriesOut, IsBehind}
use Rattle.ow_day.specs.Day.{Day, Finished, Bad, TooLong, day_of}

-- ---- the store

-- the rows that a service is opened over: the store's, where it reports its rows. They are allowed
pub record IsOpenedOver (store : Telling) (rows : Entries) : Type 0 where
  pub told : IfSome store.rows (λ kept. rows ≡ kept)
  pub allowed : IsOk (judged rows)

-- what a day leaves of a store that failed at it `failed` times: the count of faults rose by at least that many. The book is legal,
-- and the store's rows, where it reports them, are what is kept of the book
pub record LeavesStore (before after : Telling) (failed : ℕ) (last : Machine) : Type 0 where
  pub rose : RoseBy failed before.faults after.faults
  pub legal : IsLegal last.tenants last.ledger.entries
  pub holds : HoldsBook after.rows last.tenants last.ledger

-- nothing is written, and the store's rows and old rows stay
pub record IsUnopened (before after : Telling) (old new : Option (List ℕ)) : Type 0 where
  pub unwritten : new ≡ old
  pub rows_stay : after.rows ≡ before.rows
  pub old_rows_stay : after.old_rows ≡ before.old_rows
  pub later : before.faults ≤ after.faults

-- the first bad one of the kept rows has this key
abbrev pub HasBadRow : Telling → List ℕ → Type 0
HasBadRow store key = (rows : Entries) × IfSome store.rows (λ kept. rows ≡ kept) × IsBadRow rows key

-- ---- a day over an opened service

-- the lines of all these statements were written, the store failed at `failed` of them, and `last` is the machine after them
pub record Wrote (t : Table) (rows : Entries) (old new : Option (List ℕ)) (statements : List Statement) (failed : ℕ) (last : Machine) : Type 0 where
  pub lines : List ℕ
  pub carried : CarriesOut (start t rows) statements lines failed last
  pub took : Takes old new lines

-- a prefix of the lines of the first `count` of them was written
pub record WroteFront (t : Table) (rows : Entries) (old new : Option (List ℕ)) (statements : List Statement) (failed : ℕ) (last : Machine) : Type 0 where
  pub count : ℕ
  pub lines : List ℕ
  pub carried : CarriesOut (start t rows) (take count statements) lines failed last
  pub took : TakesFront old new lines

-- what was written for this day, by the status: all of its lines at its end, at its first bad statement and at its greatest
-- length, and else a prefix of them. Out of memory, the machine may have gone on after the last of these
abbrev pub Tells : Table → Entries → Option (List ℕ) → Option (List ℕ) → Status → ℕ → Machine → Day → Type 0
Tells t rows old new statuses.Ok failed last day = (day.ending ≡ Finished) × Wrote t rows old new day.statements failed last
Tells t rows old new (statuses.BadDay n) failed last day = (day.ending ≡ Bad n) × Wrote t rows old new day.statements failed last
Tells t rows old new statuses.DayTooLong failed last day = (day.ending ≡ TooLong) × Wrote t rows old new day.statements failed last
Tells t rows old new statuses.NoMemory failed last day = (M : Machine) × WroteFront t rows old new day.statements failed M
Tells t rows old new statuses.ReadFault failed last day = WroteFront t rows old new day.statements failed last
Tells t rows old new statuses.WriteFault failed last day = WroteFront t rows old new day.statements failed last
Tells t rows old new other failed last day = ⊥

-- the day was carried out so far over the service that was opened. `last` follows the machine at the opening, whether or not the
-- source of the day reports its bytes. `left` is what that source had left, where it reports it
pub record IsCarriedOut (t : Table) (before after : Telling) (left old new : Option (List ℕ)) (status : Status) : Type 0 where
  pub rows : Entries
  pub opened : IsOpenedOver before rows
  pub failed : ℕ
  pub last : Machine
  pub behind : IsBehind (start t rows) last
  pub tells : IfSome left (λ bytes. Tells t rows old new status failed last (day_of bytes))
  pub leaves : LeavesStore before after failed last

-- what was written over an office table, by the status: the service wasn't opened, or the day was carried out
abbrev pub TellsDay : Table → Telling → Telling → Option (List ℕ) → Option (List ℕ) → Option (List ℕ) → Status → Type 0
TellsDay t before after left old new statuses.StoreFault = IsUnopened before after old new × Rose before.faults after.faults
TellsDay t before after left old new (statuses.BadKept key) = IsUnopened before after old new × HasBadRow before key
TellsDay t before after left old new statuses.NoMemory = IsUnopened before after old new ⊎ IsCarriedOut t before after left old new statuses.NoMemory
TellsDay t before after left old new status = IsCarriedOut t before after left old new status

-- ---- statuses

-- a status with which a day over a good table ends
abbrev pub IsOverTable : Status → Type 0
IsOverTable statuses.BadWords = ⊥
IsOverTable (statuses.BadTable row) = ⊥
IsOverTable (statuses.BadManifest number text) = ⊥
IsOverTable (statuses.Undeployed place number text) = ⊥
IsOverTable (statuses.Passed words tenants) = ⊥
IsOverTable other = Unit {0}

-- a status that the opening has, and no day that is begun
abbrev pub IsOpeningFault : Status → Type 0
IsOpeningFault statuses.StoreFault = Unit {0}
IsOpeningFault (statuses.BadKept key) = Unit {0}
IsOpeningFault other = ⊥

-- how it ends where the service isn't opened, for private clauses
abbrev pub not_opened : StartFault → Status
not_opened (starts.BadKept key) = statuses.BadKept key
not_opened starts.StoreFault = statuses.StoreFault
not_opened starts.NoMemory = statuses.NoMemory

-- the book after the first `count` statements of a day over this table is legal, for any count and any kept rows
abbrev pub HasLegalBooks : Table → List ℕ → Type 0
HasLegalBooks t bytes = (rows : Entries) (count : ℕ) (lines : List ℕ) (failed : ℕ) (N : Machine)
    → CarriesOut (start t rows) (take count (day_of bytes).statements) lines failed N → IsLegal N.tenants N.ledger.entries
