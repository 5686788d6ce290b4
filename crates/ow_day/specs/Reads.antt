-- How much of a day is read: no more than its statements need, and the rest of one piece.
use Rattle.std.specs.Prelude.{◌≡◌, ◌≤◌, ◌⊎◌, ◌+◌, ◌++◌, true, ℕ, List, Option, Some, length}
use Rattle.ow_traits.specs.Telling.{Telling}
use Rattle.ow_tenant.specs.Table.{Table}
use Rattle.ow_day.specs.Limits.{most_bytes, most_piece}
use Rattle.ow_day.specs.Day.{Day, TooLong, day_from}
use Rattle.ow_row_text.specs.Sorted.{Entries}
use Rattle.ow_day.specs.Machine.{Machine}
use Rattle.ow_day.specs.Carried.{IsOpenedOver, Wrote}

-- the statements that are complete in these bytes, where more bytes may follow
abbrev pub day_so_far : List ℕ → Day
day_so_far bytes = day_from (length bytes + 1) true 1 bytes

-- the day isn't over in these bytes: no `end` is among their statements, and none of these is bad
abbrev pub IsUnfinished : List ℕ → Type 0
IsUnfinished bytes = (day_so_far bytes).ending ≡ TooLong

-- of the bytes of a day `rest` is left. What was read is a prefix in which the day isn't over, and the last piece after it
pub record IsLeft (bytes rest : List ℕ) : Type 0 where
  pub front : List ℕ
  pub last : List ℕ
  pub whole : bytes ≡ front ++ (last ++ rest)
  pub unfinished : IsUnfinished front
  pub piece : length last ≤ most_piece
  pub most : length front + length last ≤ most_bytes + 1

-- the source reports what is left of the bytes of a day
abbrev pub LeavesRest : List ℕ → Option (List ℕ) → Type 0
LeavesRest bytes left = (rest : List ℕ) × (left ≡ Some rest) × IsLeft bytes rest

-- all that was read of the bytes of a day is answered: the lines of each statement that is complete in it were written
pub record IsAnswered (t : Table) (rows : Entries) (bytes : List ℕ) (left old new : Option (List ℕ)) : Type 0 where
  pub read : List ℕ
  pub rest : List ℕ
  pub whole : bytes ≡ read ++ rest
  pub leaves : left ≡ Some rest
  pub unfinished : IsUnfinished read
  pub failed : ℕ
  pub last : Machine
  pub wrote : Wrote t rows old new (day_so_far read).statements failed last

-- nothing was read of it, or all that was is answered, over a service that was opened over the store
abbrev pub IsAnsweredOver : Table → Telling → List ℕ → Option (List ℕ) → Option (List ℕ) → Option (List ℕ) → Type 0
IsAnsweredOver t store bytes left old new = ((left ≡ Some bytes) × (new ≡ old)) ⊎ ((rows : Entries) × (IsOpenedOver store rows × IsAnswered t rows bytes left old new))
