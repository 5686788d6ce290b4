-- For private clauses: what was read of a day and isn't carried out yet.
use Rattle.std.specs.Prelude.{◌≡◌, ◌≤◌, ◌<◌, ◌+◌, ◌-◌, ◌++◌, ℕ, List, [], Option, Some, None, Result, Ok, Err, IfSome, length, drop}
use Rattle.std.specs.Option.{option_map}
use Rattle.ow_day.specs.Limits.{most_bytes, most_piece}
use Rattle.ow_day.specs.Search.{IsSearched}
use Rattle.ow_day.specs.declared.search.Search.{Search}
use Rattle.ow_day.specs.declared.input.Filled.{Filled}
use Rattle.ow_day.specs.declared.input.Filled.TheVariants.{More, End, Past}
use Rattle.ow_day.specs.declared.input.FillError.{FillError}

-- the bytes that wait, and how many were read in all
pub record InputView : Type 0 where
  pub pending : List ℕ
  pub taken : ℕ

-- the bytes from `start` on wait, and were searched so far
pub record IsInput (bytes : List ℕ) (start : ℕ) (search : Search) (taken : ℕ) (room : List ℕ) : Type 0 where
  pub within : start ≤ length bytes
  pub searched : IsSearched (drop start bytes) search
  pub read : length bytes - start ≤ taken
  pub most : taken ≤ most_bytes
  pub piece : length room ≡ most_piece

-- these bytes were read from what was left, where the source reports that
abbrev pub Gives : Option (List ℕ) → Option (List ℕ) → List ℕ → Type 0
Gives None new piece = Unit {0}
Gives (Some bytes) new piece = (rest : List ℕ) × (new ≡ Some rest) × (bytes ≡ piece ++ rest)

-- what a read does: it appends more bytes to the pending ones; or these stay as they are, and one byte was taken or none
abbrev pub Fills : Option (List ℕ) → Option (List ℕ) → InputView → InputView → Result Filled FillError → Type 0
Fills left left' old new (Ok More) = (piece : List ℕ) × (0 < length piece) × (length piece ≤ most_piece) × (new.pending ≡ old.pending ++ piece) × (new.taken ≡ old.taken + length piece) × (new.taken ≤ most_bytes) × Gives left left' piece
Fills left left' old new (Ok End) = (new ≡ old) × (left' ≡ left) × IfSome left (λ bytes. bytes ≡ [])
Fills left left' old new (Ok Past) = (new ≡ old) × (left' ≡ option_map (drop 1) left) × (old.taken ≡ most_bytes) × IfSome left (λ bytes. 0 < length bytes)
Fills left left' old new (Err e) = (new ≡ old) × (left' ≡ left)

-- the bytes that a read appends to others
abbrev pub ReadsBehind : Option (List ℕ) → Option (List ℕ) → List ℕ → List ℕ → ℕ → Result ℕ FillError → Type 0
ReadsBehind left left' old new space (Ok n) = (piece : List ℕ) × (length piece ≡ n) × (n ≤ space) × (new ≡ old ++ piece) × Gives left left' piece × (n ≡ 0 → (left' ≡ left) × IfSome left (λ bytes. bytes ≡ []))
ReadsBehind left left' old new space (Err e) = (new ≡ old) × (left' ≡ left)

-- whether a byte was left, which was taken
abbrev pub IsPast : Option (List ℕ) → Option (List ℕ) → Result Filled FillError → Type 0
IsPast left left' (Ok More) = ⊥
IsPast left left' (Ok End) = (left' ≡ left) × IfSome left (λ bytes. bytes ≡ [])
IsPast left left' (Ok Past) = (left' ≡ option_map (drop 1) left) × IfSome left (λ bytes. 0 < length bytes)
IsPast left left' (Err e) = left' ≡ left
