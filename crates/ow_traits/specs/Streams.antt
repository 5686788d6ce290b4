-- What a source has left, what a sink took, and when they may fail.
use Rattle.std.specs.Prelude.{◌≡◌, ◌<◌, ◌≤◌, ◌++◌, ℕ, List, [], Option, Some, None, Result, Ok, Err, length, take, drop, IsErr}
use Rattle.ow_traits.specs.declared.streams.Failed.{Failed}

-- a count of faults rose, or was at the greatest u64
abbrev pub Rose : ℕ → ℕ → Type 0
Rose before now = before < 18446744073709551615 → before < now

-- a count of faults doesn't fall, and a call fails only where it rose
pub record HasCause {T : Type 0} (before now : ℕ) (result : Result T Failed) : Type 0 where
  pub later : before ≤ now
  pub rose : IsErr result → Rose before now

-- a read of a source that reports what it has left: the first bytes, and none only at the end or without room
abbrev pub Reads : Option (List ℕ) → Option (List ℕ) → List ℕ → Result ℕ Failed → Type 0
Reads None new room result = new ≡ None
Reads (Some bytes) new room (Ok n) = (n ≤ length bytes) × (new ≡ Some (drop n bytes)) × (take n room ≡ take n bytes) × (n ≡ 0 → 0 < length room → bytes ≡ [])
Reads (Some bytes) new room (Err e) = new ≡ Some bytes

-- the same where there is room
abbrev pub ReadsSome : Option (List ℕ) → Option (List ℕ) → List ℕ → Result ℕ Failed → Type 0
ReadsSome None new room result = new ≡ None
ReadsSome (Some bytes) new room (Ok n) = (n ≤ length bytes) × (new ≡ Some (drop n bytes)) × (take n room ≡ take n bytes) × (n ≡ 0 → bytes ≡ [])
ReadsSome (Some bytes) new room (Err e) = new ≡ Some bytes

-- a write to a sink that reports what it took: some of the first bytes of the piece
abbrev pub Writes : Option (List ℕ) → Option (List ℕ) → List ℕ → Result ℕ Failed → Type 0
Writes None new piece result = new ≡ None
Writes (Some before) new piece (Ok n) = new ≡ Some (before ++ take n piece)
Writes (Some before) new piece (Err e) = new ≡ Some before

-- the sink took these bytes
abbrev pub Takes : Option (List ℕ) → Option (List ℕ) → List ℕ → Type 0
Takes None new bytes = new ≡ None
Takes (Some before) new bytes = new ≡ Some (before ++ bytes)

-- of these bytes the sink took those before the rest
pub record TakesUpTo (old new : Option (List ℕ)) (bytes rest : List ℕ) : Type 0 where
  pub front : List ℕ
  pub whole : bytes ≡ front ++ rest
  pub took : Takes old new front

-- the sink took a prefix of these bytes
abbrev pub TakesFront : Option (List ℕ) → Option (List ℕ) → List ℕ → Type 0
TakesFront old new bytes = (rest : List ℕ) × TakesUpTo old new bytes rest
