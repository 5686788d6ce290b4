-- Moments that are kept to be counted.
use Rattle.std.specs.Prelude.{◌≡◌, ◌+◌, ◌≤◌, ℕ, List, [], ◌∷◌, Bool, count_by, if◌then◌else◌, ⊤}
use Rattle.ow_tenant.specs.Notes.{counts_at}

-- the kept moments, and for how many more there is room, for private clauses
pub record Kept : Type 0 where
  pub moments : List ℕ
  pub room : ℕ

-- each is at most this
abbrev pub AllUpTo : ℕ → List ℕ → Type 0
AllUpTo at [] = ⊤
AllUpTo at (x ∷ xs) = (x ≤ at) × AllUpTo at xs

-- each is at least this
abbrev pub AllFrom : ℕ → List ℕ → Type 0
AllFrom at [] = ⊤
AllFrom at (x ∷ xs) = (at ≤ x) × AllFrom at xs

-- none is above a later one
abbrev pub Rise : List ℕ → Type 0
Rise [] = ⊤
Rise (x ∷ xs) = AllFrom x xs × Rise xs

-- a count, and one more where the test holds, for private clauses
abbrev pub with_one : Bool → ℕ → ℕ
with_one b n = if b then n + 1 else n

-- moments are dropped that don't count at `now` any more, for private clauses
pub record LetsGo (now : ℕ) (old new : List ℕ) : Type 0 where
  pub counts : (m : ℕ) → now ≤ m → count_by (counts_at m) new ≡ count_by (counts_at m) old
  pub rise : Rise old → Rise new
  pub up_to : (at : ℕ) → AllUpTo at old → AllUpTo at new
