-- The first moment in a range at which something holds.
use Rattle.std.specs.Prelude.{ℕ, ◌<◌, ◌≤◌, ◌+◌, Option, Some, None, List, [], ◌∷◌}

-- it holds nowhere from `since` to before `until`
abbrev pub NoneBelow : (ℕ → Type 0) → (since until : ℕ) → Type 0
NoneBelow P since until = (at : ℕ) → since ≤ at → at < until → ¬ P at

pub record IsFirst (P : ℕ → Type 0) (since until at : ℕ) : Type 0 where
  pub due : P at
  pub not_before : since ≤ at
  pub not_after : at ≤ until
  pub none_before : NoneBelow P since at

-- the first moment from `since` to `until` at which it holds; None exactly where there is none
abbrev pub IsNext : (ℕ → Type 0) → (since until : ℕ) → Option ℕ → Type 0
IsNext P since until None = (at : ℕ) → since ≤ at → at ≤ until → ¬ P at
IsNext P since until (Some at) = IsFirst P since until at

-- all moments from `since` to `until` at which it holds, in order
abbrev pub AreAll : (ℕ → Type 0) → (since until : ℕ) → List ℕ → Type 0
AreAll P since until [] = (at : ℕ) → since ≤ at → at ≤ until → ¬ P at
AreAll P since until (at ∷ more) = IsFirst P since until at × AreAll P (at + 1) until more
