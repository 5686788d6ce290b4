-- Numbers between bounds.
use Rattle.std.specs.Prelude.{◌≤◌, ℕ}

abbrev pub IsBetween : ℕ → ℕ → ℕ → Type 0
IsBetween least most n = (least ≤ n) × (n ≤ most)
