-- Counts of a store's faults.
use Rattle.std.specs.Prelude.{◌+◌, ◌<◌, ◌≤◌, ℕ}

-- a count didn't fall, and rose by at least `n`, or is the greatest u64
abbrev pub RoseBy : ℕ → ℕ → ℕ → Type 0
RoseBy n before now = (before ≤ now) × (now < 18446744073709551615 → before + n ≤ now)
