-- Counts of a store's faults.
use Rattle.std.proofs.Common.{◌+◌, ◌<◌, ◌≤◌, ℕ, arith}
use Rattle.ow_traits.specs.Streams.{Rose}
use Rattle.ow_day.specs.Faults.{RoseBy}

-- it didn't fall
pub rose_none : (before now : ℕ) → before ≤ now → RoseBy 0 before now
rose_none before now later = (later, λ most. omega arith)

-- it rose
pub rose_once : (before now : ℕ) → before ≤ now → Rose before now → RoseBy 1 before now
rose_once before now later rose = (later, λ most. let more : before < now = rose (omega arith) in omega arith)

-- one rise after another
pub rose_then : (m n before mid now : ℕ) → RoseBy m before mid → RoseBy n mid now → RoseBy (m + n) before now
rose_then m n before mid now (later, rose) (later', rose') = (
  omega arith,
  λ most.
      let second : mid + n ≤ now = rose' most in
      let first : before + m ≤ mid = rose (omega arith) in
      omega arith,
)

-- it didn't fall afterwards
pub rose_later : (n before mid now : ℕ) → RoseBy n before mid → mid ≤ now → RoseBy n before now
rose_later n before mid now (later, rose) after = (omega arith, λ most. let there : before + n ≤ mid = rose (omega arith) in omega arith)
