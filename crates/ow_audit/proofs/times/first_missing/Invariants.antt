use Rattle.std.proofs.Common.{◌<◌, ℕ, get_or}
use Rattle.ow_audit.proofs.times.first_missing.Given as goal

abbrev pub invariant-loop-i : goal.invariant-loop-i
invariant-loop-i l = (k : ℕ) → k < l.i → 0 < get_or l.counts k 0
