use Rattle.std.proofs.Common.{◌≡◌, ◌+◌, ◌<◌, ℕ, get_or, length, take}
use Rattle.ow_audit.specs.Places.{times}
use Rattle.ow_audit.specs.Numbers.{capped}
use Rattle.ow_audit.proofs.times.count_places.Given as goal

abbrev pub invariant-loop-it : goal.invariant-loop-it
invariant-loop-it l = (k : ℕ) → k < length l.fn.counts → get_or l.counts k 0 ≡ capped (get_or l.fn.counts k 0 + times k (take l.it-index l.entries))
