use Rattle.std.proofs.Common.{ℕ, ◌++◌, List}
use Rattle.ow_schedule.specs.Due.{IsDue}
use Rattle.ow_schedule.specs.Next.{IsNext, AreAll}
use Rattle.ow_schedule.proofs.Lists.{left_of}
use Rattle.ow_schedule.proofs.window.due_moments.Given as goal

abbrev pub invariant-moments : goal.invariant-moments
invariant-moments l = (begin : ℕ) × IsNext (IsDue l.schedule) begin l.until l.next
    × ((rest : List ℕ) → AreAll (IsDue l.schedule) begin l.until rest → AreAll (IsDue l.schedule) l.since l.until (l.moments.items ++ rest))

abbrev pub decreases-moments : goal.decreases-moments
decreases-moments l = left_of l.until l.next
