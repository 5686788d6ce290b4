use Rattle.std.proofs.Common.{take}
use Rattle.ow_audit.specs.Places.{AreTimes, notes_of, placed}
use Rattle.ow_audit.proofs.times.times_of.Given as goal

abbrev pub invariant-loop-held : goal.invariant-loop-held
invariant-loop-held g l = AreTimes l.len (placed (notes_of (take l.held-index l.receipts))) l.counts.items
