use Rattle.std.proofs.Common.{◌≡◌, drop}
use Rattle.ow_audit.specs.Places.{notes_of}
use Rattle.ow_audit.specs.Numbers.{first_above_of}
use Rattle.ow_audit.proofs.numbers.first_above_of.Given as goal

abbrev pub invariant-loop-held : goal.invariant-loop-held
invariant-loop-held g l = first_above_of l.counted (notes_of (drop l.held-index l.receipts)) ≡ first_above_of l.counted (notes_of l.receipts)
