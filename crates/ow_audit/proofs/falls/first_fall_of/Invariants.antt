use Rattle.std.proofs.Common.{◌≡◌, drop}
use Rattle.ow_audit.specs.Places.{first_fall_of, notes_of}
use Rattle.ow_audit.proofs.falls.first_fall_of.Given as goal

abbrev pub invariant-loop-held : goal.invariant-loop-held
invariant-loop-held g l = first_fall_of (notes_of (drop l.held-index l.receipts)) ≡ first_fall_of (notes_of l.receipts)
