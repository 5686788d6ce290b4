use Rattle.std.proofs.Common.{◌≡◌, take}
use Rattle.ow_audit.specs.Places.{notes_of}
use Rattle.ow_audit.specs.Numbers.{stored, quiet, denied}
use Rattle.ow_audit.proofs.numbers.numbers_of.Given as goal

abbrev pub invariant-loop-held : goal.invariant-loop-held
invariant-loop-held g l = record {
  stored : l.stored ≡ stored (notes_of (take l.held-index l.receipts));
  quiet : l.quiet ≡ quiet (notes_of (take l.held-index l.receipts));
  denied : l.denied ≡ denied (notes_of (take l.held-index l.receipts));
}
