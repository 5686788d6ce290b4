use Rattle.std.proofs.Common.{take}
use Rattle.std.specs.Option.{option_copied}
use Rattle.ow_audit.specs.Places.{IsSoonest, notes_of, placed}
use Rattle.ow_audit.proofs.wrong.soonest_of.Given as goal

abbrev pub invariant-loop-held : goal.invariant-loop-held
invariant-loop-held g l = IsSoonest l.book (placed (notes_of (take l.held-index l.receipts))) (option_copied l.wrong)
