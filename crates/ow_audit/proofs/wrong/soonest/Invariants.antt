use Rattle.std.proofs.Common.{take}
use Rattle.std.specs.Option.{option_copied}
use Rattle.ow_audit.specs.Places.{IsSoonest}
use Rattle.ow_audit.proofs.wrong.soonest.Given as goal

abbrev pub invariant-loop-held : goal.invariant-loop-held
invariant-loop-held l = IsSoonest l.book (take l.held-index l.entries) (option_copied l.wrong)
