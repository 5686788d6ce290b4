use Rattle.std.proofs.Common.{◌≡◌, reverse, take}
use Rattle.ow_audit.specs.Drains.{ends_drained}
use Rattle.ow_audit.proofs.drains.ends_drained.Given as goal

abbrev pub invariant-loop-entry : goal.invariant-loop-entry
invariant-loop-entry l = l.drained ≡ ends_drained (reverse (take l.entry-index l.book))
