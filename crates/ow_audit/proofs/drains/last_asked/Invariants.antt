use Rattle.std.proofs.Common.{◌≡◌, reverse, take}
use Rattle.ow_audit.specs.Drains.{is_asked, last_place}
use Rattle.ow_audit.proofs.drains.last_asked.Given as goal

abbrev pub invariant-loop-i : goal.invariant-loop-i
invariant-loop-i l = l.last ≡ last_place is_asked (reverse (take l.i l.book))
