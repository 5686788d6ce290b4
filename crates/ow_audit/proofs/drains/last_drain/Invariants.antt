use Rattle.std.proofs.Common.{◌≡◌, reverse, take}
use Rattle.ow_audit.specs.Drains.{is_drain, last_place}
use Rattle.ow_audit.proofs.drains.last_drain.Given as goal

abbrev pub invariant-loop-i : goal.invariant-loop-i
invariant-loop-i l = l.last ≡ last_place is_drain (reverse (take l.i l.book))
