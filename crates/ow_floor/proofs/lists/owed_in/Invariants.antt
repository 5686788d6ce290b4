use Rattle.std.proofs.Common.{◌≡◌, ◌≤◌, ◌*◌, sum_by, take}
use Rattle.ow_slot_laws.proofs.Owing.{owed_of}
use Rattle.ow_floor.proofs.lists.owed_in.Given as goal

abbrev pub invariant-loop-i : goal.invariant-loop-i
invariant-loop-i l = (l.sum ≡ sum_by owed_of (take l.i l.slots)) × (l.sum ≤ 3 * l.i)
