use Rattle.std.proofs.Common.{◌≤◌, sym, length}
use Rattle.ow_floor.proofs.Restoring.{none_back}
use Rattle.ow_floor.proofs.kept_slots.put_back.Goals as goal

pub returns-else-slot-as_slice : goal.returns-else-slot-as_slice
returns-else-slot-as_slice c =
    let le : length c.args.slots.now ≤ c.args.slot = rw (← c.as_slice.ensures.value) c.if-slot-as_slice.false in
    sym (none_back c.args.slot c.args.old c.args.slots.now le)
