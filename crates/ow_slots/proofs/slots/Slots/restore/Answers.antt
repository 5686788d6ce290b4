use Rattle.std.proofs.Common.{refl}
use Rattle.ow_slots.specs.declared.states.Slot.{Slot}
use Rattle.ow_slots.proofs.Changes.{change_set}
use Rattle.ow_slots.proofs.slots.Slots.restore.Goals as goal

pub returns : goal.returns
returns c = rw (c.replace.ensures.after, c.self.view_is, change_set c.args.slot (λ (s : Slot). c.args.old) c.args.self.now c.args.old c.requires) refl
