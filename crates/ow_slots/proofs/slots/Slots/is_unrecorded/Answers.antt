use Rattle.std.proofs.Common.{◌∙◌}
use Rattle.ow_slots.proofs.Offers.{unrecorded_told}
use Rattle.ow_slots.proofs.slots.Slots.is_unrecorded.Goals as goal

pub returns-in-Some : goal.returns-in-Some
returns-in-Some c =
    unrecorded_told c.args.run c.self.inside.slots.items c.args.self.now c.deref.result.now c.in-Some.place c.index.result.now c.is_none.result
    (c.deref.ensures.value ∙ c.self.view_is) c.self.view_is c.in-Some.ensures c.index.ensures (rw c.recorded.ensures at c.is_none.ensures)
