use Rattle.ow_slots.specs.State.{CanGo, removed_state, with_state}
use Rattle.ow_slots.proofs.Changes.{changed_at, there_within}
use Rattle.ow_slots.proofs.slots.Slots.remove.Goals as goal

pub returns : goal.returns
returns c =
    let lt = there_within CanGo c.args.self.now c.args.slot c.requires in
    changed_at c.args.slot (with_state removed_state) c.self.inside.slots.items c.args.self.now c.index_mut.result.now c.remove.new.self lt c.self.view_is c.index_mut.ensures.value c.remove.ensures
