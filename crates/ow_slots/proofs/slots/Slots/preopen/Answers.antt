use Rattle.ow_slots.specs.State.{IsVacant, opened}
use Rattle.ow_slots.proofs.Changes.{changed_at, there_within}
use Rattle.ow_slots.proofs.slots.Slots.preopen.Goals as goal

pub returns : goal.returns
returns c =
    let lt = there_within IsVacant c.args.self.now c.args.slot c.requires in
    changed_at c.args.slot (opened c.args.run c.args.kind c.args.memory) c.self.inside.slots.items c.args.self.now c.index_mut.result.now c.open.new.self lt c.self.view_is c.index_mut.ensures.value c.open.ensures
