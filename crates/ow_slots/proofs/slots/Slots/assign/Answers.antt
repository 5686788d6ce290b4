use Rattle.ow_slots.specs.State.{StartFits, assigned}
use Rattle.ow_slots.proofs.Changes.{changed_at, there_within}
use Rattle.ow_slots.proofs.slots.Slots.assign.Goals as goal

pub returns : goal.returns
returns c =
    let lt = there_within (StartFits c.args.start) c.args.self.now c.args.slot c.requires in
    changed_at c.args.slot (assigned c.args.run c.args.key c.args.start c.args.at) c.self.inside.slots.items c.args.self.now c.index_mut.result.now c.assign.new.self lt c.self.view_is c.index_mut.ensures.value c.assign.ensures
