use Rattle.std.proofs.Common.{sym, ◌∙◌}
use Rattle.ow_slots.specs.Slots.{has}
use Rattle.ow_slots.specs.State.{awaits, begun_state, with_state}
use Rattle.ow_slots.proofs.Changes.{placed_at}
use Rattle.ow_slots.proofs.slots.Slots.begun.Goals as goal

pub returns-in-None-clause-slots : goal.returns-in-None-clause-slots
returns-in-None-clause-slots c =
    let seen = c.deref.ensures.value ∙ c.self.view_is in
    sym (rw seen at (c.in-None.ensures.1 (with_state (begun_state c.args.at))))

pub returns-clause-slots : goal.returns-clause-slots
returns-clause-slots c =
    placed_at (has (awaits c.args.run)) (with_state (begun_state c.args.at)) c.self.inside.slots.items c.args.self.now c.deref.result.now _ c.index_mut.result.now c.begin.new.self
    (c.deref.ensures.value ∙ c.self.view_is) c.self.view_is c.in-Some.ensures c.index_mut.ensures.value c.begin.ensures
