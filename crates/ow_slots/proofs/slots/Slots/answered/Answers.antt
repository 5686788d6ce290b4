use Rattle.std.proofs.Common.{sym, ◌∙◌}
use Rattle.ow_slots.specs.Slots.{has}
use Rattle.ow_slots.specs.State.{answered_state, runs, with_state}
use Rattle.ow_slots.proofs.Changes.{placed_at}
use Rattle.ow_slots.proofs.slots.Slots.answered.Goals as goal

pub returns-in-None-clause-slots : goal.returns-in-None-clause-slots
returns-in-None-clause-slots c =
    let seen = c.deref.ensures.value ∙ c.self.view_is in
    sym (rw seen at (c.in-None.ensures.1 (with_state (answered_state c.args.alive c.args.at))))

pub returns-clause-slots : goal.returns-clause-slots
returns-clause-slots c =
    placed_at (has (runs c.args.run)) (with_state (answered_state c.args.alive c.args.at)) c.self.inside.slots.items c.args.self.now c.deref.result.now _ c.index_mut.result.now c.answer.new.self
    (c.deref.ensures.value ∙ c.self.view_is) c.self.view_is c.in-Some.ensures c.index_mut.ensures.value c.answer.ensures.slot
