use Rattle.std.proofs.Common.{◌∙◌}
use Rattle.ow_slots.specs.Slots.{has}
use Rattle.ow_slots.specs.State.{overrun_state, runs, with_state}
use Rattle.ow_slots.proofs.Changes.{placed_at}
use Rattle.ow_slots.proofs.slots.Slots.overrun.Goals as goal

pub returns-in-Some : goal.returns-in-Some
returns-in-Some c =
    placed_at (has (runs c.args.run)) (with_state (overrun_state c.args.at)) c.self.inside.slots.items c.args.self.now c.deref.result.now _ c.index_mut.result.now c.overrun.new.self
    (c.deref.ensures.value ∙ c.self.view_is) c.self.view_is c.in-Some.ensures c.index_mut.ensures.value c.overrun.ensures
