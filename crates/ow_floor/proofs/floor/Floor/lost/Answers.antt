use Rattle.std.proofs.Common.{refl, subst}
use Rattle.ow_slot_laws.specs.Life as lives
use Rattle.ow_floor.specs.View.{FloorView}
use Rattle.ow_floor.specs.Laws.{Grows}
use Rattle.ow_floor.specs.Calls.{lost_items}
use Rattle.ow_floor.specs.Store.{show}
use Rattle.ow_floor.proofs.Growing.{lost_done, good_done}
use Rattle.ow_floor.proofs.floor.Floor.lost.Goals as goal

pub lose_run-requires-clause-lists_fit : goal.lose_run-requires-clause-lists_fit
lose_run-requires-clause-lists_fit c =
    good_done c.self.inside.lists.now c.lose.new.self.now c.args.at (lives.Lost c.args.run) c.lose.result refl c.lose.ensures.now c.if-is_err.ensures.value c.self.invariant.0

pub returns-clause-grows : goal.returns-clause-grows
returns-clause-grows c =
    subst (λ (w : FloorView). Grows w.now (show c.lose_run.new.lists.now) (λ T. lost_items c.args.at c.args.run T)) c.self.view_is
    (lost_done c.self.inside.lists.now c.lose.new.self.now c.lose_run.new.lists.now c.args.at c.args.run c.lose.result c.lose.ensures.answer c.lose.ensures.now c.if-is_err.ensures.value c.lose_run.ensures.made)
