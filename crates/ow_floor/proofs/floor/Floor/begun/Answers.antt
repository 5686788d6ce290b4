use Rattle.std.proofs.Common.{refl, subst}
use Rattle.ow_slot_laws.specs.Life as lives
use Rattle.ow_floor.specs.View.{FloorView}
use Rattle.ow_floor.specs.Laws.{Grows}
use Rattle.ow_floor.specs.Calls.{begun_items}
use Rattle.ow_floor.specs.Store.{show}
use Rattle.ow_floor.proofs.Growing.{begun_done, good_done}
use Rattle.ow_floor.proofs.floor.Floor.begun.Goals as goal

pub begin_run-requires-clause-lists_fit : goal.begin_run-requires-clause-lists_fit
begin_run-requires-clause-lists_fit c =
    good_done c.self.inside.lists.now c.begin.new.self.now c.args.at (lives.Begun c.args.run c.args.at) c.begin.result refl c.begin.ensures.now c.if-is_err.ensures.value c.self.invariant.0

pub returns-clause-grows : goal.returns-clause-grows
returns-clause-grows c =
    subst (λ (w : FloorView). Grows w.now (show c.begin_run.new.lists.now) (λ T. begun_items c.args.at c.args.run T)) c.self.view_is
    (begun_done c.self.inside.lists.now c.begin.new.self.now c.begin_run.new.lists.now c.args.at c.args.run c.begin.result c.begin.ensures.answer c.begin.ensures.now c.if-is_err.ensures.value c.begin_run.ensures.made)
