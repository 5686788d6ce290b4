use Rattle.std.proofs.Common.{◌≡◌, ◌++◌, subst}
use Rattle.std.specs.Prelude.{OnOk}
use Rattle.ow_floor.specs.View.{FloorView}
use Rattle.ow_floor.specs.Trace.{Trace}
use Rattle.ow_floor.specs.Laws.{Grows, Stands}
use Rattle.ow_floor.specs.Calls.{compose_items, moved}
use Rattle.ow_floor.specs.Store.{show}
use Rattle.ow_floor.proofs.Growing.{compose_firing, compose_moved, grows_compose, past_good}
use Rattle.ow_floor.proofs.Results.{on_more}
use Rattle.ow_floor.proofs.floor.Floor.compose.Goals as goal

pub invariant_of-self : goal.invariant_of-self
invariant_of-self c = (c.end_composite.ensures.lists_fit, past_good c.self.inside.lists.past c.end_composite.new.lists.past c.end_composite.ensures.held c.self.invariant.1)

pub returns-clause-ok : goal.returns-clause-ok
returns-clause-ok c =
    subst (λ (w : FloorView). OnOk c.end_composite.result (Grows w.now (show c.end_composite.new.lists.now) (λ T. compose_items c.args.at c.args.id c.args.response T))) c.self.view_is
    (on_more c.end_composite.result _ _ (grows_compose c.self.inside.lists.now c.end_composite.new.lists.now c.args.at c.args.id c.args.response c.args.moves.now c.end_composite.new.moves) c.end_composite.ensures.made)

pub returns-clause-moved : goal.returns-clause-moved
returns-clause-moved c =
    subst (λ (w : FloorView). OnOk c.end_composite.result ((T : Trace) → Stands w.now T → c.end_composite.new.moves ≡ c.args.moves.now ++ moved (compose_items c.args.at c.args.id c.args.response T))) c.self.view_is
    (on_more c.end_composite.result _ _ (compose_moved c.self.inside.lists.now c.end_composite.new.lists.now c.args.at c.args.id c.args.response c.args.moves.now c.end_composite.new.moves) c.end_composite.ensures.made)

pub returns-clause-firing : goal.returns-clause-firing
returns-clause-firing c =
    subst (λ (w : FloorView). OnOk c.end_composite.result (c.end_composite.new.lists.now.marks.firing ≡ w.now.firing)) c.self.view_is
    (on_more c.end_composite.result _ _ (compose_firing c.self.inside.lists.now c.end_composite.new.lists.now c.args.at c.args.id c.args.response c.args.moves.now c.end_composite.new.moves) c.end_composite.ensures.made)
