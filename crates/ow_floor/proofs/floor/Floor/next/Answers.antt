use Rattle.std.proofs.Common.{◌≡◌, subst}
use Rattle.std.specs.Prelude.{IfOk, OnErr, OnOk}
use Rattle.ow_floor.specs.View.{FloorView}
use Rattle.ow_floor.specs.Trace.{Trace, shown}
use Rattle.ow_floor.specs.Laws.{Grows, Stands}
use Rattle.ow_floor.specs.Calls.{HasWork, next_items, next_order}
use Rattle.ow_floor.specs.Store.{show}
use Rattle.ow_floor.proofs.Growing.{past_good}
use Rattle.ow_floor.proofs.Ordering.{grows_ok, told_ok}
use Rattle.ow_floor.proofs.Wanting.{wanted_told}
use Rattle.ow_floor.proofs.floor.Floor.next.Goals as goal

pub invariant_of-self : goal.invariant_of-self
invariant_of-self c = (c.next_order.ensures.lists_fit, past_good c.self.inside.lists.past c.next_order.new.lists.past c.next_order.ensures.held c.self.invariant.1)

pub returns-clause-told : goal.returns-clause-told
returns-clause-told c =
    subst (λ (w : FloorView). IfOk c.next_order.result (λ o. (T : Trace) → Stands w.now T → o ≡ next_order T)) c.self.view_is
    (told_ok c.self.inside.lists.now c.next_order.new.lists.now c.args.at c.next_order.result c.next_order.ensures.made)

pub returns-clause-ok : goal.returns-clause-ok
returns-clause-ok c =
    subst (λ (w : FloorView). OnOk c.next_order.result (Grows w.now (show c.next_order.new.lists.now) (λ T. next_items c.args.at T))) c.self.view_is
    (grows_ok c.self.inside.lists.now c.next_order.new.lists.now c.args.at c.next_order.result c.next_order.ensures.made)

pub returns-clause-wanted : goal.returns-clause-wanted
returns-clause-wanted c =
    subst (λ (w : FloorView). OnErr c.next_order.result ((T : Trace) → Stands w.now T → HasWork (shown T))) c.self.view_is
    (wanted_told c.self.inside.lists.now c.next_order.result c.next_order.ensures.wanted)
