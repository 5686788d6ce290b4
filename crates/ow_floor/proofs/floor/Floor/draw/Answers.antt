use Rattle.std.proofs.Common.{◌≡◌, ◌+◌, Some, refl, sym, subst}
use Rattle.ow_floor.specs.View.{FloorView, last_of}
use Rattle.ow_floor.specs.Laws.{Grows}
use Rattle.ow_floor.specs.Calls.{draw_items}
use Rattle.ow_floor.specs.Store.{show}
use Rattle.ow_floor.proofs.Growing.{grows_draw, past_good}
use Rattle.ow_floor.proofs.Results.{on_ok}
use Rattle.ow_floor.proofs.Showing.{good_drawn}
use Rattle.ow_floor.proofs.floor.Floor.draw.Goals as goal

pub invariant_of-self-2 : goal.invariant_of-self-2
invariant_of-self-2 c = (
  rw c.in_ok-draw.ensures.now (good_drawn c.self.inside.lists.now c.args.at c.args.id c.self.invariant.0),
  past_good c.self.inside.lists.past c.draw.new.self.past c.draw.ensures.held c.self.invariant.1,
)

pub returns-clause-ok : goal.returns-clause-ok
returns-clause-ok c =
    let next = subst (λ (w : FloorView). c.args.id.count ≡ last_of w.now.drawn c.args.id.namespace + 1) (sym c.self.view_is) c.requires.next in
    on_ok _ _ (subst (λ (w : FloorView). Grows w.now (show c.draw.new.self.now) (λ T. draw_items c.args.at c.args.id)) c.self.view_is
    (rw c.in_ok-draw.ensures.now (grows_draw c.self.inside.lists.now c.args.at c.args.id next)))

pub returns-clause-firing : goal.returns-clause-firing
returns-clause-firing c = on_ok _ ((show c.draw.new.self.now).firing ≡ Some c.args.id) (rw c.in_ok-draw.ensures.now refl)
