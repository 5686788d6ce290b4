use Rattle.std.proofs.Common.{◌≡◌, ◌+◌, refl, sym, ◌∙◌, subst}
use Rattle.ow_floor.specs.View.{FloorView, last_of}
use Rattle.ow_floor.specs.Laws.{Grows}
use Rattle.ow_floor.specs.Calls.{accept_items}
use Rattle.ow_floor.specs.Store.{show}
use Rattle.ow_floor.proofs.Growing.{made_accept, past_good}
use Rattle.ow_floor.proofs.Showing.{good_accepted, show_accepted}
use Rattle.ow_floor.proofs.floor.Floor.accept_into.Goals as goal

pub invariant_of-self-2 : goal.invariant_of-self-2
invariant_of-self-2 c = (
  rw c.in_ok-accept.ensures.now (good_accepted c.frame_accepted.new.self.now c.in_ok-task.task (c.frame_accepted.ensures.lists_fit c.self.invariant.0)),
  past_good c.self.inside.lists.past c.accept.new.self.past (c.accept.ensures.held ∙ c.frame_accepted.ensures.held) c.self.invariant.1,
)

pub returns-clause-ok : goal.returns-clause-ok
returns-clause-ok c =
    let next = subst (λ (w : FloorView). c.args.plan.id.count ≡ last_of w.now.drawn c.args.plan.id.namespace + 1) (sym c.self.view_is) c.requires.next in
    subst (λ (w : FloorView). Grows w.now (show c.accept.new.self.now) (λ T. accept_items c.args.at c.args.plan)) c.self.view_is
    (made_accept c.self.inside.lists.now c.accept.new.self.now c.args.at c.args.plan next
    (rw (c.in_ok-accept.ensures.now, c.in_ok-frame_accepted.ensures.made, c.part_of.ensures, c.get.ensures, c.in_ok-task.ensures, c.activation_of.ensures) (show_accepted c.self.inside.lists.now _ c.self.invariant.0)))

pub returns-clause-firing : goal.returns-clause-firing
returns-clause-firing c = subst (λ (w : FloorView). (show c.accept.new.self.now).firing ≡ w.now.firing) c.self.view_is (rw (c.in_ok-accept.ensures.now, c.in_ok-frame_accepted.ensures.made) refl)
