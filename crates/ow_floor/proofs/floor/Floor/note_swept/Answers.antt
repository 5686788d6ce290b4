use Rattle.std.proofs.Common.{subst}
use Rattle.ow_floor.specs.View.{FloorView}
use Rattle.ow_floor.specs.Laws.{Grows}
use Rattle.ow_floor.specs.Calls.{note_swept_items}
use Rattle.ow_floor.specs.Store.{show}
use Rattle.ow_floor.proofs.Growing.{grows_swept, past_good}
use Rattle.ow_floor.proofs.Showing.{good_marked}
use Rattle.ow_floor.proofs.floor.Floor.note_swept.Goals as goal

pub invariant_of-self : goal.invariant_of-self
invariant_of-self c = (
  rw c.note_moment.ensures.now (good_marked c.self.inside.lists.now c.args.at c.self.invariant.0).0,
  past_good c.self.inside.lists.past c.note_moment.new.self.past c.note_moment.ensures.held c.self.invariant.1,
)

pub returns-clause-ok : goal.returns-clause-ok
returns-clause-ok c =
    subst (λ (w : FloorView). Grows w.now (show c.note_moment.new.self.now) (λ T. note_swept_items c.args.at)) c.self.view_is
    (rw c.note_moment.ensures.now (grows_swept c.self.inside.lists.now c.args.at))
