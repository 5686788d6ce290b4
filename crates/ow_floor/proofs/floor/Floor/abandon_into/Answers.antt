use Rattle.std.proofs.Common.{◌≡◌, ◌++◌, ◌∙◌, subst}
use Rattle.ow_floor.specs.View.{FloorView}
use Rattle.ow_floor.specs.Trace.{Trace}
use Rattle.ow_floor.specs.Laws.{Grows, Stands}
use Rattle.ow_floor.specs.Calls.{abandon_items, moved}
use Rattle.ow_floor.specs.Store.{show}
use Rattle.ow_floor.proofs.Growing.{abandon_moved, abandon_recorded, grows_abandon, past_good}
use Rattle.ow_floor.proofs.Showing.{good_reopened}
use Rattle.ow_floor.proofs.floor.Floor.abandon_into.Goals as goal

pub returns-clause-moved : goal.returns-clause-moved
returns-clause-moved c =
    subst (λ (w : FloorView). (T : Trace) → Stands w.now T → c.abandon.new.moves ≡ c.args.moves.now ++ moved (abandon_items c.args.at T)) c.self.view_is
    (abandon_moved c.self.inside.lists.now c.abandon.new.lists.now c.args.at c.args.moves.now c.abandon.new.moves c.in_ok-abandon.ensures.made)

pub returns-clause-ok : goal.returns-clause-ok
returns-clause-ok c =
    subst (λ (w : FloorView). Grows w.now (show c.reopen.new.self.now) (λ T. abandon_items c.args.at T)) c.self.view_is
    (rw c.in_ok-reopen.ensures.now (grows_abandon c.self.inside.lists.now c.abandon.new.lists.now c.args.at c.args.moves.now c.abandon.new.moves c.in_ok-abandon.ensures.made))

pub returns-clause-recorded : goal.returns-clause-recorded
returns-clause-recorded c =
    abandon_recorded _ (show c.reopen.new.self.now) c.args.at (subst (λ (w : FloorView). Grows w.now (show c.reopen.new.self.now) (λ T. abandon_items c.args.at T)) c.self.view_is
    (rw c.in_ok-reopen.ensures.now (grows_abandon c.self.inside.lists.now c.abandon.new.lists.now c.args.at c.args.moves.now c.abandon.new.moves c.in_ok-abandon.ensures.made)))

pub invariant_of-self-2 : goal.invariant_of-self-2
invariant_of-self-2 c = (
  rw c.in_ok-reopen.ensures.now (good_reopened c.abandon.new.lists.now c.args.at c.abandon.ensures.lists_fit),
  past_good c.self.inside.lists.past c.reopen.new.self.past (c.reopen.ensures.held ∙ c.abandon.ensures.held) c.self.invariant.1,
)
