use Rattle.std.proofs.Common.{◌≡◌, ◌++◌, subst}
use Rattle.std.specs.Prelude.{IfOk, OnOk}
use Rattle.ow_floor.specs.View.{FloorView}
use Rattle.ow_floor.specs.Trace.{Trace}
use Rattle.ow_floor.specs.Laws.{Grows, Stands}
use Rattle.ow_floor.specs.Calls.{has_items, moved, overrun_first}
use Rattle.ow_floor.specs.Store.{show}
use Rattle.ow_floor.proofs.Growing.{grows_overrun, overrun_moved, overrun_told, past_good}
use Rattle.ow_floor.proofs.Results.{if_more, if_on}
use Rattle.ow_floor.proofs.floor.Floor.overrun.Goals as goal

pub invariant_of-self : goal.invariant_of-self
invariant_of-self c = (c.end_first_late.ensures.lists_fit, past_good c.self.inside.lists.past c.end_first_late.new.lists.past c.end_first_late.ensures.held c.self.invariant.1)

pub returns-clause-late : goal.returns-clause-late
returns-clause-late c =
    subst (λ (w : FloorView). IfOk c.end_first_late.result (λ late. (T : Trace) → Stands w.now T → late ≡ has_items (overrun_first c.args.at T))) c.self.view_is
    (if_more c.end_first_late.result _ _ (λ late. overrun_told c.self.inside.lists.now c.end_first_late.new.lists.now c.args.at late c.args.moves.now c.end_first_late.new.moves) c.end_first_late.ensures.made)

pub returns-clause-moved : goal.returns-clause-moved
returns-clause-moved c =
    subst (λ (w : FloorView). OnOk c.end_first_late.result ((T : Trace) → Stands w.now T → c.end_first_late.new.moves ≡ c.args.moves.now ++ moved (overrun_first c.args.at T))) c.self.view_is
    (if_on c.end_first_late.result _ _ (λ late. overrun_moved c.self.inside.lists.now c.end_first_late.new.lists.now c.args.at late c.args.moves.now c.end_first_late.new.moves) c.end_first_late.ensures.made)

pub returns-clause-ok : goal.returns-clause-ok
returns-clause-ok c =
    subst (λ (w : FloorView). OnOk c.end_first_late.result (Grows w.now (show c.end_first_late.new.lists.now) (λ T. overrun_first c.args.at T))) c.self.view_is
    (if_on c.end_first_late.result _ _ (λ late. grows_overrun c.self.inside.lists.now c.end_first_late.new.lists.now c.args.at late c.args.moves.now c.end_first_late.new.moves) c.end_first_late.ensures.made)
