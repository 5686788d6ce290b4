use Rattle.std.proofs.Common.{◌≡◌, ◌-◌, ◌++◌, ◌∙◌, List, length, refl, ap, subst}
use Rattle.ow_floor.specs.declared.moves.Moved.{Moved}
use Rattle.ow_floor.specs.View.{FloorView}
use Rattle.ow_floor.specs.Trace.{Trace}
use Rattle.ow_floor.specs.Laws.{Grows, Stands}
use Rattle.ow_floor.specs.Calls.{moved, swept_ends, swept_items}
use Rattle.ow_floor.specs.Store.{show}
use Rattle.ow_floor.proofs.Growing.{made_sweep, swept_moved}
use Rattle.ow_floor.proofs.floor.Floor.sweep_into.Goals as goal

pub returns-clause-late : goal.returns-clause-late
returns-clause-late c =
    let n = length c.items.result.now - length c.items-before.result.now in
    let is : n ≡ length c.sweep.new.moves - length c.args.moves.now =
    ap (λ (ms : List Moved). length ms - length c.items-before.result.now) c.items.ensures ∙ ap (λ (ms : List Moved). length c.sweep.new.moves - length ms) c.items-before.ensures in
    subst (λ (w : FloorView). (T : Trace) → Stands w.now T → n ≡ length (swept_ends c.args.at T)) c.self.view_is
    (λ T st. (swept_moved c.self.inside.lists.now c.sweep.new.lists.now c.args.at c.args.moves.now c.sweep.new.moves n c.in_ok-sweep.ensures.made is T st).0)

pub returns-clause-moved : goal.returns-clause-moved
returns-clause-moved c =
    subst (λ (w : FloorView). (T : Trace) → Stands w.now T → c.sweep.new.moves ≡ c.args.moves.now ++ moved (swept_items c.args.at T)) c.self.view_is
    (λ T st. (swept_moved c.self.inside.lists.now c.sweep.new.lists.now c.args.at c.args.moves.now c.sweep.new.moves _ c.in_ok-sweep.ensures.made refl T st).1)

pub returns-clause-ok : goal.returns-clause-ok
returns-clause-ok c =
    subst (λ (w : FloorView). Grows w.now (show c.note_moment.new.self.now) (λ T. swept_items c.args.at T)) c.self.view_is
    (rw c.note_moment.ensures.now (made_sweep c.self.inside.lists.now c.sweep.new.lists.now c.args.at c.args.moves.now c.sweep.new.moves c.in_ok-sweep.ensures.made).0)
