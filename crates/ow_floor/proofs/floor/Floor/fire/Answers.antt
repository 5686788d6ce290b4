use Rattle.std.proofs.Common.{◌≡◌, ◌++◌, [], ◌∷◌, Some, sym, ◌∙◌, ap, rules, subst}
use Rattle.ow_floor.specs.View.{FloorView}
use Rattle.ow_floor.specs.Laws.{Grows}
use Rattle.ow_floor.specs.Calls.{fire_items}
use Rattle.ow_floor.specs.Store.{Store, fired_in, show}
use Rattle.ow_floor.proofs.Growing.{grows_fire, past_good}
use Rattle.ow_floor.proofs.Results.{on_more, on_ok}
use Rattle.ow_floor.proofs.Showing.{good_fired}
use Rattle.ow_floor.proofs.floor.Floor.fire.Goals as goal

pub invariant_of-self-2 : goal.invariant_of-self-2
invariant_of-self-2 c = (
  rw (c.in_ok-fire.ensures.now, c.in_ok-ready.ensures) (good_fired c.self.inside.lists.now c.args.fired c.self.invariant.0),
  past_good c.self.inside.lists.past c.fire.new.self.past c.fire.ensures.held c.self.invariant.1,
)

pub returns-clause-ok : goal.returns-clause-ok
returns-clause-ok c =
    let drawn = subst (λ (w : FloorView). w.now.firing ≡ Some c.args.fired.id) (sym c.self.view_is) c.requires.drawn in
    on_ok _ _ (subst (λ (w : FloorView). Grows w.now (show c.fire.new.self.now) (λ T. fire_items c.args.fired)) c.self.view_is
    (rw (c.in_ok-fire.ensures.now, c.in_ok-ready.ensures) (grows_fire c.self.inside.lists.now c.args.fired c.self.invariant.0 drawn)))

pub returns-clause-moved : goal.returns-clause-moved
returns-clause-moved c =
    let now : c.fire.new.self.now ≡ fired_in c.args.fired c.self.inside.lists.now = search rules in
    let items : c.records.result.now.items ≡ c.self.inside.lists.now.records ++ c.args.fired ∷ [] = c.records.ensures ∙ ap (λ (R : Store). R.records) now in
    on_more c.note_fired.result _ _ (λ noted. noted _ c.args.fired items) c.note_fired.ensures
