use Rattle.std.proofs.Common.{◌≡◌, ◌≤◌, List, Option, Some, None, option_map, map, take, arith, ap, sym, subst, ◌∙◌}
use Rattle.ow_value.specs.Value.{V, Pairs, object, depth, items_depth, members_depth, items_of, members_of, AreParams}
use Rattle.ow_value.specs.Find.{with_pair}
use Rattle.ow_value.specs.View.{view, views, pair_views}
use Rattle.ow_runners.specs.PlainReply.{hole, filled, filled_items, filled_members}
use Rattle.ow_runners.proofs.Filling.{filled_next, filled_object, filled_pair, item_nests, items_done, member_nests, members_done}
use Rattle.ow_runners.proofs.fill.+fills.Goals as goal

pub fill-returns-in-Some : goal.fill-returns-in-Some
fill-returns-in-Some t c =
    let e : Some (view c.in-Some.value) ≡ hole c.args.params.now c.in-Object.members = sym (ap (option_map view) c.in-Some.is) ∙ c.in_ok-value-in-Object.ensures in
    filled_object c.args.params.now c.in-Object.members (Some (view c.in-Some.value)) e ∙ sym (ap (λ x. filled c.args.params.now (view x)) c.in-Object.is)

pub fill-returns-in_ok-fill_members-in-None : goal.fill-returns-in_ok-fill_members-in-None
fill-returns-in_ok-fill_members-in-None t c =
    let m : members_of c.in_ok-fill_members-in-None.field-0 ≡ filled_members c.args.params.now (members_of c.in-Object.members) = c.in_ok-fill_members-in-None.ensures in
    let e : ◌≡◌ {A = Option V} None (hole c.args.params.now c.in-Object.members) = sym (ap (option_map view) c.in-None.is) ∙ c.in_ok-value-in-Object.ensures in
    ap object m ∙ filled_object c.args.params.now c.in-Object.members None e ∙ sym (ap (λ x. filled c.args.params.now (view x)) c.in-Object.is)

pub fill_items-fill-requires : goal.fill_items-fill-requires
fill_items-fill-requires t c =
    let h = item_nests _ _ _ c.loop-template-test.true c.template-item.is in
    let k : depth (view c.template-item.result) ≤ items_depth (items_of c.args.items.now) =
    subst (λ (vs : List V). depth (view c.template-item.result) ≤ items_depth (items_of vs)) c.items-template-items.ensures.value h in
    (omega (arith, k), tt)

pub fill_items-returns : goal.fill_items-returns
fill_items-returns t c =
    let e : c.in_ok-from_vec.field-0 ≡ views c.loop-template.values.items = c.in_ok-from_vec.ensures in
    let d = items_done c.args.params.now c.items-template-items.result.now c.loop-template.template-index (views c.loop-template.values.items) c.loop-template-test.false c.loop-template.invariant in
    ap items_of e ∙ d ∙ ap (λ vs. filled_items c.args.params.now (items_of vs)) c.items-template-items.ensures.value

pub fill_members-fill-requires : goal.fill_members-fill-requires
fill_members-fill-requires t c =
    let h = member_nests _ _ _ c.loop-pair-test.true c.pair-item.is in
    let k : depth (view c.pair-item.result.value) ≤ members_depth (members_of c.args.members.now) =
    subst (λ (ps : Pairs). depth (view c.pair-item.result.value) ≤ members_depth (members_of ps)) c.pairs-pair-items.ensures.value h in
    (omega (arith, k), tt)

pub fill_members-loop-pair-preserved : goal.fill_members-loop-pair-preserved
fill_members-loop-pair-preserved t c =
    let n : c.in_ok-copy.field-0 ≡ c.pair-item.result.name = c.in_ok-copy.ensures in
    let v : view c.in_ok-value.value ≡ filled c.args.params.now (view c.pair-item.result.value) = c.in_ok-value.ensures in
    let f : c.loop-pair.fields ≡ map (filled_pair c.args.params.now) (take c.loop-pair.pair-index c.pairs-pair-items.result.now) = c.loop-pair.invariant in
    let put : c.set.new.self ≡ with_pair c.loop-pair.fields c.in_ok-copy.field-0 (view c.in_ok-value.value) = c.in_ok-set.ensures.ok in
    let rises : AreParams (pair_views c.pairs-pair-items.result.now) = subst AreParams (sym c.pairs-pair-items.ensures.value) c.pairs-pair-items.ensures.object.rises in
    put ∙ (λ j. with_pair (f j) (n j) (v j))
    ∙ filled_next c.args.params.now c.pairs-pair-items.result.now c.loop-pair.pair-index c.pair-item.result rises c.loop-pair-test.true c.pair-item.is

pub fill_members-returns : goal.fill_members-returns
fill_members-returns t c =
    let e : c.in_ok-into_params.field-0 ≡ c.loop-pair.fields = c.in_ok-into_params.ensures in
    let d = members_done c.args.params.now c.pairs-pair-items.result.now c.loop-pair.pair-index c.loop-pair.fields c.loop-pair-test.false c.loop-pair.invariant in
    ap members_of e ∙ d ∙ ap (λ ps. filled_members c.args.params.now (members_of ps)) c.pairs-pair-items.ensures.value
