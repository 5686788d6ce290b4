use Rattle.std.proofs.Common.{Result, Ok, Err, IfOk, ◌≡◌, [], ◌∷◌, ◌++◌, map, sym, ap, ◌∙◌, subst, append_assoc, append-nil}
use Rattle.std.proofs.lemmas.List.{take_all}
use Rattle.std.specs.List.Sorted.{IsStrictlySortedBy}
use Rattle.std.specs.Map.{keys_of}
use Rattle.std.specs.String.{string_cmp}
use Rattle.ow_value.specs.Find.{with_pair}
use Rattle.ow_value.specs.Value.{items_of, members_of}
use Rattle.toml.specs.View.{items_view, members_view}
use Rattle.ow_deploy.specs.Values.{items_value, members_value}
use Rattle.ow_deploy.proofs.ValueLaws.{Member, items_of-map, members_of-map, put_last, value_in}
use Rattle.ow_deploy.proofs.data.+values.Goals as goal

ap₃ : {A B C D : Type 0} (f : A → B → C → D) {a a' : A} {b b' : B} {c c' : C} → a ≡ a' → b ≡ b' → c ≡ c' → f a b c ≡ f a' b' c'
ap₃ f p q r = λ i. f (p i) (q i) (r i)

when_ok : {X E : Type 0} (r : Result X E) (P Q : X → Type 0) → ((x : X) → P x → Q x) → IfOk r P → IfOk r Q
when_ok (Ok x) P Q f h = f x h
when_ok (Err e) P Q f h = h

pub items_value-returns : goal.items_value-returns
items_value-returns t c =
    let xs = c.deref-item-items.result.now in
    let all = c.loop-item.invariant ∙ ap (map value_in) (take_all c.loop-item.item-index xs c.loop-item-test.false) in
    when_ok c.from_vec.result _ _ (λ r e. ap items_of (e ∙ all) ∙ items_of-map xs ∙ ap (λ vs. items_value (items_view vs)) c.deref-item-items.ensures.value) c.from_vec.ensures

pub members_value-loop-key-preserved : goal.members_value-loop-key-preserved
members_value-loop-key-preserved t c =
    let before = c.loop-key.invariant in
    let done = before.2 in
    let e : Member = (c.in-Some.key.now, c.in-Some.member.now) in
    let left = c.next.new.self in
    let all : c.args.members.now.entries ≡ done ++ e ∷ left = before.3 ∙ ap (λ es. done ++ es) c.in-Some.ensures.steps in
    let last = put_last done e left (subst (λ es. IsStrictlySortedBy string_cmp (keys_of es)) all c.iter-key-items.ensures.ordered) in (
      tt,
      tt,
      done ++ e ∷ [],
      all ∙ sym (append_assoc done (e ∷ []) left),
      c.in_ok-set.ensures.ok
          ∙ ap₃ with_pair before.4 (c.in_ok-name.ensures ∙ c.as_str.ensures.value) c.in_ok-value.ensures
          ∙ last,
    )

pub members_value-returns : goal.members_value-returns
members_value-returns t c =
    let before = c.loop-key.invariant in
    let all = before.3 ∙ ap (λ es. before.2 ++ es) c.in-None.ensures.steps.0 ∙ append-nil before.2 in
    when_ok c.into_params.result _ _ (λ r e. ap members_of (e ∙ before.4) ∙ members_of-map before.2 ∙ ap (λ es. members_value (members_view es)) (sym all)) c.into_params.ensures
