use Rattle.std.proofs.Common.{◌≡◌, ◌==◌, List, [], ◌∷◌, true, length, refl, sym, ap, ap₂, ◌∙◌, subst, arith}
use Rattle.std.proofs.lemmas.Bool.Decides.{nat_tests}
use Rattle.ow_value.specs.Find.{find, merge}
use Rattle.ow_value.specs.Json.{IsObject}
use Rattle.ow_value.specs.Value.{AreParams}
use Rattle.ow_value.specs.View.{pair_views}
use Rattle.ow_value.specs.declared.val.Pair.{Pair}
use Rattle.ow_value.proofs.Laws.{find-merge}
use Rattle.ow_value.proofs.Merging.{merge_none}
use Rattle.ow_value.proofs.Objects.{IsObject-merge}
use Rattle.ow_value.proofs.join.merge.Goals as goal

pub of_pairs-requires : goal.of_pairs-requires
of_pairs-requires c =
    let both = ap₂ merge (ap pair_views c.held-xs.ensures) (ap pair_views c.held-ys.ensures) in
    subst IsObject (sym (c.in_ok-pairs.ensures ∙ both)) (IsObject-merge _ _ c.a.invariant c.b.invariant)

none : (ps : List Pair) → true ≡ (length ps == 0) → ps ≡ []
none [] e = refl
none (p ∷ ps) e = let h : (length (p ∷ ps) == 0) ≡ true = sym e in let z : length (p ∷ ps) ≡ 0 = grind (arith, nat_tests) in absurd (omega (arith, z))

pub returns-then-is_empty-clause-value : goal.returns-then-is_empty-clause-value
returns-then-is_empty-clause-value c =
    let a_none : c.args.a.now ≡ [] = sym (ap pair_views c.held-xs.ensures ∙ c.a.view_is) ∙ ap pair_views (none c.held-xs.result.now c.if-is_empty.ensures) in
    let e : merge c.args.a.now c.args.b.now ≡ c.args.b.now = ap (λ ps. merge ps c.args.b.now) a_none ∙ merge_none c.args.b.now (subst AreParams c.b.view_is c.b.invariant.rises) in
    rw e c.again.ensures

pub returns-then-is_empty-2-clause-value : goal.returns-then-is_empty-2-clause-value
returns-then-is_empty-2-clause-value c =
    let b_none : c.args.b.now ≡ [] = sym (ap pair_views c.held-ys.ensures ∙ c.b.view_is) ∙ ap pair_views (none c.held-ys.result.now c.if-is_empty-2.ensures) in
    let e : merge c.args.a.now c.args.b.now ≡ c.args.a.now = ap (merge c.args.a.now) b_none in
    rw e c.again-then-is_empty-2.ensures

pub returns : goal.returns
returns c =
    let both = ap₂ merge (ap pair_views c.held-xs.ensures ∙ c.a.view_is) (ap pair_views c.held-ys.ensures ∙ c.b.view_is) in
    let done = c.in_ok-of_pairs.ensures ∙ c.in_ok-pairs.ensures ∙ both in
    record { value = done; finds = λ q. ap (find q) done ∙ find-merge q c.args.a.now c.args.b.now }
