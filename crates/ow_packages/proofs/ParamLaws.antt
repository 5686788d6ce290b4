-- What each name finds among the parameters of an effective action.
use Rattle.std.proofs.Common.{◌≡◌, ◌≢◌, ℕ, List, option_map, Option, Some, None, refl, sym, ap, ◌∙◌, subst, Result, Ok, Err, MatchResult, IfOk}
use Rattle.ow_value.specs.Value.{V, Pairs}
use Rattle.std.specs.Option.{option_or}
use Rattle.ow_value.specs.Find.{find}
use Rattle.ow_value.proofs.Laws.{find-merge}
use Rattle.ow_entity.specs.declared.packages.Package.{Package}
use Rattle.ow_packages.specs.declared.effective_action.Effective.{Effective}
use Rattle.ow_packages.specs.declared.refusal.PackageRefusal.{PackageRefusal}
use Rattle.ow_packages.specs.declared.refusal.PackageRefusal.TheVariants.{NotFound, NoMemory}
use Rattle.ow_packages.specs.Effective.{Behind, params_of, params_over, effective_of, FindsEach, Answers}

or_none : (o : Option V) → option_or o None ≡ o
or_none None = refl
or_none (Some v) = refl

finds_over : (o : Option Package) (ps : Pairs) (q : List ℕ) → find q (params_over o ps) ≡ option_or (find q ps) (find q (params_of o))
finds_over None ps q = sym (or_none (find q ps))
finds_over (Some p) ps q = find-merge q p.params ps

or_else_or : (a b c : Option V) → option_or (option_or a b) c ≡ option_or a (option_or b c)
or_else_or None b c = refl
or_else_or (Some v) b c = refl

finds_each : (b : Behind) → FindsEach (effective_of b).params b
finds_each b given q =
    find-merge q (effective_of b).params given
    ∙ ap (option_or (find q given)) (
    finds_over b.inside (params_over b.binding b.action.params) q
    ∙ ap (λ o. option_or o (find q (params_of b.inside))) (finds_over b.binding b.action.params q)
    ∙ or_else_or (find q b.action.params) (find q (params_of b.binding)) (find q (params_of b.inside)))

of_some : (b c : Behind) (e : Effective) → Some (effective_of b) ≡ Some e → Some b ≡ Some c → FindsEach e.params c
of_some b c e h k = subst (λ (x : Effective). FindsEach x.params c) (some_same _ _ (ap (option_map effective_of) (sym k) ∙ h)) (finds_each c)
  where
    some_same : {X : Type 0} (x y : X) → Some x ≡ Some y → x ≡ y
    some_same x y e = cc

finds : (o : Option Behind) (b : Behind) (e : Effective) → option_map effective_of o ≡ Some e → o ≡ Some b → FindsEach e.params b
finds None b e h k = cc
finds (Some c) b e h k = of_some c b e h k

-- ---- of an answer

pub answered : (o : Option Behind) (r : Result Effective PackageRefusal) → Answers o r
    → MatchResult r (λ e. option_map effective_of o ≡ Some e) (λ e. e ≢ NoMemory → (e ≡ NotFound) × (option_map effective_of o ≡ None))
answered o (Ok e) h = h
answered o (Err e) h = λ n. ((h n).0, ap (option_map effective_of) (h n).1)

pub finds_in : (o : Option Behind) (r : Result Effective PackageRefusal) → Answers o r → IfOk r (λ e. (b : Behind) → o ≡ Some b → FindsEach e.params b)
finds_in o (Ok e) h = λ b k. finds o b e h k
finds_in o (Err e) h = tt
