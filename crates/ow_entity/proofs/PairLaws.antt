-- Pairs that are listed and put into an object: pairs that are listed in order stay as they were.
use Rattle.std.proofs.Common.{◌≡◌, ℕ, ◌≤◌, List, [], ◌∷◌, ◌++◌, map, cond, nat_lt, Some, option_map, Result, Ok, Err, Ordering, Less, Equal, Greater, refl, sym, ap, ◌∙◌, subst, append_assoc, append-nil, arith}
use Rattle.std.specs.List.{AllByRecursion}
use Rattle.std.specs.List.Sorted.{IsStrictlySortedBy}
use Rattle.std.specs.Map.{keys_of}
use Rattle.std.specs.Ordering.{ordering_reverse, match_ordering}
use Rattle.std.proofs.lemmas.Cmp.{nat_list_cmp_total}
use Rattle.ow_value.specs.Value.{V, Pairs, items_of, text_cmp, AreParams}
use Rattle.ow_value.specs.Find.{with_pair}
use Rattle.ow_value.specs.declared.measure.TheConstants.{MEGABYTE}
use Rattle.ow_entity.specs.Chain.{result_map}
use Rattle.ow_entity.specs.Fit.{IsFitPairs}
use Rattle.ow_entity.specs.Pairs.{pair_value, pairs_listed, pairs_value, pairs_given, pairs_size, with_pairs, pairs_of_list}
use Rattle.ow_entity.specs.declared.field_name.FieldName.{FieldName}
use Rattle.ow_entity.specs.declared.refusal.EntityRefusal.{EntityRefusal}
use Rattle.ow_entity.specs.declared.refusal.EntityRefusal.TheVariants.{TooLarge}

pairs_listed-map : (ps : Pairs) → pairs_listed (items_of (map pair_value ps)) ≡ Some ps
pairs_listed-map [] = refl
pairs_listed-map (p ∷ ps) = ap (option_map (λ qs. p ∷ qs)) (pairs_listed-map ps)

-- what holds of all names holds of one in the middle
all_mid : (P : List ℕ → Type 0) (qs : Pairs) (p : List ℕ × V) (ps : Pairs) → AllByRecursion P (keys_of (qs ++ p ∷ ps)) → P p.0
all_mid P [] p ps h = h.0
all_mid P (q ∷ qs) p ps h = all_mid P qs p ps h.1

-- the names before one are below it
below : (qs : Pairs) (p : List ℕ × V) (ps : Pairs) → AreParams (qs ++ p ∷ ps) → AllByRecursion (λ k. text_cmp k p.0 ≡ Less) (keys_of qs)
unfolding IsStrictlySortedBy
below [] p ps h = tt
below (q ∷ qs) p ps h = (all_mid (λ k. text_cmp q.0 k ≡ Less) qs p ps h.0, below qs p ps h.1)

put_behind : (k : List ℕ) (v : V) (q : List ℕ × V) (rest more : Pairs) (o : Ordering) → o ≡ Greater → more ≡ rest ++ (k, v) ∷ []
    → match_ordering o ((k, v) ∷ q ∷ rest) ((q.0, v) ∷ rest) (q ∷ more) ≡ q ∷ (rest ++ (k, v) ∷ [])
put_behind k v q rest more Less e h = cc
put_behind k v q rest more Equal e h = cc
put_behind k v q rest more Greater e h = ap (λ qs. q ∷ qs) h

with_pair_end : (qs : Pairs) (p : List ℕ × V) → AllByRecursion (λ k. text_cmp k p.0 ≡ Less) (keys_of qs) → with_pair qs p.0 p.1 ≡ qs ++ p ∷ []
with_pair_end [] p h = refl
with_pair_end (q ∷ qs) p h =
    put_behind p.0 p.1 q qs (with_pair qs p.0 p.1) (text_cmp p.0 q.0) (nat_list_cmp_total.antisymm p.0 q.0 ∙ ap ordering_reverse h.0) (with_pair_end qs p h.1)

with_pairs-append : (qs ps : Pairs) → AreParams (qs ++ ps) → with_pairs qs ps ≡ qs ++ ps
with_pairs-append qs [] h = sym (append-nil qs)
with_pairs-append qs (p ∷ ps) h =
    let e : with_pair qs p.0 p.1 ≡ qs ++ p ∷ [] = with_pair_end qs p (below qs p ps h) in
    let same : (qs ++ p ∷ []) ++ ps ≡ qs ++ p ∷ ps = append_assoc qs (p ∷ []) ps in
    ap (λ x. with_pairs x ps) e ∙ with_pairs-append (qs ++ p ∷ []) ps (subst AreParams (sym same) h) ∙ same

-- pairs whose names rise stay as they are listed
with_pairs-same : (ps : Pairs) → AreParams ps → with_pairs [] ps ≡ ps
with_pairs-same ps h = with_pairs-append [] ps h

-- what is no larger than the bound is taken
pub by_size : {X : Type 0} (n : ℕ) (x : Result X EntityRefusal) → n ≤ MEGABYTE → cond (nat_lt MEGABYTE n) (Err TooLarge) x ≡ x
by_size n x h = grind arith

-- a list that was written of pairs gives them back
pub pairs_given-value : (name : FieldName) (ps : Pairs) → AreParams ps → IsFitPairs ps → pairs_given name (Some (pairs_value ps)) ≡ Ok (Some ps)
pairs_given-value name ps rises fits =
    ap (λ o. pairs_of_list name (option_map (with_pairs []) o)) (pairs_listed-map ps)
    ∙ ap (λ qs. pairs_of_list name (Some qs)) (with_pairs-same ps rises)
    ∙ ap (result_map Some) (by_size (pairs_size ps) (Ok ps) fits.size)
