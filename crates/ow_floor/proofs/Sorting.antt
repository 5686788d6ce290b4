-- Places of what is open, in the order of the ids: there is one such order where the ids differ.
use Rattle.std.proofs.Common.{◌≡◌, ◌≢◌, ◌⊎◌, ◌+◌, Bool, true, false, cond, List, [], ◌∷◌, Option, Some, None, Ordering, Less, Equal, Greater, IsPermutation, IsSorted, inl, inr, get_or, is_lt, refl, sym, ap, ap₂, ◌∙◌, arith, subst}
use Rattle.std.specs.List.{AllByRecursion, IsDistinct}
use Rattle.std.specs.List.Sorted.{IsStrictlySortedBy}
use Rattle.std.specs.Cmp.{IsTotalOrder}
use Rattle.std.specs.Ordering.{ordering_reverse}
use Rattle.std.proofs.lemmas.Bool.Decides.{nat_tests}
use Rattle.std.proofs.lemmas.Cmp.{nat_list_cmp_total, tied_itself}
use Rattle.std.proofs.lemmas.List.Elements.{All-from_recursion, recursion_from_All}
use Rattle.std.proofs.lemmas.List.Sorted.{All-permutation, IsPermutation-sym}
use Rattle.std.proofs.lemmas.Map.Keys.{IsDistinct-IsPermutation, apart_from_distinct, sorted_from_all_adjacent}
use Rattle.ow_value.specs.Value.{text_cmp}
use Rattle.ow_value.proofs.KeySearch.{equal_texts}
use Rattle.ow_records.specs.declared.ids.Id.{Id}
use Rattle.ow_records.specs.Id.{same_id}
use Rattle.ow_records.specs.Records.{id_numbers}
use Rattle.ow_records.specs.declared.activations.Activation.{Activation}
use Rattle.ow_records.proofs.Sorting.{is_less}
use Rattle.ow_floor.specs.declared.activations.Open.{Open}
use Rattle.ow_floor.specs.declared.by_id.OpenPlace.{OpenPlace}
use Rattle.ow_floor.specs.View.{same_open}
use Rattle.ow_floor.specs.Calls.{put_by_id, sorted_by_id}
use Rattle.ow_floor.specs.Ends.{ArePlaced, IsByIds, place_cmp, placed}
use Rattle.ow_floor.proofs.Alters.{same_id_refl}
use Rattle.ow_floor.proofs.Apart.{IsOther, turned}
use Rattle.ow_floor.proofs.Firsts.{all_more}

pub total : IsTotalOrder place_cmp
total = record {
  antisymm = λ a b. nat_list_cmp_total.antisymm (id_numbers a.id) (id_numbers b.id);
  trans = λ a b d. nat_list_cmp_total.trans (id_numbers a.id) (id_numbers b.id) (id_numbers d.id);
  congr = λ a b d. nat_list_cmp_total.congr (id_numbers a.id) (id_numbers b.id) (id_numbers d.id);
}

abbrev same_place : OpenPlace → OpenPlace → Bool
same_place a b = same_id a.id b.id

same_numbers : (a b : Id) → id_numbers a ≡ id_numbers b → same_id a b ≡ true
same_numbers a b e =
    let n : a.namespace ≡ b.namespace = cc in
    let k : a.count ≡ b.count = cc in
    rw (n, k) (same_id_refl b)

-- different ids aren't equal in the order
unequal : (a b : OpenPlace) → same_place a b ≡ false → place_cmp a b ≢ Equal
unequal a b differ e = let same = same_numbers a.id b.id (equal_texts (id_numbers a.id) (id_numbers b.id) e) in cc

less_by : (a b : OpenPlace) (o : Ordering) → place_cmp a b ≡ o → o ≢ Equal → is_lt (place_cmp b a) ≡ false → place_cmp a b ≡ Less
less_by a b Less e n h = e
less_by a b Equal e n h = absurd (n refl)
less_by a b Greater e n h = let back : place_cmp b a ≡ Less = total.antisymm b a ∙ ap ordering_reverse e in let t : is_lt (place_cmp b a) ≡ true = ap is_lt back in cc

-- ---- one order

-- in order and different, each is below the next
strictly : (ps : List OpenPlace) → IsSorted place_cmp ps → IsDistinct same_place ps → IsStrictlySortedBy place_cmp ps
unfolding IsStrictlySortedBy
strictly [] sorted apart = tt
strictly (p ∷ ps) sorted apart =
    sorted_from_all_adjacent total (p ∷ ps) p
    (λ k lt. let a = get_or (p ∷ ps) k p in let b = get_or (p ∷ ps) (k + 1) p in
    less_by a b (place_cmp a b) refl (unequal a b (apart_from_distinct same_place (p ∷ ps) k (k + 1) p apart (omega arith) lt)) (sorted k p (omega arith) lt))

abbrev Below : OpenPlace → OpenPlace → Type 0
Below a b = place_cmp a b ≡ Less

meet : (a b : OpenPlace) → (a ≡ b) ⊎ Below a b → (b ≡ a) ⊎ Below b a → a ≡ b
meet a b (inl same) other = same
meet a b (inr below) (inl same) = sym same
meet a b (inr below) (inr above) = let h : place_cmp a b ≡ Greater = total.antisymm a b ∙ ap ordering_reverse above in cc

-- what is the first or passes, and is above the first, passes
above : (P : OpenPlace → Type 0) (a x : OpenPlace) → ((a ≡ x) ⊎ P x) × Below a x → P x
above P a x (inl same, below) = let h : place_cmp a a ≡ Less = subst (λ (y : OpenPlace). Below a y) (sym same) below in let t = tied_itself total a in cc
above P a x (inr passes, below) = passes

both : (P Q : OpenPlace → Type 0) (xs : List OpenPlace) → AllByRecursion P xs → AllByRecursion Q xs → AllByRecursion (λ x. P x × Q x) xs
both P Q [] p q = tt
both P Q (x ∷ xs) p q = ((p.0, q.0), both P Q xs p.1 q.1)

-- what holds of all of the first holds of all of the second
abbrev Covers : List OpenPlace → List OpenPlace → Type 1
Covers xs ys = (P : OpenPlace → Type 0) → AllByRecursion P xs → AllByRecursion P ys

cover_tail : (a : OpenPlace) (xs ys : List OpenPlace) → AllByRecursion (Below a) ys → Covers (a ∷ xs) (a ∷ ys) → Covers xs ys
cover_tail a xs ys below covers P all =
    all_more _ _ ys (above P a) (both _ _ ys (covers (λ x. (a ≡ x) ⊎ P x) (inl refl, all_more _ _ xs (λ x p. inr p) all)).1 below)

one_order : (xs ys : List OpenPlace) → IsStrictlySortedBy place_cmp xs → IsStrictlySortedBy place_cmp ys → Covers xs ys → Covers ys xs → xs ≡ ys
unfolding IsStrictlySortedBy
one_order [] [] up vp f g = refl
one_order [] (y ∷ ys) up vp f g = absurd (f (λ x. ⊥) tt).0
one_order (x ∷ xs) [] up vp f g = absurd (g (λ y. ⊥) tt).0
one_order (x ∷ xs) (y ∷ ys) up vp f g =
    let a = (f (λ z. (x ≡ z) ⊎ Below x z) (inl refl, all_more _ _ xs (λ z l. inr l) up.0)).0 in
    let b = (g (λ z. (y ≡ z) ⊎ Below y z) (inl refl, all_more _ _ ys (λ z l. inr l) vp.0)).0 in
    let same : x ≡ y = meet x y a b in
    let f' : Covers xs ys = cover_tail y xs ys vp.0 (subst (λ (z : OpenPlace). Covers (z ∷ xs) (y ∷ ys)) same f) in
    let g' : Covers ys xs = cover_tail x ys xs up.0 (subst (λ (z : OpenPlace). Covers (z ∷ ys) (x ∷ xs)) (sym same) g) in
    ap₂ (λ (z : OpenPlace) zs. z ∷ zs) same (one_order xs ys up.1 vp.1 f' g')

covers_permuted : (xs ys : List OpenPlace) → IsPermutation xs ys → Covers xs ys
covers_permuted xs ys same P all = recursion_from_All P ys (All-permutation P xs ys same (All-from_recursion P xs all))

-- ---- by insertion

abbrev put_place : OpenPlace → List OpenPlace → List OpenPlace
put_place p [] = p ∷ []
put_place p (q ∷ qs) = cond (is_lt (place_cmp p q)) (p ∷ q ∷ qs) (q ∷ put_place p qs)

abbrev sorted_places : List OpenPlace → List OpenPlace
sorted_places [] = []
sorted_places (p ∷ ps) = put_place p (sorted_places ps)

all_put_at : (P : OpenPlace → Type 0) (p q : OpenPlace) (qs : List OpenPlace) (b : Bool) → P p → P q → AllByRecursion P qs → AllByRecursion P (put_place p qs) → AllByRecursion P (cond b (p ∷ q ∷ qs) (q ∷ put_place p qs))
all_put_at P p q qs true new here all rest = (new, (here, all))
all_put_at P p q qs false new here all rest = (here, rest)

all_put : (P : OpenPlace → Type 0) (p : OpenPlace) (qs : List OpenPlace) → P p → AllByRecursion P qs → AllByRecursion P (put_place p qs)
all_put P p [] new all = (new, tt)
all_put P p (q ∷ qs) new all = all_put_at P p q qs (is_lt (place_cmp p q)) new all.0 all.1 (all_put P p qs new all.1)

put_all_at : (P : OpenPlace → Type 0) (p q : OpenPlace) (qs : List OpenPlace) (b : Bool) → AllByRecursion P (cond b (p ∷ q ∷ qs) (q ∷ put_place p qs))
    → (AllByRecursion P (put_place p qs) → AllByRecursion P (p ∷ qs)) → AllByRecursion P (p ∷ q ∷ qs)
put_all_at P p q qs true all rest = all
put_all_at P p q qs false all rest = let both = rest all.1 in (both.0, (all.0, both.1))

put_all : (P : OpenPlace → Type 0) (p : OpenPlace) (qs : List OpenPlace) → AllByRecursion P (put_place p qs) → AllByRecursion P (p ∷ qs)
put_all P p [] all = all
put_all P p (q ∷ qs) all = put_all_at P p q qs (is_lt (place_cmp p q)) all (put_all P p qs)

covers_sorted : (ps : List OpenPlace) → Covers ps (sorted_places ps)
covers_sorted [] P all = tt
covers_sorted (p ∷ ps) P all = all_put P p (sorted_places ps) all.0 (covers_sorted ps P all.1)

sorted_covers : (ps : List OpenPlace) → Covers (sorted_places ps) ps
sorted_covers [] P all = tt
sorted_covers (p ∷ ps) P all = let both = put_all P p (sorted_places ps) all in (both.0, sorted_covers ps P both.1)

rises_at : (p q : OpenPlace) (qs : List OpenPlace) (b : Bool) → is_lt (place_cmp p q) ≡ b → place_cmp p q ≢ Equal → IsStrictlySortedBy place_cmp (q ∷ qs) → IsStrictlySortedBy place_cmp (put_place p qs)
    → IsStrictlySortedBy place_cmp (cond b (p ∷ q ∷ qs) (q ∷ put_place p qs))
unfolding IsStrictlySortedBy
rises_at p q qs true e n up rest =
    let below = is_less (place_cmp p q) e in
    ((below, all_more _ _ qs (λ x l. total.trans p q x below l) up.0), up)
rises_at p q qs false e n up rest =
    (all_put (Below q) p qs (less_by q p (place_cmp q p) refl (λ same. n (total.antisymm p q ∙ ap ordering_reverse same)) e) up.0, rest)

rises_put : (p : OpenPlace) (qs : List OpenPlace) → AllByRecursion (λ q. same_place p q ≡ false) qs → IsStrictlySortedBy place_cmp qs → IsStrictlySortedBy place_cmp (put_place p qs)
unfolding IsStrictlySortedBy
rises_put p [] other up = (tt, tt)
rises_put p (q ∷ qs) other up = rises_at p q qs (is_lt (place_cmp p q)) refl (unequal p q other.0) up (rises_put p qs other.1 up.1)

rises_sorted : (ps : List OpenPlace) → IsDistinct same_place ps → IsStrictlySortedBy place_cmp (sorted_places ps)
unfolding IsDistinct IsStrictlySortedBy
rises_sorted [] apart = tt
rises_sorted (p ∷ ps) apart = rises_put p (sorted_places ps) (covers_sorted ps (λ q. same_place p q ≡ false) apart.0) (rises_sorted ps apart.1)

flips : (x y : OpenPlace) → same_place x y ≡ same_place y x
flips x y = at (same_place x y) refl
  where
    at : (b : Bool) → same_place x y ≡ b → same_place x y ≡ same_place y x
    at true e = let h : same_place y x ≡ true = grind (arith, nat_tests) in e ∙ sym h
    at false e = e ∙ sym (turned x.id y.id e)

-- in the order of the ids they are sorted by insertion
sorted_so : (ps qs : List OpenPlace) → IsDistinct same_place ps → IsPermutation ps qs → IsSorted place_cmp qs → qs ≡ sorted_places ps
sorted_so ps qs apart same sorted =
    one_order qs (sorted_places ps) (strictly qs sorted (IsDistinct-IsPermutation same_place flips ps qs same apart)) (rises_sorted ps apart)
    (λ P all. covers_sorted ps P (covers_permuted qs ps (IsPermutation-sym ps qs same) P all))
    (λ P all. covers_permuted ps qs same P (sorted_covers ps P all))

-- ---- what is at the places

placed_put_at : (ts : List (Option Activation)) (p q : OpenPlace) (o x : Open) (ps : List OpenPlace) (os : List Open) (b : Bool) → is_lt (place_cmp p q) ≡ b
    → p.id ≡ o.task.id → get_or ts p.place None ≡ Some o.task → ArePlaced ts (q ∷ ps) (x ∷ os) → (ArePlaced ts ps os → ArePlaced ts (put_place p ps) (put_by_id o os))
    → ArePlaced ts (put_place p (q ∷ ps)) (put_by_id o (x ∷ os))
placed_put_at ts p q o x ps os true e id here all rest =
    let f : is_lt (text_cmp (id_numbers o.task.id) (id_numbers x.task.id)) ≡ true = rw (← id, ← all.0) e in
    rw (e, f) (id, here, all)
placed_put_at ts p q o x ps os false e id here all rest =
    let f : is_lt (text_cmp (id_numbers o.task.id) (id_numbers x.task.id)) ≡ false = rw (← id, ← all.0) e in
    rw (e, f) (all.0, all.1, rest all.2)

placed_put : (ts : List (Option Activation)) (p : OpenPlace) (o : Open) (ps : List OpenPlace) (os : List Open) → p.id ≡ o.task.id → get_or ts p.place None ≡ Some o.task → ArePlaced ts ps os
    → ArePlaced ts (put_place p ps) (put_by_id o os)
placed_put ts p o [] [] id here all = (id, here, tt)
placed_put ts p o [] (x ∷ os) id here all = absurd all
placed_put ts p o (q ∷ ps) [] id here all = absurd all
placed_put ts p o (q ∷ ps) (x ∷ os) id here all = placed_put_at ts p q o x ps os (is_lt (place_cmp p q)) refl id here all (placed_put ts p o ps os id here)

placed_sorted : (ts : List (Option Activation)) (ps : List OpenPlace) (os : List Open) → ArePlaced ts ps os → ArePlaced ts (sorted_places ps) (sorted_by_id os)
placed_sorted ts [] [] all = tt
placed_sorted ts [] (o ∷ os) all = absurd all
placed_sorted ts (p ∷ ps) [] all = absurd all
placed_sorted ts (p ∷ ps) (o ∷ os) all = placed_put ts p o (sorted_places ps) (sorted_by_id os) all.0 all.1 (placed_sorted ts ps os all.2)

others_placed : (ts : List (Option Activation)) (p : OpenPlace) (o : Open) (ps : List OpenPlace) (os : List Open) → p.id ≡ o.task.id → ArePlaced ts ps os → IsOther o os → AllByRecursion (λ q. same_place p q ≡ false) ps
others_placed ts p o [] [] id all other = tt
others_placed ts p o [] (x ∷ os) id all other = absurd all
others_placed ts p o (q ∷ ps) [] id all other = absurd all
others_placed ts p o (q ∷ ps) (x ∷ os) id all other = (rw (id, all.0) other.0, others_placed ts p o ps os id all.2 other.1)

distinct_placed : (ts : List (Option Activation)) (ps : List OpenPlace) (os : List Open) → ArePlaced ts ps os → IsDistinct same_open os → IsDistinct same_place ps
unfolding IsDistinct
distinct_placed ts [] [] all apart = tt
distinct_placed ts [] (o ∷ os) all apart = absurd all
distinct_placed ts (p ∷ ps) [] all apart = absurd all
distinct_placed ts (p ∷ ps) (o ∷ os) all apart = (others_placed ts p o ps os all.0 all.2 apart.0, distinct_placed ts ps os all.2 apart.1)

-- where the ids differ, what is open, sorted by its ids, is at the sorted places
pub placed_by_ids : (ts : List (Option Activation)) (ps : List OpenPlace) (os : List Open) → ArePlaced ts (placed 0 ts) os → IsDistinct same_open os → IsByIds ts ps → ArePlaced ts ps (sorted_by_id os)
placed_by_ids ts ps os all apart sorted =
    subst (λ (qs : List OpenPlace). ArePlaced ts qs (sorted_by_id os)) (sym (sorted_so (placed 0 ts) ps (distinct_placed ts (placed 0 ts) os all apart) sorted.same sorted.sorted))
    (placed_sorted ts (placed 0 ts) os all)
