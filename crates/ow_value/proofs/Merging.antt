-- One turn of a merge of two lists of pairs whose names rise.
use Rattle.std.proofs.Common.{◌≡◌, ◌≢◌, ℕ, zero, suc, ◌+◌, ◌<◌, ◌≤◌, ◌⊎◌, inl, inr, List, [], ◌∷◌, ◌++◌, length, get_or, drop, Less, Equal, Greater, refl, sym, ap, ap₂, ◌∙◌, subst, append-nil, arith}
use Rattle.std.specs.List.Sorted.{IsStrictlySortedBy}
use Rattle.std.proofs.lemmas.Bool.{cases_lt}
use Rattle.std.proofs.lemmas.List.{append_assoc, drop_more, drop_all}
use Rattle.ow_value.specs.Value.{V, Pairs, text_cmp, AreParams}
use Rattle.ow_value.specs.Find.{with_pair, merge}
use Rattle.ow_value.specs.Merge.{head_order}
use Rattle.ow_value.specs.View.{pair_view, pair_views}
use Rattle.ow_value.specs.declared.val.Pair.{Pair}
use Rattle.ow_value.specs.declared.val.Val.TheVariants.{Null}
use Rattle.ow_value.proofs.Entries.{Above, above_more, above_with, rises_with}
use Rattle.ow_value.proofs.KeySearch.{equal_texts, turned}
use Rattle.ow_value.proofs.Taking.{pair_views-snoc}

above_merge : (k : List ℕ) (a b : Pairs) → Above k a → Above k b → Above k (merge a b)
above_merge k a [] g h = g
above_merge k a (q ∷ b) g h = above_with k q.0 q.1 (merge a b) h.0 (above_merge k a b g h.1)

pub AreParams-merge : (a b : Pairs) → AreParams a → AreParams (merge a b)
AreParams-merge a [] h = h
AreParams-merge a (q ∷ b) h = rises_with (merge a b) q.0 q.1 (AreParams-merge a b h)

-- ---- the first of a merge

merge_less : (p : List ℕ × V) (a b : Pairs) → Above p.0 b → merge (p ∷ a) b ≡ p ∷ merge a b
merge_less p a [] h = refl
merge_less p a (q ∷ b) h = ap (λ m. with_pair m q.0 q.1) (merge_less p a b h.1) ∙ rw (turned p.0 q.0 Less h.0)

with_first : (k : List ℕ) (v : V) (ps : Pairs) → Above k ps → with_pair ps k v ≡ (k, v) ∷ ps
with_first k v [] h = refl
with_first k v (p ∷ ps) h = rw h.0

merge_greater : (q : List ℕ × V) (a b : Pairs) → Above q.0 a → Above q.0 b → merge a (q ∷ b) ≡ q ∷ merge a b
merge_greater q a b g h = with_first q.0 q.1 (merge a b) (above_merge q.0 a b g h)

-- an empty list merged with b is b
pub merge_none : (b : Pairs) → AreParams b → merge [] b ≡ b
unfolding IsStrictlySortedBy
merge_none [] h = refl
merge_none (q ∷ b) h = merge_greater q [] b tt h.0 ∙ ap (λ r. q ∷ r) (merge_none b h.1)

merge_equal : (p q : List ℕ × V) (a b : Pairs) → text_cmp p.0 q.0 ≡ Equal → Above q.0 b → merge (p ∷ a) (q ∷ b) ≡ q ∷ merge a b
merge_equal p q a b e h =
    let same = equal_texts p.0 q.0 e in
    ap (λ m. with_pair m q.0 q.1) (merge_less p a b (subst (λ k. Above k b) (sym same) h))
    ∙ rw (turned p.0 q.0 Equal e) (ap (λ k. (k, q.1) ∷ merge a b) same)

-- a member whose name comes again may be passed over
merge_again : (p q : List ℕ × V) (a b : Pairs) → text_cmp p.0 q.0 ≡ Equal → Above p.0 a → Above q.0 b → merge a (q ∷ b) ≡ merge (p ∷ a) (q ∷ b)
merge_again p q a b e g h = merge_greater q a b (subst (λ k. Above k a) (equal_texts p.0 q.0 e) g) h ∙ sym (merge_equal p q a b e h)

-- ---- over the pairs in memory

first_above : (p : Pair) (ps : List Pair) → AreParams (pair_views (p ∷ ps)) → Above p.name (pair_views ps)
unfolding IsStrictlySortedBy
first_above p ps h = h.0

AreParams-drop : (i : ℕ) (ps : List Pair) → AreParams (pair_views ps) → AreParams (pair_views (drop i ps))
unfolding IsStrictlySortedBy
AreParams-drop zero ps h = h
AreParams-drop (suc i) [] h = h
AreParams-drop (suc i) (p ∷ ps) h = AreParams-drop i ps h.1

less_first : (p : Pair) (ps qs : List Pair) → AreParams (pair_views qs) → head_order (p ∷ ps) qs ≡ Less → merge (pair_views (p ∷ ps)) (pair_views qs) ≡ pair_view p ∷ merge (pair_views ps) (pair_views qs)
less_first p ps [] h e = refl
less_first p ps (q ∷ qs) h e = merge_less (pair_view p) (pair_views ps) (pair_views (q ∷ qs)) (e, above_more p.name q.name (pair_views qs) e (first_above q qs h))

greater_first : (q : Pair) (ps qs : List Pair) → AreParams (pair_views ps) → AreParams (pair_views (q ∷ qs)) → head_order ps (q ∷ qs) ≡ Greater → merge (pair_views ps) (pair_views (q ∷ qs)) ≡ pair_view q ∷ merge (pair_views ps) (pair_views qs)
greater_first q [] qs g h e = merge_greater (pair_view q) [] (pair_views qs) tt (first_above q qs h)
greater_first q (p ∷ ps) qs g h e =
    let lt = turned p.name q.name Greater e in
    merge_greater (pair_view q) (pair_views (p ∷ ps)) (pair_views qs) (lt, above_more q.name p.name (pair_views ps) lt (first_above p ps g)) (first_above q qs h)

again_first : (p q : Pair) (ps qs : List Pair) → AreParams (pair_views (p ∷ ps)) → AreParams (pair_views (q ∷ qs)) → text_cmp p.name q.name ≡ Equal → merge (pair_views ps) (pair_views (q ∷ qs)) ≡ merge (pair_views (p ∷ ps)) (pair_views (q ∷ qs))
again_first p q ps qs g h e = merge_again (pair_view p) (pair_view q) (pair_views ps) (pair_views qs) e (first_above p ps g) (first_above q qs h)

pushed : (done new : List Pair) (p : Pair) (rest all : Pairs) → new ≡ done ++ p ∷ [] → pair_views done ++ pair_view p ∷ rest ≡ all → pair_views new ++ rest ≡ all
pushed done new p rest all e h = ap (λ ps. pair_views ps ++ rest) e ∙ ap (λ ps. ps ++ rest) (pair_views-snoc done p) ∙ append_assoc (pair_views done) (pair_view p ∷ []) rest ∙ h

here : (xs : List Pair) (i : ℕ) (p : Pair) → i < length xs → p ≡ get_or xs i p → drop i xs ≡ p ∷ drop (i + 1) xs
here xs i p lt e = drop_more xs i p lt ∙ ap (λ x. x ∷ drop (i + 1) xs) (sym e)

no_less : (qs : List Pair) → head_order [] qs ≢ Less
no_less [] e = cc
no_less (q ∷ qs) e = cc

no_greater : (ps : List Pair) → head_order ps [] ≢ Greater
no_greater [] e = cc
no_greater (p ∷ ps) e = cc

no_equal_left : (q : Pair) (qs : List Pair) → head_order [] (q ∷ qs) ≢ Equal
no_equal_left q qs e = cc

pub less_in_range : (xs ys : List Pair) (i j : ℕ) → head_order (drop i xs) (drop j ys) ≡ Less → i < length xs
less_in_range xs ys i j e = elim (cases_lt i (length xs)) [
  | inl lt ↦ lt
  | inr le ↦ absurd (no_less (drop j ys) (ap (λ zs. head_order zs (drop j ys)) (sym (drop_all i xs le)) ∙ e))
]

pub greater_in_range : (xs ys : List Pair) (i j : ℕ) → head_order (drop i xs) (drop j ys) ≡ Greater → j < length ys
greater_in_range xs ys i j e = elim (cases_lt j (length ys)) [
  | inl lt ↦ lt
  | inr le ↦ absurd (no_greater (drop i xs) (ap (head_order (drop i xs)) (sym (drop_all j ys le)) ∙ e))
]

no_equal_right : (p : Pair) (ps : List Pair) → head_order (p ∷ ps) [] ≢ Equal
no_equal_right p ps e = cc

pub equal_in_range : (xs ys : List Pair) (i j : ℕ) → (i < length xs) ⊎ (j < length ys) → head_order (drop i xs) (drop j ys) ≡ Equal → (i < length xs) × (j < length ys)
equal_in_range xs ys i j (inl lt) e = (
  lt,
  elim (cases_lt j (length ys)) [
    | inl lt_j ↦ lt_j
    | inr le ↦ absurd (no_equal_right (get_or xs i (record { name = []; value = Null })) (drop (i + 1) xs) (ap₂ head_order (sym (first_of_xs lt)) (sym (drop_all j ys le)) ∙ e))
  ],
)
  where
    first_of_xs : i < length xs → drop i xs ≡ get_or xs i (record { name = []; value = Null }) ∷ drop (i + 1) xs
    first_of_xs h = drop_more xs i _ h
equal_in_range xs ys i j (inr lt) e = (
  elim (cases_lt i (length xs)) [
    | inl lt_i ↦ lt_i
    | inr le ↦ absurd (no_equal_left (get_or ys j (record { name = []; value = Null })) (drop (j + 1) ys) (ap₂ head_order (sym (drop_all i xs le)) (sym (first_of_ys lt)) ∙ e))
  ],
  lt,
)
  where
    first_of_ys : j < length ys → drop j ys ≡ get_or ys j (record { name = []; value = Null }) ∷ drop (j + 1) ys
    first_of_ys h = drop_more ys j _ h

-- where one list is at its end
pub ends_greater : (xs ys : List Pair) (i j : ℕ) → i ≡ length xs → j < length ys → Greater ≡ head_order (drop i xs) (drop j ys)
ends_greater xs ys i j e lt = sym (ap₂ head_order (drop_all i xs (omega arith)) (drop_more ys j (record { name = []; value = Null }) lt))

pub ends_less : (xs ys : List Pair) (i j : ℕ) → i < length xs → j ≡ length ys → Less ≡ head_order (drop i xs) (drop j ys)
ends_less xs ys i j lt e = sym (ap₂ head_order (drop_more xs i (record { name = []; value = Null }) lt) (drop_all j ys (omega arith)))

-- where both have a member of one name
pub equal_turn : (xs ys done : List Pair) (i j : ℕ) (all : Pairs) → AreParams (pair_views xs) → AreParams (pair_views ys) → i < length xs → j < length ys → head_order (drop i xs) (drop j ys) ≡ Equal
    → pair_views done ++ merge (pair_views (drop i xs)) (pair_views (drop j ys)) ≡ all → pair_views done ++ merge (pair_views (drop (i + 1) xs)) (pair_views (drop j ys)) ≡ all
equal_turn xs ys done i j all g h lt_i lt_j e kept =
    let d : Pair = record { name = []; value = Null } in
    let is_x = drop_more xs i d lt_i in
    let is_y = drop_more ys j d lt_j in
    let x_ok = subst (λ zs. AreParams (pair_views zs)) is_x (AreParams-drop i xs g) in
    let y_ok = subst (λ zs. AreParams (pair_views zs)) is_y (AreParams-drop j ys h) in
    let again = again_first (get_or xs i d) (get_or ys j d) (drop (i + 1) xs) (drop (j + 1) ys) x_ok y_ok (ap₂ head_order (sym is_x) (sym is_y) ∙ e) in
    let same : merge (pair_views (drop (i + 1) xs)) (pair_views (drop j ys)) ≡ merge (pair_views (drop i xs)) (pair_views (drop j ys)) =
    ap (λ zs. merge (pair_views (drop (i + 1) xs)) (pair_views zs)) is_y ∙ again ∙ ap₂ (λ zs ws. merge (pair_views zs) (pair_views ws)) (sym is_x) (sym is_y) in
    ap (λ m. pair_views done ++ m) same ∙ kept

module _ (xs ys : List Pair) (g : AreParams (pair_views xs)) (h : AreParams (pair_views ys)) (done new : List Pair) (i j : ℕ) (p : Pair) (all : Pairs) (is_new : new ≡ done ++ p ∷ []) (kept : pair_views done ++ merge (pair_views (drop i xs)) (pair_views (drop j ys)) ≡ all) where
  pub less_turn : head_order (drop i xs) (drop j ys) ≡ Less → p ≡ get_or xs i p → pair_views new ++ merge (pair_views (drop (i + 1) xs)) (pair_views (drop j ys)) ≡ all
  less_turn e at =
      let is = here xs i p (less_in_range xs ys i j e) at in
      pushed done new p _ all is_new (ap (λ m. pair_views done ++ m) (sym (ap (λ zs. merge (pair_views zs) (pair_views (drop j ys))) is ∙ less_first p (drop (i + 1) xs) (drop j ys) (AreParams-drop j ys h) (ap (λ zs. head_order zs (drop j ys)) (sym is) ∙ e))) ∙ kept)

  pub greater_turn : head_order (drop i xs) (drop j ys) ≡ Greater → p ≡ get_or ys j p → pair_views new ++ merge (pair_views (drop i xs)) (pair_views (drop (j + 1) ys)) ≡ all
  greater_turn e at =
      let is = here ys j p (greater_in_range xs ys i j e) at in
      pushed done new p _ all is_new (ap (λ m. pair_views done ++ m) (sym (ap (λ zs. merge (pair_views (drop i xs)) (pair_views zs)) is ∙ greater_first p (drop i xs) (drop (j + 1) ys) (AreParams-drop i xs g) (subst (λ zs. AreParams (pair_views zs)) is (AreParams-drop j ys h)) (ap (head_order (drop i xs)) (sym is) ∙ e))) ∙ kept)

-- what equals the pair at a place is at that place
pub stands : (xs : List Pair) (i : ℕ) (p q : Pair) → q ≡ p → p ≡ get_or xs i p → q ≡ get_or xs i q
stands xs i p q e at = subst (λ z. z ≡ get_or xs i z) (sym e) at

-- where both lists are at their end
pub merged : (xs ys done : List Pair) (i j : ℕ) → length xs ≤ i → length ys ≤ j → pair_views done ++ merge (pair_views (drop i xs)) (pair_views (drop j ys)) ≡ merge (pair_views xs) (pair_views ys)
    → merge (pair_views xs) (pair_views ys) ≡ pair_views done
merged xs ys done i j x y h = sym h ∙ ap₂ (λ zs ws. pair_views done ++ merge (pair_views zs) (pair_views ws)) (drop_all i xs x) (drop_all j ys y) ∙ append-nil (pair_views done)
