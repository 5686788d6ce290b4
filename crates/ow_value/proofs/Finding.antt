-- What a search among the names of members finds, and a write at that place.
use Rattle.std.proofs.Common.{◌≡◌, ℕ, zero, suc, ◌+◌, ◌<◌, ◌≤◌, List, [], ◌∷◌, ◌++◌, length, get_or, set, take, drop, Some, None, Less, Equal, refl, sym, ap, ap₂, ◌∙◌, subst, arith}
use Rattle.std.specs.List.Sorted.{IsStrictlySortedBy}
use Rattle.std.proofs.lemmas.List.{get_or-map, map_more, map-set, map-append, take-map, drop-map, length-map}
use Rattle.ow_value.specs.Value.{V, Pairs, text_cmp, AreParams}
use Rattle.ow_value.specs.Find.{find, with_pair}
use Rattle.ow_value.specs.View.{view, pair_view, pair_views}
use Rattle.ow_value.specs.declared.val.Pair.{Pair}
use Rattle.ow_value.specs.declared.val.Val.{Val}
use Rattle.ow_value.proofs.Entries.{lookup_at, lookup_nowhere, insert_at_equal, insert_between}
use Rattle.ow_value.proofs.KeySearch.{key_through, turned, StandsAt, PartsAt, parted, parts_through}

abbrev name_of : Pair → List ℕ
name_of p = p.name

inside : (ps : List Pair) (i : ℕ) → i < length ps → i < length (pair_views ps)
inside ps i lt = omega (arith, length-map ps pair_view, lt)

pub found_at : (name : List ℕ) (ps : List Pair) (i : ℕ) (d : Pair) → AreParams (pair_views ps) → i < length ps → text_cmp (get_or ps i d).name name ≡ Equal → find name (pair_views ps) ≡ Some (view (get_or ps i d).value)
found_at name ps i d h lt e =
    let at = get_or-map pair_view ps i d (pair_view d) lt in
    lookup_at name (pair_views ps) i (pair_view d) h (inside ps i lt) (ap (λ (q : List ℕ × V). text_cmp q.0 name) at ∙ e) ∙ ap (λ (q : List ℕ × V). Some q.1) at

-- where the names part into those below and those above
pub absent : (name : List ℕ) (ps : List Pair) (i : ℕ) → i ≤ length ps → PartsAt name_of name ps i → find name (pair_views ps) ≡ None
absent name ps i le h = lookup_nowhere name (pair_views ps) (parted (λ p. p.0) name (pair_views ps) i (parts_through (λ p. p.0) pair_view name ps i le h))

-- ---- a write at that place

with_at_equal : (k : List ℕ) (w : Val) (ps : List Pair) (i : ℕ) (d : Pair) → AreParams (pair_views ps) → i < length ps → text_cmp (get_or ps i d).name k ≡ Equal
    → with_pair (pair_views ps) k (view w) ≡ pair_views (set ps i (record { name = (get_or ps i d).name; value = w }))
with_at_equal k w ps i d h lt e =
    let at = get_or-map pair_view ps i d (pair_view d) lt in
    insert_at_equal k (view w) (pair_views ps) i (pair_view d) h (inside ps i lt) (ap (λ (q : List ℕ × V). text_cmp q.0 k) at ∙ e)
    ∙ ap (λ (q : List ℕ × V). set (pair_views ps) i (q.0, view w)) at ∙ sym (map-set pair_view ps i _)

with_at_gap : (p : Pair) (ps : List Pair) (i : ℕ) → i ≤ length ps → PartsAt name_of p.name ps i → with_pair (pair_views ps) p.name (view p.value) ≡ pair_views (take i ps ++ p ∷ drop i ps)
with_at_gap p ps i le h =
    insert_between p.name (view p.value) (pair_views ps) i (parts_through (λ p. p.0) pair_view p.name ps i le h)
    ∙ ap₂ (λ a b. a ++ pair_view p ∷ b) (take-map pair_view i ps) (drop-map pair_view i ps) ∙ sym (map-append pair_view (take i ps) (p ∷ drop i ps))

-- where each name comes after the last one
appended : (ps : List Pair) (i : ℕ) (p : Pair) → AreParams (pair_views ps) → i < length ps → p ≡ get_or ps i p → with_pair (pair_views (take i ps)) p.name (view p.value) ≡ pair_views (take i ps) ++ pair_view p ∷ []
unfolding IsStrictlySortedBy
appended [] i p h lt at = absurd (omega (arith, lt))
appended (q ∷ ps) zero p h lt at = refl
appended (q ∷ ps) (suc i) p h lt at =
    let above = key_through (λ e. e.0) pair_view (λ k. text_cmp q.name k ≡ Less) ps i p h.0 (omega (arith, lt)) in
    rw (turned q.name p.name Less (subst (λ (z : Pair). text_cmp q.name z.name ≡ Less) (sym at) above)) (ap (λ m. pair_view q ∷ m) (appended ps i p h.1 (omega (arith, lt)) at))

pub with_next : (ps : List Pair) (i : ℕ) (p : Pair) → AreParams (pair_views ps) → i < length ps → p ≡ get_or ps i p → with_pair (pair_views (take i ps)) p.name (view p.value) ≡ pair_views (take (i + 1) ps)
with_next ps i p h lt at = appended ps i p h lt at ∙ ap (λ q. pair_views (take i ps) ++ pair_view q ∷ []) at ∙ sym (map_more pair_view ps i p lt)

pub set_at : (xs ys : List Pair) (k name : List ℕ) (w : Val) (i : ℕ) (d : Pair) (old : Pairs) → ys ≡ xs → k ≡ name → AreParams (pair_views xs) → StandsAt name_of k ys i → d ≡ get_or xs i d → pair_views xs ≡ old
    → pair_views (set xs i (record { name = d.name; value = w })) ≡ with_pair old name (view w)
set_at xs ys k name w i d old e f s h at o =
    let h2 = subst (λ zs. StandsAt name_of k zs i) e h in
    let eq = subst (λ t. text_cmp (get_or xs i d).name t ≡ Equal) f (h2.1 d) in
    ap (λ (z : Pair). pair_views (set xs i (record { name = z.name; value = w }))) at ∙ sym (with_at_equal name w xs i d s h2.0 eq) ∙ ap (λ ps. with_pair ps name (view w)) o

pub insert_at : (xs ys new : List Pair) (k : List ℕ) (p : Pair) (i : ℕ) (old : Pairs) → ys ≡ xs → k ≡ p.name → new ≡ take i xs ++ p ∷ drop i xs → (i ≤ length ys) × PartsAt name_of k ys i → pair_views xs ≡ old
    → pair_views new ≡ with_pair old p.name (view p.value)
insert_at xs ys new k p i old e f n h o =
    let le = subst (λ zs. i ≤ length zs) e h.0 in
    let h2 = subst (λ zs. PartsAt name_of k zs i) e h.1 in
    let h3 = subst (λ t. PartsAt name_of t xs i) f h2 in
    ap pair_views n ∙ sym (with_at_gap p xs i le h3) ∙ ap (λ ps. with_pair ps p.name (view p.value)) o
