-- Templates filled one child after another.
use Rattle.std.proofs.Common.{◌≡◌, Option, ℕ, zero, suc, ◌+◌, ◌<◌, ◌≤◌, List, [], ◌∷◌, ◌++◌, length, get_or, take, map, Less, refl, sym, ap, ◌∙◌, subst, arith}
use Rattle.std.specs.Option.{unwrap_or}
use Rattle.std.specs.List.Sorted.{IsStrictlySortedBy}
use Rattle.std.proofs.lemmas.List.{map_more, take_all}
use Rattle.ow_value.specs.Value.{V, Pairs, object, item, member, items_of, members_of, text_cmp, AreParams, depth, items_depth, members_depth}
use Rattle.ow_value.specs.Field.{pairs_in-members_of}
use Rattle.ow_value.specs.Find.{with_pair}
use Rattle.ow_value.specs.View.{view, views, pair_view, pair_views}
use Rattle.ow_value.specs.declared.val.Pair.{Pair}
use Rattle.ow_value.specs.declared.val.Val.{Val}
use Rattle.ow_value.proofs.KeySearch.{key_through, turned}
use Rattle.ow_runners.specs.PlainReply.{filled, filled_items, filled_members, hole}

-- a template's value
abbrev pub filled_value : Pairs → Val → V
filled_value params v = filled params (view v)

-- a member's name, with that of its template
abbrev pub filled_pair : Pairs → Pair → List ℕ × V
filled_pair params p = (p.name, filled params (view p.value))

pub items_filled : (params : Pairs) (xs : List Val) → items_of (map (filled_value params) xs) ≡ filled_items params (items_of (views xs))
items_filled params [] = refl
items_filled params (x ∷ xs) = ap (item (filled params (view x))) (items_filled params xs)

pub members_filled : (params : Pairs) (ps : List Pair) → members_of (map (filled_pair params) ps) ≡ filled_members params (members_of (pair_views ps))
members_filled params [] = refl
members_filled params (p ∷ ps) = ap (member p.name (filled params (view p.value))) (members_filled params ps)

pub items_done : (params : Pairs) (xs : List Val) (i : ℕ) (vs : List V) → length xs ≤ i → vs ≡ map (filled_value params) (take i xs) → items_of vs ≡ filled_items params (items_of (views xs))
items_done params xs i vs le e = ap items_of (e ∙ ap (λ ys. map (filled_value params) ys) (take_all i xs le)) ∙ items_filled params xs

pub members_done : (params : Pairs) (ps : List Pair) (i : ℕ) (qs : Pairs) → length ps ≤ i → qs ≡ map (filled_pair params) (take i ps) → members_of qs ≡ filled_members params (members_of (pair_views ps))
members_done params ps i qs le e = ap members_of (e ∙ ap (λ ys. map (filled_pair params) ys) (take_all i ps le)) ∙ members_filled params ps

-- an object, by the value that replaces it where it is a hole
pub filled_object : (params ms : Pairs) (o : Option V) → o ≡ hole params ms → unwrap_or o (object (filled_members params (members_of ms))) ≡ filled params (object (members_of ms))
filled_object params ms o e =
    ap (λ h. unwrap_or h (object (filled_members params (members_of ms)))) e
    ∙ ap (λ qs. unwrap_or (hole params qs) (object (filled_members params (members_of ms)))) (sym (pairs_in-members_of ms))

-- the names rise, so each is put after the last
appended : (params : Pairs) (ps : List Pair) (i : ℕ) (p : Pair) → AreParams (pair_views ps) → i < length ps → p ≡ get_or ps i p
    → with_pair (map (filled_pair params) (take i ps)) p.name (filled params (view p.value)) ≡ map (filled_pair params) (take i ps) ++ filled_pair params p ∷ []
unfolding IsStrictlySortedBy
appended params [] i p h lt at = absurd (omega (arith, lt))
appended params (q ∷ ps) zero p h lt at = refl
appended params (q ∷ ps) (suc i) p h lt at =
    let above = key_through (λ e. e.0) pair_view (λ k. text_cmp q.name k ≡ Less) ps i p h.0 (omega (arith, lt)) in
    rw (turned q.name p.name Less (subst (λ (z : Pair). text_cmp q.name z.name ≡ Less) (sym at) above))
    (ap (λ m. filled_pair params q ∷ m) (appended params ps i p h.1 (omega (arith, lt)) at))

pub filled_next : (params : Pairs) (ps : List Pair) (i : ℕ) (p : Pair) → AreParams (pair_views ps) → i < length ps → p ≡ get_or ps i p
    → with_pair (map (filled_pair params) (take i ps)) p.name (filled params (view p.value)) ≡ map (filled_pair params) (take (i + 1) ps)
filled_next params ps i p h lt at =
    appended params ps i p h lt at ∙ ap (λ q. map (filled_pair params) (take i ps) ++ filled_pair params q ∷ []) at ∙ sym (map_more (filled_pair params) ps i p lt)

-- ---- each child nests less deep

pub item_nests : (xs : List Val) (i : ℕ) (x : Val) → i < length xs → x ≡ get_or xs i x → depth (view x) ≤ items_depth (items_of (views xs))
item_nests [] i x lt at = absurd (omega (arith, lt))
item_nests (y ∷ xs) zero x lt at = rw (ap (λ z. depth (view z)) at) (omega arith)
item_nests (y ∷ xs) (suc i) x lt at = let h = item_nests xs i x (omega (arith, lt)) at in omega arith

pub member_nests : (ps : List Pair) (i : ℕ) (p : Pair) → i < length ps → p ≡ get_or ps i p → depth (view p.value) ≤ members_depth (members_of (pair_views ps))
member_nests [] i p lt at = absurd (omega (arith, lt))
member_nests (q ∷ ps) zero p lt at = rw (ap (λ (z : Pair). depth (view z.value)) at) (omega arith)
member_nests (q ∷ ps) (suc i) p lt at = let h = member_nests ps i p (omega (arith, lt)) at in omega arith
