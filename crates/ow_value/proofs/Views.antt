-- A `Val` is determined by the value that it represents.
use Rattle.std.proofs.Common.{◌≡◌, ℕ, List, [], ◌∷◌, refl, sym, ap, ap₂, ◌∙◌, ◌<◌, length, get_or}
use Rattle.std.proofs.lemmas.List.{get_or_default}
use Rattle.ow_value.specs.Value.{V, Items, no_items, item, Pairs, items_of, members_of}
use Rattle.ow_value.specs.Field.{pairs_in, pairs_in-members_of}
use Rattle.ow_value.specs.View.{view, views, pair_views}
use Rattle.ow_value.specs.declared.val.Pair.{Pair}
use Rattle.ow_value.specs.declared.val.Val.{Val}
use Rattle.ow_value.specs.declared.val.Val.TheVariants.{Null, Bool, Int, Text, List as ListOf, Object}

abbrev list_of : Items → List V
list_of no_items = []
list_of (item v vs) = v ∷ list_of vs

list_of-items_of : (vs : List V) → list_of (items_of vs) ≡ vs
list_of-items_of [] = refl
list_of-items_of (v ∷ vs) = ap (λ ws. v ∷ ws) (list_of-items_of vs)

items_of-inj : (vs ws : List V) → items_of vs ≡ items_of ws → vs ≡ ws
items_of-inj vs ws e = sym (list_of-items_of vs) ∙ ap list_of e ∙ list_of-items_of ws

members_of-inj : (ps qs : Pairs) → members_of ps ≡ members_of qs → ps ≡ qs
members_of-inj ps qs e = sym (pairs_in-members_of ps) ∙ ap pairs_in e ∙ pairs_in-members_of qs

pub view-inj : (a b : Val) → view a ≡ view b → a ≡ b
view-inj Null Null e = refl
view-inj (Bool x) (Bool y) e = cc
view-inj (Int x) (Int y) e = cc
view-inj (Text x) (Text y) e = cc
view-inj (ListOf vs) (ListOf ws) e = let h : items_of vs ≡ items_of ws = cc in ap ListOf (items_of-inj vs ws h)
view-inj (Object ps) (Object qs) e = let h : members_of ps ≡ members_of qs = cc in ap Object (members_of-inj ps qs h)
view-inj a b e = cc

views-inj : (xs ys : List Val) → views xs ≡ views ys → xs ≡ ys
views-inj [] [] e = refl
views-inj (x ∷ xs) (y ∷ ys) e =
    let h : view x ≡ view y = cc in
    let t : views xs ≡ views ys = cc in
    ap₂ (λ z zs. z ∷ zs) (view-inj x y h) (views-inj xs ys t)
views-inj xs ys e = cc

abbrev head_or : {X : Type 0} → X → List X → X
head_or d [] = d
head_or d (x ∷ xs) = x

abbrev tail_of : {X : Type 0} → List X → List X
tail_of [] = []
tail_of (x ∷ xs) = xs

pair_views-inj : (ps qs : List Pair) → pair_views ps ≡ pair_views qs → ps ≡ qs
pair_views-inj [] [] e = refl
pair_views-inj (p ∷ ps) (q ∷ qs) e =
    let d : List ℕ × V = (p.name, view p.value) in
    let h0 : d ≡ (q.name, view q.value) = ap (head_or d) e in
    let n = ap (λ (r : List ℕ × V). r.0) h0 in
    let h = ap (λ (r : List ℕ × V). r.1) h0 in
    let t = ap tail_of e in
    ap₂ (λ z zs. z ∷ zs) (ap₂ (λ k v. record { name = k; value = v }) n (view-inj p.value q.value h)) (pair_views-inj ps qs t)
pair_views-inj ps qs e = cc

-- the items at one place of two equal lists are equal
same_at : {X : Type 0} (xs ys : List X) (i : ℕ) (x y : X) → i < length xs → x ≡ get_or xs i x → y ≡ get_or ys i y → xs ≡ ys → x ≡ y
same_at xs ys i x y lt at_x at_y e = at_x ∙ get_or_default xs i x y lt ∙ ap (λ zs. get_or zs i y) e ∙ sym at_y

-- so where two lists represent the same values, each item of the first equals the item of the second at its place
pub same_value_at : (xs ys : List Val) (i : ℕ) (x y : Val) (vs ws : List V) → i < length xs → x ≡ get_or xs i x → y ≡ get_or ys i y → views xs ≡ vs → views ys ≡ ws → vs ≡ ws → x ≡ y
same_value_at xs ys i x y vs ws lt at_x at_y g h e = same_at xs ys i x y lt at_x at_y (views-inj xs ys (g ∙ e ∙ sym h))

pub same_pair_at : (xs ys : List Pair) (i : ℕ) (x y : Pair) (ps qs : Pairs) → i < length xs → x ≡ get_or xs i x → y ≡ get_or ys i y → pair_views xs ≡ ps → pair_views ys ≡ qs → ps ≡ qs → x ≡ y
same_pair_at xs ys i x y ps qs lt at_x at_y g h e = same_at xs ys i x y lt at_x at_y (pair_views-inj xs ys (g ∙ e ∙ sym h))
