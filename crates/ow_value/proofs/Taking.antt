-- One more item or member that was taken from `serde_json`'s value.
use Rattle.std.proofs.Common.{◌≡◌, ℕ, List, [], ◌∷◌, ◌++◌, map, Option, Some, None, option_map, option_and_then, String, Global, Less, string_bytes, refl, sym, ap, ◌∙◌, subst, append-nil, length, arith}
use Rattle.std.specs.List.{AllByRecursion}
use Rattle.std.specs.List.Sorted.{IsStrictlySortedBy}
use Rattle.std.specs.Map.{keys_of}
use Rattle.std.specs.String.{string_cmp}
use Rattle.std.proofs.lemmas.List.{append_assoc, map-append}
use Rattle.serde_json.specs.View.{view as data_view, items_view, members_view}
use Rattle.serde_json.specs.declared.value.Value.{Value}
use Rattle.ow_value.specs.Value.{V, Pairs, Items, no_items, item, Members, no_members, member, items_of, members_of, text_cmp, AreParams}
use Rattle.ow_value.specs.Onto.{onto, members_onto}
use Rattle.ow_value.specs.Read.{whole_of, whole_items, whole_members}
use Rattle.ow_value.specs.View.{view, views, pair_view, pair_views}
use Rattle.ow_value.specs.declared.val.Pair.{Pair}
use Rattle.ow_value.specs.declared.val.Val.{Val}

pub none_left : {X : Type 0} (xs : List X) → length xs ≡ 0 → xs ≡ []
none_left [] e = refl
none_left (x ∷ xs) e = absurd (omega arith)

pub views-snoc : (xs : List Val) (x : Val) → views (xs ++ x ∷ []) ≡ views xs ++ view x ∷ []
views-snoc xs x = map-append view xs (x ∷ [])

pub pair_views-snoc : (ps : List Pair) (p : Pair) → pair_views (ps ++ p ∷ []) ≡ pair_views ps ++ (p.name, view p.value) ∷ []
pair_views-snoc ps p = map-append pair_view ps (p ∷ [])

keys_of-snoc : (ps : Pairs) (k : List ℕ) (v : V) → keys_of (ps ++ (k, v) ∷ []) ≡ keys_of ps ++ k ∷ []
keys_of-snoc ps k v = map-append (λ p. p.0) ps ((k, v) ∷ [])

onto-snoc : (vs : List V) (v : V) (r : Items) → onto (vs ++ v ∷ []) r ≡ onto vs (item v r)
onto-snoc [] v r = refl
onto-snoc (w ∷ vs) v r = ap (item w) (onto-snoc vs v r)

members_onto-snoc : (ps : Pairs) (k : List ℕ) (v : V) (r : Members) → members_onto (ps ++ (k, v) ∷ []) r ≡ members_onto ps (member k v r)
members_onto-snoc [] k v r = refl
members_onto-snoc (p ∷ ps) k v r = ap (member p.0 p.1) (members_onto-snoc ps k v r)

onto-nil : (vs : List V) → onto vs no_items ≡ items_of vs
onto-nil [] = refl
onto-nil (v ∷ vs) = ap (item v) (onto-nil vs)

members_onto-nil : (ps : Pairs) → members_onto ps no_members ≡ members_of ps
members_onto-nil [] = refl
members_onto-nil (p ∷ ps) = ap (member p.0 p.1) (members_onto-nil ps)

onto_more : (vs : List V) (v : V) (o : Option Items) → option_map (onto (vs ++ v ∷ [])) o ≡ option_map (onto vs) (option_map (item v) o)
onto_more vs v None = refl
onto_more vs v (Some r) = ap Some (onto-snoc vs v r)

members_onto_more : (ps : Pairs) (k : List ℕ) (v : V) (o : Option Members) → option_map (members_onto (ps ++ (k, v) ∷ [])) o ≡ option_map (members_onto ps) (option_map (member k v) o)
members_onto_more ps k v None = refl
members_onto_more ps k v (Some r) = ap Some (members_onto-snoc ps k v r)

pub item_taken : (done new : List Val) (x : Val) (old rest : List Value) (d : Value) (all : Option Items) → new ≡ done ++ x ∷ [] → old ≡ d ∷ rest → whole_of (data_view d) ≡ Some (view x)
    → option_map (onto (views done)) (whole_items (items_view old)) ≡ all → option_map (onto (views new)) (whole_items (items_view rest)) ≡ all
item_taken done new x old rest d all is_new is_old is_x h =
    ap (λ ys. option_map (onto (views ys)) (whole_items (items_view rest))) is_new
    ∙ ap (λ vs. option_map (onto vs) (whole_items (items_view rest))) (views-snoc done x)
    ∙ onto_more (views done) (view x) (whole_items (items_view rest))
    ∙ sym (ap (λ o. option_map (onto (views done)) (option_and_then (λ v. option_map (item v) (whole_items (items_view rest))) o)) is_x)
    ∙ sym (ap (λ ys. option_map (onto (views done)) (whole_items (items_view ys))) is_old)
    ∙ h

pub items_taken : (done : List Val) (rest : List Value) (all : Option Items) → rest ≡ [] → option_map (onto (views done)) (whole_items (items_view rest)) ≡ all → all ≡ Some (items_of (views done))
items_taken done rest all e h = sym h ∙ ap (λ ys. option_map (onto (views done)) (whole_items (items_view ys))) e ∙ ap Some (onto-nil (views done))

abbrev pub Entry : Type 0
Entry = String Global × Value

pub member_taken : (done new : List Pair) (p : Pair) (old rest : List Entry) (e : Entry) (all : Option Members) → new ≡ done ++ p ∷ [] → old ≡ e ∷ rest → p.name ≡ string_bytes e.0 → whole_of (data_view e.1) ≡ Some (view p.value)
    → option_map (members_onto (pair_views done)) (whole_members (members_view old)) ≡ all → option_map (members_onto (pair_views new)) (whole_members (members_view rest)) ≡ all
member_taken done new p old rest e all is_new is_old is_k is_x h =
    ap (λ ys. option_map (members_onto (pair_views ys)) (whole_members (members_view rest))) is_new
    ∙ ap (λ vs. option_map (members_onto vs) (whole_members (members_view rest))) (pair_views-snoc done p)
    ∙ members_onto_more (pair_views done) p.name (view p.value) (whole_members (members_view rest))
    ∙ ap (λ k. option_map (members_onto (pair_views done)) (option_map (member k (view p.value)) (whole_members (members_view rest)))) is_k
    ∙ sym (ap (λ o. option_map (members_onto (pair_views done)) (option_and_then (λ v. option_map (member (string_bytes e.0) v) (whole_members (members_view rest))) o)) is_x)
    ∙ sym (ap (λ ys. option_map (members_onto (pair_views done)) (whole_members (members_view ys))) is_old)
    ∙ h

pub members_taken : (done : List Pair) (rest : List Entry) (all : Option Members) → rest ≡ [] → option_map (members_onto (pair_views done)) (whole_members (members_view rest)) ≡ all → all ≡ Some (members_of (pair_views done))
members_taken done rest all e h = sym h ∙ ap (λ ys. option_map (members_onto (pair_views done)) (whole_members (members_view ys))) e ∙ ap Some (members_onto-nil (pair_views done))

-- ---- the names

pub name_taken : (done new : List Pair) (p : Pair) (old rest : List Entry) (e : Entry) (all : List (List ℕ)) → new ≡ done ++ p ∷ [] → old ≡ e ∷ rest → p.name ≡ string_bytes e.0
    → keys_of (pair_views done) ++ map string_bytes (keys_of old) ≡ all → keys_of (pair_views new) ++ map string_bytes (keys_of rest) ≡ all
name_taken done new p old rest e all is_new is_old is_k h =
    ap (λ ys. keys_of (pair_views ys) ++ map string_bytes (keys_of rest)) is_new
    ∙ ap (λ vs. keys_of vs ++ map string_bytes (keys_of rest)) (pair_views-snoc done p)
    ∙ ap (λ ks. ks ++ map string_bytes (keys_of rest)) (keys_of-snoc (pair_views done) p.name (view p.value))
    ∙ append_assoc (keys_of (pair_views done)) (p.name ∷ []) (map string_bytes (keys_of rest))
    ∙ ap (λ k. keys_of (pair_views done) ++ k ∷ map string_bytes (keys_of rest)) is_k
    ∙ sym (ap (λ ys. keys_of (pair_views done) ++ map string_bytes (keys_of ys)) is_old)
    ∙ h

above_bytes : (k : String Global) (ks : List (String Global)) → AllByRecursion (λ y. string_cmp k y ≡ Less) ks → AllByRecursion (λ y. text_cmp (string_bytes k) y ≡ Less) (map string_bytes ks)
above_bytes k [] h = tt
above_bytes k (j ∷ ks) h = (h.0, above_bytes k ks h.1)

sorted_bytes : (ks : List (String Global)) → IsStrictlySortedBy string_cmp ks → IsStrictlySortedBy text_cmp (map string_bytes ks)
unfolding IsStrictlySortedBy
sorted_bytes [] h = tt
sorted_bytes (k ∷ ks) h = (above_bytes k ks h.0, sorted_bytes ks h.1)

pub names_taken : (done : List Pair) (rest all : List Entry) → rest ≡ [] → keys_of (pair_views done) ++ map string_bytes (keys_of rest) ≡ map string_bytes (keys_of all) → IsStrictlySortedBy string_cmp (keys_of all) → AreParams (pair_views done)
names_taken done rest all e h sorted =
    subst (IsStrictlySortedBy text_cmp) (sym (sym (append-nil (keys_of (pair_views done))) ∙ sym (ap (λ ys. keys_of (pair_views done) ++ map string_bytes (keys_of ys)) e) ∙ h)) (sorted_bytes (keys_of all) sorted)
