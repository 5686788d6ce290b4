-- What the values of a list and of an object keep where one more is put in.
use Rattle.std.proofs.Common.{◌≡◌, ℕ, ◌+◌, ◌<◌, List, [], ◌∷◌, ◌++◌, length, get_or, take, Ordering, Less, Equal, Greater, IsUtf8, sym, ap, ◌∙◌, subst}
use Rattle.std.specs.Ordering.{match_ordering}
use Rattle.std.proofs.lemmas.List.{map_more}
use Rattle.ow_value.specs.Value.{V, Pairs, object, items_of, members_of, text_cmp, AreParams}
use Rattle.ow_value.specs.Field.{pairs_in-members_of}
use Rattle.ow_value.specs.Find.{with_pair, merge}
use Rattle.ow_value.specs.Json.{IsValue, AreValues, AreMembers, IsObject}
use Rattle.ow_value.specs.View.{view, views, pair_views}
use Rattle.ow_value.specs.declared.val.Pair.{Pair}
use Rattle.ow_value.specs.declared.val.Val.{Val}
use Rattle.ow_value.proofs.Entries.{rises_with}
use Rattle.ow_value.proofs.Merging.{AreParams-merge}
use Rattle.ow_value.proofs.Taking.{views-snoc, pair_views-snoc}

pub IsValue-object : (ps : Pairs) → IsObject ps → IsValue (object (members_of ps))
IsValue-object ps h = (subst AreParams (sym (pairs_in-members_of ps)) h.rises, h.values)

AreValues-snoc : (vs : List V) (v : V) → AreValues (items_of vs) → IsValue v → AreValues (items_of (vs ++ v ∷ []))
AreValues-snoc [] v h is_v = (is_v, tt)
AreValues-snoc (w ∷ vs) v h is_v = (h.0, AreValues-snoc vs v h.1 is_v)

AreMembers-snoc : (ps : Pairs) (k : List ℕ) (v : V) → AreMembers (members_of ps) → IsUtf8 k → IsValue v → AreMembers (members_of (ps ++ (k, v) ∷ []))
AreMembers-snoc [] k v h utf8 is_v = (utf8, is_v, tt)
AreMembers-snoc (p ∷ ps) k v h utf8 is_v = (h.0, h.1, AreMembers-snoc ps k v h.2 utf8 is_v)

members_by : (k : List ℕ) (v : V) (p : List ℕ × V) (ps rest : Pairs) (o : Ordering) → AreMembers (members_of (p ∷ ps)) → IsUtf8 k → IsValue v → AreMembers (members_of rest) → AreMembers (members_of (match_ordering o ((k, v) ∷ p ∷ ps) ((p.0, v) ∷ ps) (p ∷ rest)))
members_by k v p ps rest Less h utf8 is_v r = (utf8, is_v, h)
members_by k v p ps rest Equal h utf8 is_v r = (h.0, is_v, h.2)
members_by k v p ps rest Greater h utf8 is_v r = (h.0, h.1, r)

AreMembers-with_pair : (ps : Pairs) (k : List ℕ) (v : V) → AreMembers (members_of ps) → IsUtf8 k → IsValue v → AreMembers (members_of (with_pair ps k v))
AreMembers-with_pair [] k v h utf8 is_v = (utf8, is_v, tt)
AreMembers-with_pair (p ∷ ps) k v h utf8 is_v = members_by k v p ps (with_pair ps k v) (text_cmp k p.0) h utf8 is_v (AreMembers-with_pair ps k v h.2 utf8 is_v)

AreMembers-merge : (a b : Pairs) → AreMembers (members_of a) → AreMembers (members_of b) → AreMembers (members_of (merge a b))
AreMembers-merge a [] h g = h
AreMembers-merge a (q ∷ b) h g = AreMembers-with_pair (merge a b) q.0 q.1 (AreMembers-merge a b h g.2) g.0 g.1

pub IsObject-with_pair : (ps : Pairs) (k : List ℕ) (v : V) → IsObject ps → IsUtf8 k → IsValue v → IsObject (with_pair ps k v)
IsObject-with_pair ps k v h utf8 is_v = record { rises = rises_with ps k v h.rises; values = AreMembers-with_pair ps k v h.values utf8 is_v }

pub IsObject-merge : (a b : Pairs) → IsObject a → IsObject b → IsObject (merge a b)
IsObject-merge a b h g = record { rises = AreParams-merge a b h.rises; values = AreMembers-merge a b h.values g.values }

-- ---- where the last was pushed

pub AreValues-pushed : (done new : List Val) (x : Val) → new ≡ done ++ x ∷ [] → AreValues (items_of (views done)) → IsValue (view x) → AreValues (items_of (views new))
AreValues-pushed done new x is_new h is_v =
    subst (λ vs. AreValues (items_of vs)) (sym (ap views is_new ∙ views-snoc done x)) (AreValues-snoc (views done) (view x) h is_v)

-- the values up to a place, and the value there
pub AreValues-more : (xs : List Val) (i : ℕ) (x : Val) → i < length xs → x ≡ get_or xs i x → AreValues (items_of (views (take i xs))) → IsValue (view x) → AreValues (items_of (views (take (i + 1) xs)))
AreValues-more xs i x lt at h is_v =
    subst (λ vs. AreValues (items_of vs)) (sym (map_more view xs i x lt ∙ ap (λ y. views (take i xs) ++ view y ∷ []) (sym at))) (AreValues-snoc (views (take i xs)) (view x) h is_v)

pub AreMembers-pushed : (done new : List Pair) (p : Pair) → new ≡ done ++ p ∷ [] → AreMembers (members_of (pair_views done)) → IsUtf8 p.name → IsValue (view p.value) → AreMembers (members_of (pair_views new))
AreMembers-pushed done new p is_new h utf8 is_v =
    subst (λ ps. AreMembers (members_of ps)) (sym (ap pair_views is_new ∙ pair_views-snoc done p)) (AreMembers-snoc (pair_views done) p.name (view p.value) h utf8 is_v)
