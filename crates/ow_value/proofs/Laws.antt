-- What a merge has at each name.
use Rattle.std.proofs.Common.{◌≡◌, ℕ, List, [], ◌∷◌, Bool, true, false, cond, Option, Some, Ordering, Less, Equal, Greater, is_eq, refl, sym, ap, ◌∙◌, subst}
use Rattle.std.specs.Ordering.{match_ordering}
use Rattle.std.proofs.lemmas.Cmp.{nat_list_cmp_total, tied_itself}
use Rattle.std.proofs.lemmas.Map.Text.{is_eq-slice_cmp}
use Rattle.std.proofs.lemmas.Slice.Eq.{bytes_eq-Decides}
use Rattle.ow_value.specs.Value.{V, Pairs, text_cmp}
use Rattle.std.specs.Option.{option_or}
use Rattle.ow_value.specs.Find.{find, with_pair, merge}
use Rattle.ow_value.proofs.KeySearch.{equal_texts}

by_order_same : (k : List ℕ) (v : V) (p : List ℕ × V) (ps rest : Pairs) (o : Ordering) → text_cmp k p.0 ≡ o → find k rest ≡ Some v → find k (match_ordering o ((k, v) ∷ p ∷ ps) ((p.0, v) ∷ ps) (p ∷ rest)) ≡ Some v
by_order_same k v p ps rest Less e h = rw (tied_itself nat_list_cmp_total k)
by_order_same k v p ps rest Equal e h = rw e
by_order_same k v p ps rest Greater e h = rw e h

find-with_pair : (k : List ℕ) (v : V) (ps : Pairs) → find k (with_pair ps k v) ≡ Some v
find-with_pair k v [] = rw (tied_itself nat_list_cmp_total k)
find-with_pair k v (p ∷ ps) = by_order_same k v p ps (with_pair ps k v) (text_cmp k p.0) refl (find-with_pair k v ps)

by_order_other : (q k : List ℕ) (v : V) (p : List ℕ × V) (ps rest : Pairs) (o : Ordering) → text_cmp k p.0 ≡ o → is_eq (text_cmp q k) ≡ false → find q rest ≡ find q ps → find q (match_ordering o ((k, v) ∷ p ∷ ps) ((p.0, v) ∷ ps) (p ∷ rest)) ≡ find q (p ∷ ps)
by_order_other q k v p ps rest Less e other h = rw other
by_order_other q k v p ps rest Equal e other h = let same = subst (λ j. is_eq (text_cmp q j) ≡ false) (equal_texts k p.0 e) other in rw same
by_order_other q k v p ps rest Greater e other h = ap (λ r. cond (is_eq (text_cmp q p.0)) (Some p.1) r) h

find-with_pair_other : (q k : List ℕ) (v : V) (ps : Pairs) → is_eq (text_cmp q k) ≡ false → find q (with_pair ps k v) ≡ find q ps
find-with_pair_other q k v [] other = rw other
find-with_pair_other q k v (p ∷ ps) other = by_order_other q k v p ps (with_pair ps k v) (text_cmp k p.0) refl other (find-with_pair_other q k v ps other)

is_same : (q k : List ℕ) → is_eq (text_cmp q k) ≡ true → q ≡ k
is_same q k e = (bytes_eq-Decides q k).0 (sym (is_eq-slice_cmp q k) ∙ e)

by_test : (q : List ℕ) (p : List ℕ × V) (rest : Pairs) (x y : Option V) (b : Bool) → is_eq (text_cmp q p.0) ≡ b → find q rest ≡ option_or x y → find q (with_pair rest p.0 p.1) ≡ option_or (cond b (Some p.1) x) y
by_test q p rest x y true e h = ap (λ j. find j (with_pair rest p.0 p.1)) (is_same q p.0 e) ∙ find-with_pair p.0 p.1 rest
by_test q p rest x y false e h = find-with_pair_other q p.0 p.1 rest e ∙ h

-- what b has, and else what a has
pub find-merge : (q : List ℕ) (a b : Pairs) → find q (merge a b) ≡ option_or (find q b) (find q a)
find-merge q a [] = refl
find-merge q a (p ∷ b) = by_test q p (merge a b) (find q b) (find q a) (is_eq (text_cmp q p.0)) refl (find-merge q a b)
