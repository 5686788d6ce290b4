-- The order of the texts of full names, part by part.
use Rattle.std.proofs.Common.{◌≡◌, ◌≢◌, ℕ, zero, suc, ◌<◌, ◌≤◌, ◌==◌, List, [], ◌∷◌, ◌++◌, false, length, get_or, take, min, Option, Some, None, Ordering, Less, Equal, Greater, refl, sym, ap, ◌∙◌, subst, arith}
use Rattle.std.specs.Ordering.{nat_cmp, ordering_then, ordering_reverse, MatchOrdering}
use Rattle.std.proofs.lemmas.Cmp.{ranked, nat_list_cmp_total}
use Rattle.ow_value.specs.Value.{text_cmp}
use Rattle.ow_names.specs.FullName.{local_text, full_text}
use Rattle.ow_names.specs.declared.full.FullName.{FullName}
use Rattle.ow_names.specs.Slash.{HasNoSlash}

tail_whole : (b : ℕ) (s : List ℕ) → HasNoSlash (b ∷ s) → HasNoSlash s
tail_whole b s h k d lt = h (suc k) d (omega arith)

pub then_then : (o p q : Ordering) → ordering_then o (ordering_then p q) ≡ ordering_then (ordering_then o p) q
then_then Less p q = refl
then_then Equal p q = refl
then_then Greater p q = refl

unequal : (o w : Ordering) → o ≢ Equal → ordering_then o w ≡ o
unequal Less w n = refl
unequal Equal w n = absurd (n refl)
unequal Greater w n = refl

-- a byte of a part is no slash
apart : (y : ℕ) → (y == 47) ≡ false → 47 ≡ y → ⊥
apart y h e = grind arith

differ : (y : ℕ) (s : List ℕ) → HasNoSlash (y ∷ s) → nat_cmp 47 y ≢ Equal
differ y s h e = apart y (h 0 0 (omega arith)) (subst (λ o. MatchOrdering o (47 < y) (47 ≡ y) (y < 47)) e (ranked 47 y _ refl))

differ_back : (y : ℕ) (s : List ℕ) → HasNoSlash (y ∷ s) → nat_cmp y 47 ≢ Equal
differ_back y s h e = apart y (h 0 0 (omega arith)) (sym (subst (λ o. MatchOrdering o (y < 47) (y ≡ 47) (47 < y)) e (ranked y 47 _ refl)))

-- parts followed by a slash decide before what follows
pub parts_then : (a b r s : List ℕ) → HasNoSlash a → HasNoSlash b
    → text_cmp (a ++ 47 ∷ r) (b ++ 47 ∷ s) ≡ ordering_then (text_cmp (a ++ 47 ∷ []) (b ++ 47 ∷ [])) (text_cmp r s)
parts_then [] [] r s ha hb = refl
parts_then [] (y ∷ ys) r s ha hb =
    let n = differ y ys hb in
    unequal _ _ n ∙ sym (ap (λ o. ordering_then o (text_cmp r s)) (unequal _ _ n) ∙ unequal _ _ n)
parts_then (x ∷ xs) [] r s ha hb =
    let n = differ_back x xs ha in
    unequal _ _ n ∙ sym (ap (λ o. ordering_then o (text_cmp r s)) (unequal _ _ n) ∙ unequal _ _ n)
parts_then (x ∷ xs) (y ∷ ys) r s ha hb =
    ap (ordering_then (nat_cmp x y)) (parts_then xs ys r s (tail_whole x xs ha) (tail_whole y ys hb)) ∙ then_then (nat_cmp x y) _ _

-- and so does such a part before a last one
part_then_end : (p m r : List ℕ) → HasNoSlash m → text_cmp (p ++ 47 ∷ r) m ≡ text_cmp (p ++ 47 ∷ []) m
part_then_end [] [] r h = refl
part_then_end [] (y ∷ ys) r h = let n = differ y ys h in unequal _ _ n ∙ sym (unequal _ _ n)
part_then_end (x ∷ xs) [] r h = refl
part_then_end (x ∷ xs) (y ∷ ys) r h = ap (ordering_then (nat_cmp x y)) (part_then_end xs ys r (tail_whole y ys h))

-- the parts decide up to the length of the shorter, and else the first byte or slash after that
pub parts_by_start : (a b : List ℕ) (n : ℕ) → n ≡ min (length a) (length b) → HasNoSlash a → HasNoSlash b
    → text_cmp (a ++ 47 ∷ []) (b ++ 47 ∷ []) ≡ ordering_then (text_cmp (take n a) (take n b)) (nat_cmp (get_or a n 47) (get_or b n 47))
parts_by_start [] [] zero e ha hb = refl
parts_by_start [] [] (suc n) e ha hb = refl
parts_by_start [] (y ∷ ys) zero e ha hb = unequal _ _ (differ y ys hb)
parts_by_start [] (y ∷ ys) (suc n) e ha hb = absurd (omega arith)
parts_by_start (x ∷ xs) [] zero e ha hb = unequal _ _ (differ_back x xs ha)
parts_by_start (x ∷ xs) [] (suc n) e ha hb = absurd (omega arith)
parts_by_start (x ∷ xs) (y ∷ ys) zero e ha hb = absurd (omega arith)
parts_by_start (x ∷ xs) (y ∷ ys) (suc n) e ha hb =
    ap (ordering_then (nat_cmp x y)) (parts_by_start xs ys n (omega arith) (tail_whole x xs ha) (tail_whole y ys hb)) ∙ then_then (nat_cmp x y) _ _

pub end_by_start_less : (p m : List ℕ) (n : ℕ) (d : ℕ) → n ≡ min (length p) (length m) → length p < length m → HasNoSlash m
    → text_cmp (p ++ 47 ∷ []) m ≡ ordering_then (text_cmp (take n p) (take n m)) (nat_cmp 47 (get_or m (length p) d))
end_by_start_less [] [] n d e lt h = absurd (omega arith)
end_by_start_less [] (y ∷ ys) zero d e lt h = unequal _ _ (differ y ys h)
end_by_start_less [] (y ∷ ys) (suc n) d e lt h = absurd (omega arith)
end_by_start_less (x ∷ xs) [] n d e lt h = absurd (omega arith)
end_by_start_less (x ∷ xs) (y ∷ ys) zero d e lt h = absurd (omega arith)
end_by_start_less (x ∷ xs) (y ∷ ys) (suc n) d e lt h =
    ap (ordering_then (nat_cmp x y)) (end_by_start_less xs ys n d (omega arith) (omega arith) (tail_whole y ys h)) ∙ then_then (nat_cmp x y) _ _

pub end_by_start_greater : (p m : List ℕ) (n : ℕ) → n ≡ min (length p) (length m) → length m ≤ length p
    → text_cmp (p ++ 47 ∷ []) m ≡ ordering_then (text_cmp (take n p) (take n m)) Greater
end_by_start_greater [] [] zero e ge = refl
end_by_start_greater [] [] (suc n) e ge = refl
end_by_start_greater [] (y ∷ ys) n e ge = absurd (omega arith)
end_by_start_greater (x ∷ xs) [] zero e ge = refl
end_by_start_greater (x ∷ xs) [] (suc n) e ge = absurd (omega arith)
end_by_start_greater (x ∷ xs) (y ∷ ys) zero e ge = absurd (omega arith)
end_by_start_greater (x ∷ xs) (y ∷ ys) (suc n) e ge =
    ap (ordering_then (nat_cmp x y)) (end_by_start_greater xs ys n (omega arith) (omega arith)) ∙ then_then (nat_cmp x y) _ _

-- ---- within one namespace, for a package or none on each side

pub none_some : (p q : Option (List ℕ)) (n m b n' b' : List ℕ) (r o : Ordering) → p ≡ None → q ≡ Some b → n' ≡ n → b' ≡ b → HasNoSlash n'
    → r ≡ text_cmp (b' ++ 47 ∷ []) n' → o ≡ ordering_reverse r → o ≡ text_cmp (local_text p n) (local_text q m)
none_some p q n m b n' b' r o is_p is_q is_n is_b h e f =
    let back : text_cmp n' (b' ++ 47 ∷ m) ≡ ordering_reverse (text_cmp (b' ++ 47 ∷ []) n') =
    nat_list_cmp_total.antisymm n' (b' ++ 47 ∷ m) ∙ ap ordering_reverse (part_then_end b' n' m h) in
    rw (is_p, is_q, ← is_n, ← is_b) (f ∙ ap ordering_reverse e ∙ sym back)

pub some_none : (p q : Option (List ℕ)) (n m a a' m' : List ℕ) (o : Ordering) → p ≡ Some a → q ≡ None → a' ≡ a → m' ≡ m → HasNoSlash m'
    → o ≡ text_cmp (a' ++ 47 ∷ []) m' → o ≡ text_cmp (local_text p n) (local_text q m)
some_none p q n m a a' m' o is_p is_q is_a is_m h e = rw (is_p, is_q, ← is_a, ← is_m) (e ∙ sym (part_then_end a' m' n h))

pub some_some : (p q : Option (List ℕ)) (n m a b n' m' a' b' : List ℕ) (r s o : Ordering) → p ≡ Some a → q ≡ Some b → n' ≡ n → m' ≡ m → a' ≡ a → b' ≡ b
    → HasNoSlash a' → HasNoSlash b' → r ≡ text_cmp (a' ++ 47 ∷ []) (b' ++ 47 ∷ []) → s ≡ text_cmp n' m' → o ≡ ordering_then r s
    → o ≡ text_cmp (local_text p n) (local_text q m)
some_some p q n m a b n' m' a' b' r s o is_p is_q is_n is_m is_a is_b ha hb e f g =
    rw (is_p, is_q, ← is_n, ← is_m, ← is_a, ← is_b) (g ∙ ap (λ x. ordering_then x s) e ∙ ap (ordering_then _) f ∙ sym (parts_then a' b' n' m' ha hb))

-- ---- of two full names

pub whole_texts : (x y : FullName) (a b : List ℕ) (r s o : Ordering) → a ≡ x.namespace → b ≡ y.namespace → HasNoSlash a → HasNoSlash b
    → r ≡ text_cmp (a ++ 47 ∷ []) (b ++ 47 ∷ []) → s ≡ text_cmp (local_text x.package x.name) (local_text y.package y.name)
    → o ≡ ordering_then r s → o ≡ text_cmp (full_text x) (full_text y)
whole_texts x y a b r s o is_a is_b ha hb e f g =
    rw (← is_a, ← is_b) (g ∙ ap (λ z. ordering_then z s) e ∙ ap (ordering_then _) f ∙ sym (parts_then a b _ _ ha hb))
