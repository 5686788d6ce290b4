-- What a search among rows finds, and what a change at that place makes of them.
use Rattle.std.proofs.Common.{◌≡◌, ℕ, zero, suc, ◌<◌, Bool, true, false, not, cond, List, [], ◌∷◌, ◌++◌, length, map, filter, find, get_or, set, take, drop, Some, None, Ordering, Less, Equal, Greater, refl, sym, ap, ap₂, ◌∙◌, subst, arith}
use Rattle.std.specs.List.{AllByRecursion}
use Rattle.std.specs.List.Sorted.{IsStrictlySortedBy}
use Rattle.std.specs.Ordering.{match_ordering}
use Rattle.std.specs.Str.{bytes_eq}
use Rattle.std.proofs.lemmas.Cmp.{nat_list_cmp_total}
use Rattle.ow_value.specs.Value.{text_cmp}
use Rattle.ow_value.proofs.KeySearch.{test_of, equal_texts, turned, below_equal, other, key_at, StandsAt, PartsAt, parted}
use Rattle.ow_names.specs.declared.full.FullName.{FullName}
use Rattle.ow_entity.specs.declared.kinds.EntityKind.{EntityKind}
use Rattle.ow_entity.specs.declared.rows.Row.{Row}
use Rattle.ow_entity.specs.Row.{kind_of, name_of}
use Rattle.ow_tables.specs.Rows.{key, key_of, AreRows, with_row}

-- ---- look-ups

found_at : (k : List ℕ) (bs : List Row) (i : ℕ) (d : Row) → AreRows bs → i < length bs → text_cmp (key_of (get_or bs i d)) k ≡ Equal
    → find (λ r. bytes_eq k (key_of r)) bs ≡ Some (get_or bs i d)
unfolding IsStrictlySortedBy
found_at k [] i d h lt e = absurd (omega arith)
found_at k (b ∷ bs) zero d h lt e = rw (test_of k (key_of b) Equal (turned (key_of b) k Equal e)) refl
found_at k (b ∷ bs) (suc i) d h lt e =
    let below : text_cmp (key_of b) (key_of (get_or bs i d)) ≡ Less = key_at key_of (λ a. text_cmp (key_of b) a ≡ Less) bs i d h.0 (omega arith) in
    rw (test_of k (key_of b) Greater (below_equal (key_of b) (key_of (get_or bs i d)) k below e)) (found_at k bs i d h.1 (omega arith) e)

-- no row has the key
abbrev Lacks : List ℕ → List Row → Type 0
Lacks k bs = (j : ℕ) (d : Row) → j < length bs → bytes_eq k (key_of (get_or bs j d)) ≡ false

not_found : (k : List ℕ) (bs : List Row) → Lacks k bs → find (λ r. bytes_eq k (key_of r)) bs ≡ None
not_found k [] h = refl
not_found k (b ∷ bs) h = rw (h 0 b (omega arith)) (not_found k bs (λ j d lt. h (suc j) d (omega arith)))

-- where the keys part into those below and those above
lacks : (k : List ℕ) (bs : List Row) (i : ℕ) → PartsAt key_of k bs i → Lacks k bs
lacks k bs i h j d lt = test_of k (key_of (get_or bs j d)) _ refl ∙ other _ k (parted key_of k bs i h j d lt)

absent : (k : List ℕ) (bs : List Row) (i : ℕ)
    → PartsAt key_of k bs i → find (λ r. bytes_eq k (key_of r)) bs ≡ None
absent k bs i h = not_found k bs (lacks k bs i h)

-- ---- a put at that place

put_at_gap : (k : List ℕ) (p : Row) (bs : List Row) (i : ℕ) → k ≡ key_of p
    → PartsAt key_of k bs i
    → with_row p bs ≡ take i bs ++ p ∷ drop i bs
put_at_gap k p [] zero e h = refl
put_at_gap k p [] (suc i) e h = refl
put_at_gap k p (b ∷ bs) zero e h =
    rw (ap (λ a. text_cmp a (key_of b)) (sym e) ∙ turned (key_of b) k Greater (h.1 0 b (omega arith) (omega arith))) refl
put_at_gap k p (b ∷ bs) (suc i) e h =
    rw (ap (λ a. text_cmp a (key_of b)) (sym e) ∙ turned (key_of b) k Less (h.0 0 b (omega arith) (omega arith)))
    (ap (λ rs. b ∷ rs) (put_at_gap k p bs i e (λ j d x y. h.0 (suc j) d (omega arith) (omega arith), λ j d x y. h.1 (suc j) d (omega arith) (omega arith))))

put_at_equal : (k : List ℕ) (p : Row) (bs : List Row) (i : ℕ) (d : Row) → k ≡ key_of p → AreRows bs → i < length bs
    → text_cmp (key_of (get_or bs i d)) k ≡ Equal → with_row p bs ≡ set bs i p
unfolding IsStrictlySortedBy
put_at_equal k p [] i d e s lt q = absurd (omega arith)
put_at_equal k p (b ∷ bs) zero d e s lt q =
    rw (ap (λ a. text_cmp a (key_of b)) (sym e) ∙ turned (key_of b) k Equal q) refl
put_at_equal k p (b ∷ bs) (suc i) d e s lt q =
    let below : text_cmp (key_of b) (key_of (get_or bs i d)) ≡ Less = key_at key_of (λ a. text_cmp (key_of b) a ≡ Less) bs i d s.0 (omega arith) in
    rw (ap (λ a. text_cmp a (key_of b)) (sym e) ∙ below_equal (key_of b) (key_of (get_or bs i d)) k below q)
    (ap (λ rs. b ∷ rs) (put_at_equal k p bs i d e s.1 (omega arith) q))

-- ---- a removal at that place

nothing_out : (k : List ℕ) (bs : List Row) → Lacks k bs → filter (λ r. not (bytes_eq k (key_of r))) bs ≡ bs
nothing_out k [] h = refl
nothing_out k (b ∷ bs) h = rw (h 0 b (omega arith)) (ap (λ rs. b ∷ rs) (nothing_out k bs (λ j d lt. h (suc j) d (omega arith))))

-- a key above one that equals k is not k
above_equal : (a b k : List ℕ) → text_cmp a b ≡ Less → text_cmp a k ≡ Equal → bytes_eq k b ≡ false
above_equal a b k lt eq = test_of k b Less (sym (nat_list_cmp_total.congr a k b eq) ∙ lt)

one_out : (k : List ℕ) (bs : List Row) (i : ℕ) (d : Row) → AreRows bs → i < length bs
    → text_cmp (key_of (get_or bs i d)) k ≡ Equal → filter (λ r. not (bytes_eq k (key_of r))) bs ≡ take i bs ++ drop (suc i) bs
unfolding IsStrictlySortedBy
one_out k [] i d s lt q = absurd (omega arith)
one_out k (b ∷ bs) zero d s lt q =
    rw (test_of k (key_of b) Equal (turned (key_of b) k Equal q))
    (nothing_out k bs (λ j e lt'. above_equal (key_of b) (key_of (get_or bs j e)) k (key_at key_of (λ a. text_cmp (key_of b) a ≡ Less) bs j e s.0 lt') q))
one_out k (b ∷ bs) (suc i) d s lt q =
    let below : text_cmp (key_of b) (key_of (get_or bs i d)) ≡ Less = key_at key_of (λ a. text_cmp (key_of b) a ≡ Less) bs i d s.0 (omega arith) in
    rw (test_of k (key_of b) Greater (below_equal (key_of b) (key_of (get_or bs i d)) k below q))
    (ap (λ rs. b ∷ rs) (one_out k bs i d s.1 (omega arith) q))

-- ---- the order is kept

-- what holds of all holds after a put of one of which it holds
pub all_put : {X : Type 0} (f : Row → X) (P : X → Type 0) (r : Row) (xs : List Row) → P (f r) → AllByRecursion P (map f xs) → AllByRecursion P (map f (with_row r xs))
all_put f P r [] p h = (p, tt)
all_put f P r (x ∷ xs) p h = by_order (text_cmp (key_of r) (key_of x)) (all_put f P r xs p h.1)
  where
    by_order : (o : Ordering) → AllByRecursion P (map f (with_row r xs)) → AllByRecursion P (map f (match_ordering o (r ∷ x ∷ xs) (r ∷ xs) (x ∷ with_row r xs)))
    by_order Less behind = (p, h)
    by_order Equal behind = (p, h.1)
    by_order Greater behind = (h.0, behind)

pub all_filter : {X : Type 0} (f : Row → X) (P : X → Type 0) (test : Row → Bool) (xs : List Row) → AllByRecursion P (map f xs) → AllByRecursion P (map f (filter test xs))
all_filter f P test [] h = tt
all_filter f P test (x ∷ xs) h = by_test (test x) (all_filter f P test xs h.1)
  where
    by_test : (b : Bool) → AllByRecursion P (map f (filter test xs)) → AllByRecursion P (map f (cond b (x ∷ filter test xs) (filter test xs)))
    by_test true behind = (h.0, behind)
    by_test false behind = behind

weaker : (P Q : List ℕ → Type 0) (ks : List (List ℕ)) → ((k : List ℕ) → P k → Q k) → AllByRecursion P ks → AllByRecursion Q ks
weaker P Q [] f h = tt
weaker P Q (k ∷ ks) f h = (f k h.0, weaker P Q ks f h.1)

pub AreRows-with_row : (r : Row) (xs : List Row) → AreRows xs → AreRows (with_row r xs)
unfolding IsStrictlySortedBy
AreRows-with_row r [] h = (tt, tt)
AreRows-with_row r (x ∷ xs) h = by_order (text_cmp (key_of r) (key_of x)) refl (AreRows-with_row r xs h.1)
  where
    by_order : (o : Ordering) → text_cmp (key_of r) (key_of x) ≡ o → AreRows (with_row r xs) → AreRows (match_ordering o (r ∷ x ∷ xs) (r ∷ xs) (x ∷ with_row r xs))
    by_order Less e behind = ((e, weaker _ _ (map key_of xs) (λ k lt. nat_list_cmp_total.trans (key_of r) (key_of x) k e lt) h.0), h)
    by_order Equal e behind = (subst (λ k. AllByRecursion (λ y. text_cmp k y ≡ Less) (map key_of xs)) (sym (equal_texts (key_of r) (key_of x) e)) h.0, h.1)
    by_order Greater e behind = (all_put key_of (λ y. text_cmp (key_of x) y ≡ Less) r xs (turned (key_of r) (key_of x) Greater e) h.0, behind)

pub AreRows-filter : (test : Row → Bool) (xs : List Row) → AreRows xs → AreRows (filter test xs)
unfolding IsStrictlySortedBy
AreRows-filter test [] h = tt
AreRows-filter test (x ∷ xs) h = by_test (test x) (AreRows-filter test xs h.1)
  where
    by_test : (b : Bool) → AreRows (filter test xs) → AreRows (cond b (x ∷ filter test xs) (filter test xs))
    by_test true behind = (all_filter key_of _ test xs h.0, behind)
    by_test false behind = behind

-- ---- the same, in the terms of a search and a change

pub same_key : (r : Row) (kind : EntityKind) (name : FullName) → kind ≡ kind_of r → name ≡ name_of r → key kind name ≡ key_of r
same_key r kind name e f = ap₂ key e f

pub replaced : (k : List ℕ) (xs ys : List Row) (p : Row) (i : ℕ) (old : List Row) → ys ≡ xs → k ≡ key_of p → AreRows xs
    → StandsAt key_of k ys i → xs ≡ old → set xs i p ≡ with_row p old
replaced k xs ys p i old e f s h o =
    let h2 = subst (λ zs. StandsAt key_of k zs i) e h in
    sym (put_at_equal k p xs i p f s h2.0 (h2.1 p)) ∙ ap (with_row p) o

pub put_between : (k : List ℕ) (xs ys new : List Row) (p : Row) (i : ℕ) (old : List Row) → ys ≡ xs → k ≡ key_of p → new ≡ take i xs ++ p ∷ drop i xs
    → PartsAt key_of k ys i → xs ≡ old → new ≡ with_row p old
put_between k xs ys new p i old e f n h o =
    let h2 = subst (λ zs. PartsAt key_of k zs i) e h in
    n ∙ sym (put_at_gap k p xs i f h2) ∙ ap (with_row p) o

pub taken_out : (k : List ℕ) (xs ys new : List Row) (r : Row) (i : ℕ) (d : Row) (old : List Row) → ys ≡ xs → k ≡ key_of r → new ≡ take i xs ++ drop (suc i) xs → AreRows xs
    → StandsAt key_of k ys i → xs ≡ old → new ≡ filter (λ x. not (bytes_eq (key_of r) (key_of x))) old
taken_out k xs ys new r i d old e f n s h o =
    let h2 = subst (λ zs. StandsAt key_of k zs i) e h in
    n ∙ sym (one_out k xs i d s h2.0 (h2.1 d)) ∙ ap (λ a. filter (λ x. not (bytes_eq a (key_of x))) xs) f ∙ ap (filter (λ x. not (bytes_eq (key_of r) (key_of x)))) o

pub not_there : (k : List ℕ) (xs ys : List Row) (r : Row) (i : ℕ) (old : List Row) → ys ≡ xs → k ≡ key_of r
    → PartsAt key_of k ys i → xs ≡ old → old ≡ filter (λ x. not (bytes_eq (key_of r) (key_of x))) old
not_there k xs ys r i old e f h o =
    let out = ap (λ a. filter (λ x. not (bytes_eq a (key_of x))) ys) (sym f) ∙ nothing_out k ys (lacks k ys i h) in
    let is : ys ≡ old = e ∙ o in
    sym is ∙ sym out ∙ ap (filter (λ x. not (bytes_eq (key_of r) (key_of x)))) is

pub is_found : (k : List ℕ) (xs ys : List Row) (i : ℕ) (r : Row) (old : List Row) → ys ≡ xs → AreRows xs
    → StandsAt key_of k ys i → r ≡ get_or xs i r → xs ≡ old → Some r ≡ find (λ x. bytes_eq k (key_of x)) old
is_found k xs ys i r old e s h at o =
    let h2 = subst (λ zs. StandsAt key_of k zs i) e h in
    ap Some at ∙ sym (found_at k xs i r s h2.0 (h2.1 r)) ∙ ap (find (λ x. bytes_eq k (key_of x))) o

pub none_found : (k : List ℕ) (xs ys : List Row) (i : ℕ) (old : List Row) → ys ≡ xs
    → PartsAt key_of k ys i → xs ≡ old → None ≡ find (λ x. bytes_eq k (key_of x)) old
none_found k xs ys i old e h o = sym (absent k ys i h) ∙ ap (find (λ x. bytes_eq k (key_of x))) e ∙ ap (find (λ x. bytes_eq k (key_of x))) o
