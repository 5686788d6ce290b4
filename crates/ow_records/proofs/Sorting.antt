-- Records in the order of a key: what a put makes of them, where they part, and what is found.
use Rattle.std.proofs.Common.{◌≡◌, ◌≢◌, ℕ, zero, suc, ◌-◌, ◌<◌, ◌≤◌, Bool, true, false, not, cond, ◌&&◌, ◌==◌, List, [], ◌∷◌, ◌++◌, length, fold, find, get_or, take, drop, Option, Some, None, Ordering, Less, Equal, Greater, is_eq, is_lt, refl, sym, ap, ◌∙◌, subst, append_assoc, arith}
use Rattle.std.specs.List.{AllByRecursion}
use Rattle.std.specs.List.Sorted.{IsPartitionedBy, IsPartitionPoint}
use Rattle.std.specs.Option.{option_or}
use Rattle.std.specs.Ordering.{is_le, ordering_index, ordering_reverse}
use Rattle.std.proofs.lemmas.Cmp.{nat_list_cmp_total}
use Rattle.std.proofs.lemmas.List.{append-nil}
use Rattle.std.proofs.lemmas.List.Folds.{find-append}
use Rattle.std.proofs.lemmas.List.Sums.{fold-append}
use Rattle.ow_value.specs.Value.{text_cmp}
use Rattle.ow_value.proofs.KeySearch.{equal_texts, test_of, turned, ranks, lt_down, le_down}
use Rattle.ow_records.specs.declared.record.Record.{Record}
use Rattle.ow_records.specs.declared.ids.Id.{Id}
use Rattle.ow_records.specs.Records.{id_key, id_numbers, is_of_id, put_by, sorted_by}
use Rattle.ow_records.specs.Order.{Rises, IsBehind, first_if}

-- ---- texts

-- a text below one that isn't greater than a third is below the third
pub below_then : (a b c : List ℕ) (o : Ordering) → text_cmp a b ≡ Less → text_cmp b c ≡ o → o ≢ Greater → text_cmp a c ≡ Less
below_then a b c Less lt e n = nat_list_cmp_total.trans a b c lt e
below_then a b c Equal lt e n = subst (λ z. text_cmp a z ≡ Less) (equal_texts b c e) lt
below_then a b c Greater lt e n = absurd (n refl)

less_not : (o : Ordering) → o ≡ Less → o ≢ Greater
less_not o e f = cc

pub is_less : (o : Ordering) → is_lt o ≡ true → o ≡ Less
is_less Less e = refl
is_less Equal e = cc
is_less Greater e = cc

turned_test : (o : Ordering) → is_lt (ordering_reverse o) ≡ not (is_le o)
turned_test Less = refl
turned_test Equal = refl
turned_test Greater = refl

-- a text is above another where the other isn't above it or equal
pub above_test : (a b : List ℕ) → is_lt (text_cmp b a) ≡ not (is_le (text_cmp a b))
above_test a b = ap is_lt (turned a b _ refl) ∙ turned_test _

not_above : (a b : List ℕ) (o : Ordering) → text_cmp a b ≡ o → is_lt o ≡ false → text_cmp b a ≢ Greater
not_above a b Less e f = cc
not_above a b Equal e f = λ g. let h = turned a b Equal e in cc
not_above a b Greater e f = λ g. let h = turned a b Greater e in cc

-- ---- what holds of all

pub all_at : (P : Record → Type 0) (xs : List Record) (j : ℕ) (d : Record) → AllByRecursion P xs → j < length xs → P (get_or xs j d)
all_at P [] j d h lt = absurd (omega arith)
all_at P (x ∷ xs) zero d h lt = h.0
all_at P (x ∷ xs) (suc j) d h lt = all_at P xs j d h.1 (omega arith)

pub all_weaker : (P Q : Record → Type 0) (xs : List Record) → ((x : Record) → P x → Q x) → AllByRecursion P xs → AllByRecursion Q xs
all_weaker P Q [] f h = tt
all_weaker P Q (x ∷ xs) f h = (f x h.0, all_weaker P Q xs f h.1)

-- ---- puts

module _ (key : Record → List ℕ) where
  all_put : (P : Record → Type 0) (r : Record) (xs : List Record) → P r → AllByRecursion P xs → AllByRecursion P (put_by key r xs)
  all_put P r [] p h = (p, tt)
  all_put P r (x ∷ xs) p h = by_test (is_lt (text_cmp (key r) (key x))) (all_put P r xs p h.1)
    where
      by_test : (b : Bool) → AllByRecursion P (put_by key r xs) → AllByRecursion P (cond b (r ∷ x ∷ xs) (x ∷ put_by key r xs))
      by_test true more = (p, h)
      by_test false more = (h.0, more)

  -- all records after a greater one are greater
  pub all_above : (r x : Record) (xs : List Record) → text_cmp (key r) (key x) ≡ Less → AllByRecursion (λ y. text_cmp (key x) (key y) ≢ Greater) xs
      → AllByRecursion (λ y. text_cmp (key r) (key y) ≡ Less) xs
  all_above r x xs lt h = all_weaker _ _ xs (λ y n. below_then (key r) (key x) (key y) _ lt refl n) h

  pub rises_put : (r : Record) (xs : List Record) → Rises key xs → Rises key (put_by key r xs)
  unfolding Rises
  rises_put r [] h = (tt, tt)
  rises_put r (x ∷ xs) h = by_test (is_lt (text_cmp (key r) (key x))) refl (rises_put r xs h.1)
    where
      by_test : (b : Bool) → is_lt (text_cmp (key r) (key x)) ≡ b → Rises key (put_by key r xs) → Rises key (cond b (r ∷ x ∷ xs) (x ∷ put_by key r xs))
      by_test true e more =
          let lt = is_less _ e in
          ((less_not _ lt, all_weaker _ _ xs (λ y. less_not _) (all_above r x xs lt h.0)), h)
      by_test false e more = (all_put (λ y. text_cmp (key x) (key y) ≢ Greater) r xs (not_above (key r) (key x) _ refl e) h.0, more)

  rises_fold : (rs xs : List Record) → Rises key xs → Rises key (fold (λ ys r. put_by key r ys) xs rs)
  rises_fold [] xs h = h
  rises_fold (r ∷ rs) xs h = rises_fold rs (put_by key r xs) (rises_put r xs h)

  pub rises_sorted : (rs : List Record) → Rises key (sorted_by key rs)
  unfolding Rises
  rises_sorted rs = rises_fold rs [] tt

  pub sorted_more : (rs : List Record) (r : Record) → sorted_by key (rs ++ r ∷ []) ≡ put_by key r (sorted_by key rs)
  sorted_more rs r = fold-append (λ ys x. put_by key x ys) [] rs (r ∷ [])

  -- ---- where they part

  pub ranks_at : (k : List ℕ) (xs : List Record) → Rises key xs → (i j : ℕ) (d : Record) → i ≤ j → j < length xs
      → ordering_index (text_cmp (key (get_or xs i d)) k) ≤ ordering_index (text_cmp (key (get_or xs j d)) k)
  unfolding Rises
  ranks_at k [] h i j d le lt = absurd (omega arith)
  ranks_at k (x ∷ xs) h zero zero d le lt = omega arith
  ranks_at k (x ∷ xs) h zero (suc j) d le lt = ranks (key x) (key (get_or xs j d)) k _ refl (all_at (λ y. text_cmp (key x) (key y) ≢ Greater) xs j d h.0 (omega arith))
  ranks_at k (x ∷ xs) h (suc i) zero d le lt = absurd (omega arith)
  ranks_at k (x ∷ xs) h (suc i) (suc j) d le lt = ranks_at k xs h.1 i j d (omega arith) (omega arith)

  pub parts_before : (k : List ℕ) (xs : List Record) → Rises key xs → IsPartitionedBy (λ y. is_lt (text_cmp (key y) k)) xs
  parts_before k xs h i j d le lt e = lt_down _ _ (ranks_at k xs h i j d le lt) e

  pub parts_through : (k : List ℕ) (xs : List Record) → Rises key xs → IsPartitionedBy (λ y. is_le (text_cmp (key y) k)) xs
  parts_through k xs h i j d le lt e = le_down _ _ (ranks_at k xs h i j d le lt) e

  -- ---- a put at that place

  pub put_at : (r : Record) (xs : List Record) (i : ℕ) → IsBehind key (key r) xs i → put_by key r xs ≡ take i xs ++ r ∷ drop i xs
  put_at r [] zero h = refl
  put_at r [] (suc i) h = refl
  put_at r (x ∷ xs) zero h = rw (above_test (key x) (key r) ∙ ap not (h.1 0 x (omega arith) (omega arith))) refl
  put_at r (x ∷ xs) (suc i) h =
      rw (above_test (key x) (key r) ∙ ap not (h.0 0 x (omega arith) (omega arith)))
      (ap (λ ys. x ∷ ys) (put_at r xs i (λ j d a b. h.0 (suc j) d (omega arith) (omega arith), λ j d a b. h.1 (suc j) d (omega arith) (omega arith))))

  -- ---- a put taken back

  -- xs is ys without the last of its first i records
  abbrev pub WithoutLast : ℕ → List Record → List Record → Type 0
  WithoutLast i ys xs = (j : ℕ) × (i ≡ suc j) × (take j ys ++ drop (suc j) ys ≡ xs)

  not_itself : (a : List ℕ) → is_le (text_cmp a a) ≡ false → ⊥
  not_itself a e = by_order _ e (nat_list_cmp_total.antisymm a a)
    where
      by_order : (o : Ordering) → is_le o ≡ false → o ≡ ordering_reverse o → ⊥
      by_order Less e f = cc
      by_order Equal e f = cc
      by_order Greater e f = cc

  both_ways : (a b : List ℕ) (t : Bool) → is_lt (text_cmp b a) ≡ t → is_le (text_cmp a b) ≡ t → ⊥
  both_ways a b t e f = by_test t (sym e ∙ above_test a b ∙ ap not f)
    where
      by_test : (t : Bool) → t ≡ not t → ⊥
      by_test true g = cc
      by_test false g = cc

  -- the last record that isn't greater is the one that was put
  pub put_back : (r : Record) (xs : List Record) (i : ℕ) → i ≤ length (put_by key r xs) → IsBehind key (key r) (put_by key r xs) i → WithoutLast i (put_by key r xs) xs
  put_back r [] zero le h = absurd (not_itself (key r) (h.1 0 r (omega arith) (omega arith)))
  put_back r [] (suc zero) le h = (0, refl, refl)
  put_back r [] (suc (suc i)) le h = absurd (omega arith)
  put_back r (x ∷ xs) i le h = by_test (is_lt (text_cmp (key r) (key x))) refl i le h (put_back r xs)
    where
      by_test : (b : Bool) → is_lt (text_cmp (key r) (key x)) ≡ b → (i : ℕ) → i ≤ length (cond b (r ∷ x ∷ xs) (x ∷ put_by key r xs))
          → IsBehind key (key r) (cond b (r ∷ x ∷ xs) (x ∷ put_by key r xs)) i
          → ((n : ℕ) → n ≤ length (put_by key r xs) → IsBehind key (key r) (put_by key r xs) n → WithoutLast n (put_by key r xs) xs)
          → WithoutLast i (cond b (r ∷ x ∷ xs) (x ∷ put_by key r xs)) (x ∷ xs)
      by_test true e zero le h more = absurd (not_itself (key r) (h.1 0 r (omega arith) (omega arith)))
      by_test true e (suc zero) le h more = (0, refl, refl)
      by_test true e (suc (suc n)) le h more = absurd (both_ways (key x) (key r) true e (h.0 1 x (omega arith) (omega arith)))
      by_test false e zero le h more = absurd (both_ways (key x) (key r) false e (h.1 0 x (omega arith) (omega arith)))
      by_test false e (suc n) le h more =
          let rest = more n (omega arith) (λ j d a b. h.0 (suc j) d (omega arith) (omega arith), λ j d a b. h.1 (suc j) d (omega arith) (omega arith)) in
          (suc rest.0, ap suc rest.1, ap (λ ys. x ∷ ys) rest.2)

  -- ---- the same, in the terms of a search and a change

  pub put_between : (k : List ℕ) (xs ys new : List Record) (r : Record) (i : ℕ) → ys ≡ xs → k ≡ key r → new ≡ take i xs ++ r ∷ drop i xs → IsBehind key k ys i → new ≡ put_by key r xs
  put_between k xs ys new r i e f n h =
      n ∙ sym (put_at r xs i (subst (λ zs. IsBehind key (key r) zs i) e (subst (λ a. IsBehind key a ys i) f h)))

  at_last : (ys : List Record) (i j : ℕ) → i ≡ suc j → take (i - 1) ys ++ drop i ys ≡ take j ys ++ drop (suc j) ys
  at_last ys i j e = let f : i - 1 ≡ j = omega arith in rw (f, e) refl

  pub taken_between : (k : List ℕ) (xs ys new before : List Record) (r : Record) (i : ℕ) → ys ≡ xs → k ≡ key r → new ≡ take (i - 1) xs ++ drop i xs → i ≤ length xs
      → IsBehind key k ys i → xs ≡ put_by key r before → new ≡ before
  taken_between k xs ys new before r i e f n le h g =
      let back = put_back r before i (subst (λ (zs : List Record). i ≤ length zs) g le) (subst (λ zs. IsBehind key (key r) zs i) (e ∙ g) (subst (λ a. IsBehind key a ys i) f h)) in
      n ∙ ap (λ zs. take (i - 1) zs ++ drop i zs) g ∙ at_last (put_by key r before) i back.0 back.1 ∙ back.2

  -- ---- what is found

  -- whether the record has the key
  abbrev pub has_key : List ℕ → Record → Bool
  has_key k y = is_eq (text_cmp (key y) k)

  none_above : (k : List ℕ) (xs : List Record) → AllByRecursion (λ y. text_cmp k (key y) ≡ Less) xs → find (has_key k) xs ≡ None
  none_above k [] h = refl
  none_above k (x ∷ xs) h = rw (ap is_eq (turned k (key x) Less h.0)) (none_above k xs h.1)

  or_none : (o : Option Record) → o ≡ option_or o None
  or_none None = refl
  or_none (Some x) = refl

  -- the one that was put is found where none was found before
  find_put : (k : List ℕ) (r : Record) (xs : List Record) → Rises key xs → find (has_key k) (put_by key r xs) ≡ option_or (find (has_key k) xs) (find (has_key k) (r ∷ []))
  unfolding Rises
  find_put k r [] h = refl
  find_put k r (x ∷ xs) h = by_test (is_lt (text_cmp (key r) (key x))) refl (find_put k r xs h.1)
    where
      -- where the one that was put has the key, none of the greater ones has it
      in_front : (b : Bool) → has_key k r ≡ b → (is_lt (text_cmp (key r) (key x)) ≡ true)
          → cond b (Some r) (find (has_key k) (x ∷ xs)) ≡ option_or (find (has_key k) (x ∷ xs)) (cond b (Some r) None)
      in_front true e lt =
          let less = is_less _ lt in
          let same : k ≡ key r = sym (equal_texts (key r) k (is_equal _ e)) in
          let none : find (has_key k) (x ∷ xs) ≡ None = none_above k (x ∷ xs) (subst (λ a. AllByRecursion (λ y. text_cmp a (key y) ≡ Less) (x ∷ xs)) (sym same) (less, all_above r x xs less h.0)) in
          sym (ap (λ o. option_or o (Some r)) none)
        where
          is_equal : (o : Ordering) → is_eq o ≡ true → o ≡ Equal
          is_equal Less e = cc
          is_equal Equal e = refl
          is_equal Greater e = cc
      in_front false e lt = or_none (find (has_key k) (x ∷ xs))

      behind : (b : Bool) (f g o : Option Record) → f ≡ option_or g o → cond b (Some x) f ≡ option_or (cond b (Some x) g) o
      behind true f g o e = refl
      behind false f g o e = e

      by_test : (b : Bool) → is_lt (text_cmp (key r) (key x)) ≡ b → find (has_key k) (put_by key r xs) ≡ option_or (find (has_key k) xs) (find (has_key k) (r ∷ []))
          → find (has_key k) (cond b (r ∷ x ∷ xs) (x ∷ put_by key r xs)) ≡ option_or (find (has_key k) (x ∷ xs)) (find (has_key k) (r ∷ []))
      by_test true e more = in_front (has_key k r) refl e
      by_test false e more = behind (has_key k x) _ _ _ more

  find_fold : (k : List ℕ) (rs xs ys : List Record) → Rises key xs → find (has_key k) xs ≡ find (has_key k) ys
      → find (has_key k) (fold (λ zs r. put_by key r zs) xs rs) ≡ find (has_key k) (ys ++ rs)
  find_fold k [] xs ys h e = e ∙ ap (find (has_key k)) (sym (append-nil ys))
  find_fold k (r ∷ rs) xs ys h e =
      find_fold k rs (put_by key r xs) (ys ++ r ∷ []) (rises_put r xs h) (find_put k r xs h ∙ ap (λ o. option_or o (find (has_key k) (r ∷ []))) e ∙ sym (find-append (has_key k) ys (r ∷ [])))
      ∙ ap (find (has_key k)) (append_assoc ys (r ∷ []) rs)

  -- what is found among the sorted ones is the first of all
  pub find_sorted : (k : List ℕ) (rs : List Record) → find (has_key k) (sorted_by key rs) ≡ find (has_key k) rs
  unfolding Rises
  find_sorted k rs = find_fold k rs [] [] tt refl

  -- from a record with a greater key on, none has the key
  none_behind : (k : List ℕ) (x : Record) (xs : List Record) → Rises key (x ∷ xs) → is_lt (text_cmp (key x) k) ≡ false → has_key k x ≡ false → find (has_key k) (x ∷ xs) ≡ None
  unfolding Rises
  none_behind k x xs h e f =
      let less : text_cmp k (key x) ≡ Less = turned (key x) k Greater (is_greater _ e f) in
      none_above k (x ∷ xs) (less, all_weaker _ _ xs (λ y n. below_then k (key x) (key y) _ less refl n) h.0)
    where
      is_greater : (o : Ordering) → is_lt o ≡ false → is_eq o ≡ false → o ≡ Greater
      is_greater Less e f = cc
      is_greater Equal e f = cc
      is_greater Greater e f = refl

  -- the first that isn't below the key is the one that is found, if it has the key
  pub first_found : (k : List ℕ) (xs : List Record) (i : ℕ) → Rises key xs
      → IsPartitionPoint (λ y. is_lt (text_cmp (key y) k) ≡ true) (λ y. is_lt (text_cmp (key y) k) ≡ false) xs i
      → first_if (has_key k) (drop i xs) ≡ find (has_key k) xs
  unfolding Rises
  first_found k [] zero h g = refl
  first_found k (x ∷ xs) zero h g = by_test (has_key k x) refl
    where
      by_test : (b : Bool) → has_key k x ≡ b → first_if (has_key k) (x ∷ xs) ≡ find (has_key k) (x ∷ xs)
      by_test true f = rw f refl
      by_test false f = ap (λ t. cond t (Some x) None) f ∙ sym (none_behind k x xs h (g.1 0 x (omega arith) (omega arith)) f)
  first_found k [] (suc i) h g = refl
  first_found k (x ∷ xs) (suc i) h g =
      rw (less_is_not _ (g.0 0 x (omega arith) (omega arith))) (first_found k xs i h.1 (λ j d a b. g.0 (suc j) d (omega arith) (omega arith), λ j d a b. g.1 (suc j) d (omega arith) (omega arith)))
    where
      less_is_not : (o : Ordering) → is_lt o ≡ true → is_eq o ≡ false
      less_is_not Less e = refl
      less_is_not Equal e = cc
      less_is_not Greater e = cc

-- ---- ids

and_true : (b : Bool) → b ≡ (b && true)
and_true true = refl
and_true false = refl

-- an activation is identified by the numbers of its id
pub id_told : (id : Id) (r : Record) → is_of_id id r ≡ has_key id_key (id_numbers id) r
id_told id r =
    ap (λ t. (r.id.namespace == id.namespace) && t) (and_true (r.id.count == id.count))
    ∙ test_of (id_key r) (id_numbers id) _ refl

pub find_by_id : (id : Id) (rs : List Record) → find (is_of_id id) rs ≡ find (has_key id_key (id_numbers id)) rs
find_by_id id rs i = find (λ r. id_told id r i) rs

pub first_by_id : (id : Id) (rs : List Record) → first_if (is_of_id id) rs ≡ first_if (has_key id_key (id_numbers id)) rs
first_by_id id rs i = first_if (λ r. id_told id r i) rs

-- what is found among those sorted by their ids is the first of all
pub found_sorted : (id : Id) (rs : List Record) → find (is_of_id id) (sorted_by id_key rs) ≡ find (is_of_id id) rs
found_sorted id rs = find_by_id id _ ∙ find_sorted id_key (id_numbers id) rs ∙ sym (find_by_id id rs)
