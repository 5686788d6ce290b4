-- Entries whose keys rise, of any value: the entry at a place, and the entries after a put.
use Rattle.std.proofs.Common.{◌≡◌, ◌≢◌, ℕ, zero, suc, ◌<◌, List, [], ◌∷◌, ◌++◌, length, map, get_or, set, take, drop, Some, None, Ordering, Less, Equal, Greater, refl, ap, arith}
use Rattle.std.specs.BTreeMap.{is_at, insert_entry}
use Rattle.std.specs.List.{AllByRecursion}
use Rattle.std.specs.List.Sorted.{IsStrictlySortedBy}
use Rattle.std.specs.Map.{keys_of, lookup}
use Rattle.std.specs.Ordering.{match_ordering}
use Rattle.std.proofs.lemmas.Cmp.{nat_list_cmp_total}
use Rattle.ow_value.specs.Value.{text_cmp}
use Rattle.ow_value.proofs.KeySearch.{turned, below_equal, other, key_at, PartsAt}

abbrev pub Entries : Type 0 → Type 0
Entries W = List (List ℕ × W)

module _ {W : Type 0} where
  -- each key is above k
  abbrev pub Above : List ℕ → Entries W → Type 0
  Above k es = AllByRecursion (λ y. text_cmp k y ≡ Less) (keys_of es)

  abbrev Rise : Entries W → Type 0
  Rise es = IsStrictlySortedBy text_cmp (keys_of es)

  abbrev key_of : List ℕ × W → List ℕ
  key_of e = e.0

  -- ---- a key that is there

  pub lookup_at : (k : List ℕ) (es : Entries W) (i : ℕ) (d : List ℕ × W) → Rise es → i < length es → text_cmp (get_or es i d).0 k ≡ Equal → lookup (is_at (text_cmp k)) es ≡ Some (get_or es i d).1
  unfolding IsStrictlySortedBy
  lookup_at k [] i d h lt q = absurd (omega arith)
  lookup_at k (e ∷ es) zero d h lt q = rw (turned e.0 k Equal q)
  lookup_at k (e ∷ es) (suc i) d h lt q =
      let below : text_cmp e.0 (get_or es i d).0 ≡ Less = key_at key_of (λ a. text_cmp e.0 a ≡ Less) es i d h.0 (omega arith) in
      rw (below_equal e.0 (get_or es i d).0 k below q) (lookup_at k es i d h.1 (omega arith) q)

  pub insert_at_equal : (k : List ℕ) (w : W) (es : Entries W) (i : ℕ) (d : List ℕ × W) → Rise es → i < length es → text_cmp (get_or es i d).0 k ≡ Equal
      → insert_entry text_cmp es k w ≡ set es i ((get_or es i d).0, w)
  unfolding IsStrictlySortedBy
  insert_at_equal k w [] i d h lt q = absurd (omega arith)
  insert_at_equal k w (e ∷ es) zero d h lt q = rw (turned e.0 k Equal q)
  insert_at_equal k w (e ∷ es) (suc i) d h lt q =
      let below : text_cmp e.0 (get_or es i d).0 ≡ Less = key_at key_of (λ a. text_cmp e.0 a ≡ Less) es i d h.0 (omega arith) in
      rw (below_equal e.0 (get_or es i d).0 k below q) (ap (λ m. e ∷ m) (insert_at_equal k w es i d h.1 (omega arith) q))

  -- ---- a key that is not there

  pub lookup_nowhere : (k : List ℕ) (es : Entries W) → ((j : ℕ) (d : List ℕ × W) → j < length es → text_cmp (get_or es j d).0 k ≢ Equal) → lookup (is_at (text_cmp k)) es ≡ None
  lookup_nowhere k [] h = refl
  lookup_nowhere k (e ∷ es) h = rw (other e.0 k (h 0 e (omega arith))) (lookup_nowhere k es (λ j d lt. h (suc j) d (omega arith)))

  pub insert_between : (k : List ℕ) (w : W) (es : Entries W) (i : ℕ) → PartsAt key_of k es i → insert_entry text_cmp es k w ≡ take i es ++ (k, w) ∷ drop i es
  insert_between k w [] zero h = refl
  insert_between k w [] (suc i) h = refl
  insert_between k w (e ∷ es) zero h = rw (turned e.0 k Greater (h.1 0 e (omega arith) (omega arith)))
  insert_between k w (e ∷ es) (suc i) h =
      rw (turned e.0 k Less (h.0 0 e (omega arith) (omega arith)))
      (ap (λ m. e ∷ m) (insert_between k w es i (λ j d a b. h.0 (suc j) d (omega arith) (omega arith), λ j d a b. h.1 (suc j) d (omega arith) (omega arith))))

  -- ---- the keys still rise

  pub above_more : (j k : List ℕ) (es : Entries W) → text_cmp j k ≡ Less → Above k es → Above j es
  above_more j k [] lt h = tt
  above_more j k (e ∷ es) lt h = (nat_list_cmp_total.trans j k e.0 lt h.0, above_more j k es lt h.1)

  above_by : (j k : List ℕ) (w : W) (e : List ℕ × W) (es rest : Entries W) (o : Ordering) → text_cmp j k ≡ Less → Above j (e ∷ es) → Above j rest → Above j (match_ordering o ((k, w) ∷ e ∷ es) ((e.0, w) ∷ es) (e ∷ rest))
  above_by j k w e es rest Less lt h a = (lt, h)
  above_by j k w e es rest Equal lt h a = h
  above_by j k w e es rest Greater lt h a = (h.0, a)

  pub above_with : (j k : List ℕ) (w : W) (es : Entries W) → text_cmp j k ≡ Less → Above j es → Above j (insert_entry text_cmp es k w)
  above_with j k w [] lt h = (lt, tt)
  above_with j k w (e ∷ es) lt h = above_by j k w e es (insert_entry text_cmp es k w) (text_cmp k e.0) lt h (above_with j k w es lt h.1)

  sorted_by : (k : List ℕ) (w : W) (e : List ℕ × W) (es : Entries W) (o : Ordering) → text_cmp k e.0 ≡ o → Rise (e ∷ es) → Rise (insert_entry text_cmp es k w)
      → Rise (match_ordering o ((k, w) ∷ e ∷ es) ((e.0, w) ∷ es) (e ∷ insert_entry text_cmp es k w))
  unfolding IsStrictlySortedBy
  sorted_by k w e es Less q h a = ((q, above_more k e.0 es q h.0), h)
  sorted_by k w e es Equal q h a = h
  sorted_by k w e es Greater q h a = (above_with e.0 k w es (turned k e.0 Greater q) h.0, a)

  pub rises_with : (es : Entries W) (k : List ℕ) (w : W) → Rise es → Rise (insert_entry text_cmp es k w)
  unfolding IsStrictlySortedBy
  rises_with [] k w h = (tt, tt)
  rises_with (e ∷ es) k w h = sorted_by k w e es (text_cmp k e.0) refl h (rises_with es k w h.1)

-- ---- entries whose values are read by `f`

module _ {U W : Type 0} (f : U → W) where
  abbrev read_entries : Entries U → Entries W
  read_entries = map (λ e. (e.0, f e.1))

  read_by : (k : List ℕ) (u : U) (e : List ℕ × U) (es rest : Entries U) (new : Entries W) (o : Ordering) → new ≡ read_entries rest
      → match_ordering o ((k, f u) ∷ read_entries (e ∷ es)) ((e.0, f u) ∷ read_entries es) ((e.0, f e.1) ∷ new) ≡ read_entries (match_ordering o ((k, u) ∷ e ∷ es) ((e.0, u) ∷ es) (e ∷ rest))
  read_by k u e es rest new Less h = refl
  read_by k u e es rest new Equal h = refl
  read_by k u e es rest new Greater h = ap (λ m. (e.0, f e.1) ∷ m) h

  pub insert_read : (k : List ℕ) (u : U) (es : Entries U) → insert_entry text_cmp (read_entries es) k (f u) ≡ read_entries (insert_entry text_cmp es k u)
  insert_read k u [] = refl
  insert_read k u (e ∷ es) = read_by k u e es (insert_entry text_cmp es k u) (insert_entry text_cmp (read_entries es) k (f u)) (text_cmp k e.0) (insert_read k u es)
