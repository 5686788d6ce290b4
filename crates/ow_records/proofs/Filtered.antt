-- Records that pass a test, in the order of a key: to filter and to sort may change places.
use Rattle.std.proofs.Common.{◌≡◌, ◌≢◌, ◌∙◌, ℕ, Bool, true, false, not, cond, List, [], ◌∷◌, ◌++◌, filter, find, fold, Option, Some, None, Ordering, Less, Equal, Greater, is_lt, refl, sym, ap, subst, append_assoc}
use Rattle.std.specs.List.{AllByRecursion}
use Rattle.std.specs.Ordering.{is_le}
use Rattle.std.proofs.lemmas.List.{append-nil}
use Rattle.ow_value.specs.Value.{text_cmp}
use Rattle.ow_value.proofs.KeySearch.{equal_texts, is_equal}
use Rattle.ow_records.specs.declared.ids.Id.{Id}
use Rattle.ow_records.specs.declared.record.Record.{Record}
use Rattle.ow_records.specs.Records.{id_key, id_numbers, is_of_id, put_by, sorted_by}
use Rattle.ow_records.specs.Order.{Rises}
use Rattle.ow_records.proofs.Regions.{itself}
use Rattle.ow_records.proofs.Sorting.{above_test, all_above, id_told, is_less, rises_put, rises_sorted}

-- ---- a filter of what is put

module _ (key : Record → List ℕ) (p : Record → Bool) where
  filter_without : (r : Record) (xs : List Record) → p r ≡ false → filter p (put_by key r xs) ≡ filter p xs
  filter_without r [] e = rw e refl
  filter_without r (x ∷ xs) e = by_test (is_lt (text_cmp (key r) (key x))) (filter_without r xs e)
    where
      by_test : (b : Bool) → filter p (put_by key r xs) ≡ filter p xs → filter p (cond b (r ∷ x ∷ xs) (x ∷ put_by key r xs)) ≡ filter p (x ∷ xs)
      by_test true rest = rw e refl
      by_test false rest = ap (λ zs. cond (p x) (x ∷ zs) zs) rest

  -- before greater ones it is put first
  put_first : (r : Record) (xs : List Record) → AllByRecursion (λ y. text_cmp (key r) (key y) ≡ Less) xs → put_by key r (filter p xs) ≡ r ∷ filter p xs
  put_first r [] less = refl
  put_first r (x ∷ xs) less = by_test (p x) (put_first r xs less.1)
    where
      by_test : (b : Bool) → put_by key r (filter p xs) ≡ r ∷ filter p xs → put_by key r (cond b (x ∷ filter p xs) (filter p xs)) ≡ r ∷ cond b (x ∷ filter p xs) (filter p xs)
      by_test true rest = rw (ap is_lt less.0) refl
      by_test false rest = rest

  filter_with : (r : Record) (xs : List Record) → Rises key xs → p r ≡ true → filter p (put_by key r xs) ≡ put_by key r (filter p xs)
  unfolding Rises
  filter_with r [] rises e = rw e refl
  filter_with r (x ∷ xs) rises e = by_test (is_lt (text_cmp (key r) (key x))) refl (filter_with r xs rises.1 e)
    where
      by_pass : (b : Bool) → is_lt (text_cmp (key r) (key x)) ≡ false → filter p (put_by key r xs) ≡ put_by key r (filter p xs)
          → cond b (x ∷ filter p (put_by key r xs)) (filter p (put_by key r xs)) ≡ put_by key r (cond b (x ∷ filter p xs) (filter p xs))
      by_pass true g rest = rw g (ap (λ zs. x ∷ zs) rest)
      by_pass false g rest = rest

      by_test : (b : Bool) → is_lt (text_cmp (key r) (key x)) ≡ b → filter p (put_by key r xs) ≡ put_by key r (filter p xs)
          → filter p (cond b (r ∷ x ∷ xs) (x ∷ put_by key r xs)) ≡ put_by key r (filter p (x ∷ xs))
      by_test true g rest =
          ap (λ t. cond t (r ∷ filter p (x ∷ xs)) (filter p (x ∷ xs))) e
          ∙ sym (put_first r (x ∷ xs) (is_less _ g, all_above key r x xs (is_less _ g) rises.0))
      by_test false g rest = by_pass (p x) g rest

  filter_fold : (rs xs ys : List Record) → Rises key xs → filter p xs ≡ ys → filter p (fold (λ zs r. put_by key r zs) xs rs) ≡ fold (λ zs r. put_by key r zs) ys (filter p rs)
  filter_fold [] xs ys rises e = e
  filter_fold (r ∷ rs) xs ys rises e = by_test (p r) refl (filter_fold rs (put_by key r xs))
    where
      by_test : (b : Bool) → p r ≡ b
          → ((zs : List Record) → Rises key (put_by key r xs) → filter p (put_by key r xs) ≡ zs → filter p (fold (λ zs r. put_by key r zs) (put_by key r xs) rs) ≡ fold (λ zs r. put_by key r zs) zs (filter p rs))
          → filter p (fold (λ zs r. put_by key r zs) (put_by key r xs) rs) ≡ fold (λ zs r. put_by key r zs) ys (cond b (r ∷ filter p rs) (filter p rs))
      by_test true f rest = rest (put_by key r ys) (rises_put key r xs rises) (filter_with r xs rises f ∙ ap (put_by key r) e)
      by_test false f rest = rest ys (rises_put key r xs rises) (filter_without r xs f ∙ e)

  -- what passes of the sorted ones is what passes, sorted
  pub filter_of_sorted : (rs : List Record) → filter p (sorted_by key rs) ≡ sorted_by key (filter p rs)
  unfolding Rises
  filter_of_sorted rs = filter_fold rs [] [] tt refl

-- ---- what rises is sorted

module _ (key : Record → List ℕ) where
  not_less : (a b : List ℕ) (o : Ordering) → text_cmp a b ≡ o → o ≢ Greater → is_lt (text_cmp b a) ≡ false
  not_less a b Less e n = above_test a b ∙ ap (λ o. not (is_le o)) e
  not_less a b Equal e n = above_test a b ∙ ap (λ o. not (is_le o)) e
  not_less a b Greater e n = absurd (n refl)

  -- a record is put last, after records that aren't greater
  put_last : (r : Record) (xs rs : List Record) → Rises key (xs ++ r ∷ rs) → put_by key r xs ≡ xs ++ r ∷ []
  unfolding Rises
  put_last r [] rs rises = refl
  put_last r (x ∷ xs) rs rises = rw (not_less (key x) (key r) _ refl (among xs rises.0)) (ap (λ zs. x ∷ zs) (put_last r xs rs rises.1))
    where
      among : (ys : List Record) → AllByRecursion (λ y. text_cmp (key x) (key y) ≢ Greater) (ys ++ r ∷ rs) → text_cmp (key x) (key r) ≢ Greater
      among [] all = all.0
      among (y ∷ ys) all = among ys all.1

  fold_rising : (rs xs : List Record) → Rises key (xs ++ rs) → fold (λ zs r. put_by key r zs) xs rs ≡ xs ++ rs
  fold_rising [] xs rises = sym (append-nil xs)
  fold_rising (r ∷ rs) xs rises =
      ap (λ zs. fold (λ ys y. put_by key y ys) zs rs) (put_last r xs rs rises)
      ∙ (fold_rising rs (xs ++ r ∷ []) (subst (λ (zs : List Record). Rises key zs) (sym (append_assoc xs (r ∷ []) rs)) rises) ∙ append_assoc xs (r ∷ []) rs)

  pub sorted_rising : (rs : List Record) → Rises key rs → sorted_by key rs ≡ rs
  sorted_rising rs rises = fold_rising rs [] rises

  -- sorted ones that pass, sorted again
  pub filter_sorted : (p : Record → Bool) (rs : List Record) → sorted_by key (filter p (sorted_by key rs)) ≡ sorted_by key (filter p rs)
  filter_sorted p rs = ap (sorted_by key) (filter_of_sorted key p rs) ∙ sorted_rising (sorted_by key (filter p rs)) (rises_sorted key (filter p rs))

  -- ---- what is found

  rises_alike : (k : List ℕ) (p : Record → Bool) (rs : List Record) → ((r : Record) → p r ≡ true → key r ≡ k) → Rises key (filter p rs)
  unfolding Rises
  rises_alike k p [] alike = tt
  rises_alike k p (r ∷ rs) alike = by_test (p r) refl (rises_alike k p rs alike)
    where
      level : (xs : List Record) → key r ≡ k → AllByRecursion (λ y. text_cmp (key r) (key y) ≢ Greater) (filter p xs)
      level [] same = tt
      level (x ∷ xs) same = by_pass (p x) refl (level xs same)
        where
          by_pass : (b : Bool) → p x ≡ b → AllByRecursion (λ y. text_cmp (key r) (key y) ≢ Greater) (filter p xs)
              → AllByRecursion (λ y. text_cmp (key r) (key y) ≢ Greater) (cond b (x ∷ filter p xs) (filter p xs))
          by_pass true e rest = (subst (λ (a : List ℕ). text_cmp (key r) a ≢ Greater) (same ∙ sym (alike x e)) (λ g. let h = itself (key r) in cc), rest)
          by_pass false e rest = rest

      by_test : (b : Bool) → p r ≡ b → Rises key (filter p rs) → Rises key (cond b (r ∷ filter p rs) (filter p rs))
      by_test true e rest = (level rs (alike r e), rest)
      by_test false e rest = rest

  abbrev first_of : List Record → Option Record
  first_of [] = None
  first_of (r ∷ rs) = Some r

  find_first : (p : Record → Bool) (rs : List Record) → find p rs ≡ first_of (filter p rs)
  find_first p [] = refl
  find_first p (r ∷ rs) = by_test (p r) (find_first p rs)
    where
      by_test : (b : Bool) → find p rs ≡ first_of (filter p rs) → cond b (Some r) (find p rs) ≡ first_of (cond b (r ∷ filter p rs) (filter p rs))
      by_test true rest = refl
      by_test false rest = rest

  -- where all that pass have one key, the first of all is found among the sorted ones
  pub find_alike : (k : List ℕ) (p : Record → Bool) (rs : List Record) → ((r : Record) → p r ≡ true → key r ≡ k) → find p (sorted_by key rs) ≡ find p rs
  find_alike k p rs alike =
      find_first p (sorted_by key rs)
      ∙ (ap first_of (filter_of_sorted key p rs ∙ sorted_rising (filter p rs) (rises_alike k p rs alike))
      ∙ sym (find_first p rs))

-- an activation's key is that of its id
id_alike : (id : Id) (r : Record) → is_of_id id r ≡ true → id_key r ≡ id_numbers id
id_alike id r e = equal_texts (id_key r) (id_numbers id) (is_equal _ (sym (id_told id r) ∙ e))

-- by a test that only records of one id pass
pub find_of_id : (id : Id) (p : Record → Bool) (rs : List Record) → ((r : Record) → p r ≡ true → is_of_id id r ≡ true) → find p (sorted_by id_key rs) ≡ find p rs
find_of_id id p rs narrow = find_alike id_key (id_numbers id) p rs (λ r e. id_alike id r (narrow r e))
