-- What a search among rows finds, and what an edit at that place makes of them.
use Rattle.std.proofs.Common.{◌≡◌, ◌≢◌, ℕ, zero, suc, ◌+◌, ◌-◌, ◌<◌, ◌≤◌, List, [], ◌∷◌, ◌++◌, Bool, true, false, cond, length, get_or, set, take, drop, Some, None, Result, Ok, Err, IfOk, IfErr, Ordering, Less, Equal, Greater, inl, inr, is_eq, refl, sym, ap, ◌∙◌, subst, arith}
use Rattle.std.specs.List.{AllWithin}
use Rattle.std.specs.List.Sorted.{IsStrictlySortedBy, IsSearchInRange, IsBinarySearchResult}
use Rattle.std.specs.Ordering.{ordering_index}
use Rattle.std.proofs.lemmas.Bool.{cases_lt}
use Rattle.std.proofs.lemmas.List.{get_or-drop, get_or_default, length-drop}
use Rattle.std.proofs.Math.Seq.{take-length}
use Rattle.ow_value.specs.Value.{text_cmp}
use Rattle.ow_value.proofs.Entries.{Above, lookup_at, lookup_nowhere, insert_at_equal, insert_between}
use Rattle.ow_value.proofs.KeySearch.{turned, below_equal, other, key_at, rises, searched, StandsAt, PartsAt, parted}
use Rattle.ow_traits.specs.Rows.{AreRows, text_of, with_row, without}

abbrev Row : Type 0
Row = List ℕ × List ℕ

abbrev key_of : Row → List ℕ
key_of row = row.0

-- ---- a row taken out

pub without_at : (key : List ℕ) (rows : List Row) (i : ℕ) (d : Row) → AreRows rows → i < length rows → text_cmp (get_or rows i d).0 key ≡ Equal
    → without key rows ≡ take i rows ++ drop (suc i) rows
unfolding IsStrictlySortedBy
without_at key [] i d s lt e = absurd (omega arith)
without_at key (r ∷ rows) zero d s lt e = rw (turned r.0 key Equal e)
without_at key (r ∷ rows) (suc i) d s lt e =
    let below : text_cmp r.0 (get_or rows i d).0 ≡ Less = key_at key_of (λ k. text_cmp r.0 k ≡ Less) rows i d s.0 (omega arith) in
    rw (below_equal r.0 (get_or rows i d).0 key below e) (ap (λ m. r ∷ m) (without_at key rows i d s.1 (omega arith) e))

pub without_nowhere : (key : List ℕ) (rows : List Row) → ((j : ℕ) (d : Row) → j < length rows → text_cmp (get_or rows j d).0 key ≢ Equal) → without key rows ≡ rows
without_nowhere key [] h = refl
without_nowhere key (r ∷ rows) h = rw (other r.0 key (h 0 r (omega arith))) (ap (λ m. r ∷ m) (without_nowhere key rows (λ j d lt. h (suc j) d (omega arith))))

-- ---- the keys still rise

pub AreRows-none : AreRows []
unfolding IsStrictlySortedBy
AreRows-none = tt

above_cond : (j : List ℕ) (r : Row) (rows rest : List Row) (b : Bool) → Above j (r ∷ rows) → Above j rest → Above j (cond b rows (r ∷ rest))
above_cond j r rows rest true h a = h.1
above_cond j r rows rest false h a = (h.0, a)

above_without : (j k : List ℕ) (rows : List Row) → Above j rows → Above j (without k rows)
above_without j k [] h = tt
above_without j k (r ∷ rows) h = above_cond j r rows (without k rows) (is_eq (text_cmp k r.0)) h (above_without j k rows h.1)

sorted_cond : (k : List ℕ) (r : Row) (rows : List Row) (b : Bool) → AreRows (r ∷ rows) → AreRows (without k rows) → AreRows (cond b rows (r ∷ without k rows))
unfolding IsStrictlySortedBy
sorted_cond k r rows true h a = h.1
sorted_cond k r rows false h a = (above_without r.0 k rows h.0, a)

pub AreRows-without : (rows : List Row) (k : List ℕ) → AreRows rows → AreRows (without k rows)
unfolding IsStrictlySortedBy
AreRows-without [] k h = tt
AreRows-without (r ∷ rows) k h = sorted_cond k r rows (is_eq (text_cmp k r.0)) h (AreRows-without rows k h.1)

-- ---- a search that begins further on

-- the rows before one that is below the key are below it too
pub below_before : (rows : List Row) (key : List ℕ) (count : ℕ) (d : Row) → AreRows rows → count ≤ length rows → 0 < count → text_cmp (get_or rows (count - 1) d).0 key ≡ Less
    → AllWithin (λ r. text_cmp r.0 key ≡ Less) rows 0 count
below_before rows key count d up le some last j e low high =
    let rise = rises key_of key rows up j (count - 1) d (omega (arith, high)) (omega (arith, le, some)) in
    let here : text_cmp (get_or rows j d).0 key ≡ Less = is_least _ (subst (λ o. ordering_index (text_cmp (get_or rows j d).0 key) ≤ ordering_index o) last rise) in
    subst (λ r. text_cmp r.0 key ≡ Less) (get_or_default rows j d e (omega (arith, high, le))) here
  where
    is_least : (o : Ordering) → ordering_index o ≤ 0 → o ≡ Less
    is_least Less h = refl
    is_least Equal h = absurd (omega (arith, h))
    is_least Greater h = absurd (omega (arith, h))

AreRows-drop : (n : ℕ) (rows : List Row) → AreRows rows → AreRows (drop n rows)
unfolding IsStrictlySortedBy
AreRows-drop zero rows up = up
AreRows-drop (suc n) [] up = tt
AreRows-drop (suc n) (r ∷ rows) up = AreRows-drop n rows up.1

-- a key that is at a place of the rows from `below` on is at that place, counted from `below`, of all rows
there_from : (rows : List Row) (key : List ℕ) (below i : ℕ) → below ≤ length rows → StandsAt key_of key (drop below rows) i → StandsAt key_of key rows (below + i)
there_from rows key below i le at =
    let n = length-drop below rows in
    (omega (arith, at.0, n, le), λ d. subst (λ r. text_cmp r.0 key ≡ Equal) (get_or-drop below rows i d) (at.1 d))

-- and likewise the place where a key would be inserted
parts_from : (rows : List Row) (key : List ℕ) (below i : ℕ) → below ≤ length rows → AllWithin (λ r. text_cmp r.0 key ≡ Less) rows 0 below → PartsAt key_of key (drop below rows) i
    → PartsAt key_of key rows (below + i)
parts_from rows key below i le all parts = (less, greater)
  where
    shifted : (o : Ordering) (j : ℕ) (d : Row) → below ≤ j → text_cmp (get_or (drop below rows) (j - below) d).0 key ≡ o → text_cmp (get_or rows j d).0 key ≡ o
    shifted o j d from h =
        let same : below + (j - below) ≡ j = omega (arith, from) in
        subst (λ m. text_cmp (get_or rows m d).0 key ≡ o) same (subst (λ r. text_cmp r.0 key ≡ o) (get_or-drop below rows (j - below) d) h)

    less : AllWithin (λ r. text_cmp r.0 key ≡ Less) rows 0 (below + i)
    less j d low high = elim (cases_lt j below) [
      | inl before ↦ all j d low before
      | inr from ↦ shifted Less j d from (parts.0 (j - below) d (omega arith) (omega (arith, from, high)))
    ]

    greater : AllWithin (λ r. text_cmp r.0 key ≡ Greater) rows (below + i) (length rows)
    greater j d low high =
        let n = length-drop below rows in
        shifted Greater j d (omega (arith, low)) (parts.1 (j - below) d (omega (arith, low)) (omega (arith, low, high, n, le)))

-- what is found by a search among the rows from `below` on is found among all
pub found_from : (rows : List Row) (key : List ℕ) (below : ℕ) → AreRows rows → below ≤ length rows → AllWithin (λ r. text_cmp r.0 key ≡ Less) rows 0 below
    → (r : Result ℕ ℕ) → IsSearchInRange r (length (take (length rows - below) (drop below rows))) → IsBinarySearchResult (λ r. text_cmp r.0 key) (take (length rows - below) (drop below rows)) r
    → record {
      ok : IfOk r (λ i. StandsAt key_of key rows (below + i));
      err : IfErr r (λ i. (below + i ≤ length rows) × PartsAt key_of key rows (below + i));
    }
found_from rows key below up le all r range found = from r (subst (λ ys. IsSearchInRange r (length ys)) same range) (subst (λ ys. IsBinarySearchResult (λ x. text_cmp x.0 key) ys r) same found)
  where
    same : take (length rows - below) (drop below rows) ≡ drop below rows
    same = ap (λ n. take n (drop below rows)) (sym (length-drop below rows)) ∙ take-length (drop below rows)

    from : (r : Result ℕ ℕ) → IsSearchInRange r (length (drop below rows)) → IsBinarySearchResult (λ x. text_cmp x.0 key) (drop below rows) r
        → record {
          ok : IfOk r (λ i. StandsAt key_of key rows (below + i));
          err : IfErr r (λ i. (below + i ≤ length rows) × PartsAt key_of key rows (below + i));
        }
    from (Ok i) range found = record { ok = there_from rows key below i le (range, found); err = tt }
    from (Err i) range found =
        let n = length-drop below rows in
        let h = (searched key_of key (drop below rows) (AreRows-drop below rows up) (Err i) range found).err in
        record { ok = tt; err = (omega (arith, h.0, n, le), parts_from rows key below i le all h.1) }

-- ---- the edits of a Vec of rows, searched as another list that is equal

pub put_there : (xs ys : List Row) (k key text : List ℕ) (i : ℕ) (d : Row) → ys ≡ xs → k ≡ key → AreRows xs → StandsAt key_of k ys i → d ≡ get_or xs i d
    → set xs i (d.0, text) ≡ with_row xs key text
put_there xs ys k key text i d e f s h at =
    let h2 = subst (λ zs. StandsAt key_of k zs i) e h in
    let eq = subst (λ t. text_cmp (get_or xs i d).0 t ≡ Equal) f (h2.1 d) in
    ap (λ (z : Row). set xs i (z.0, text)) at ∙ sym (insert_at_equal key text xs i d s h2.0 eq)

pub put_between : (xs ys new : List Row) (k key text : List ℕ) (i : ℕ) → ys ≡ xs → k ≡ key → PartsAt key_of k ys i → new ≡ take i xs ++ (key, text) ∷ drop i xs
    → new ≡ with_row xs key text
put_between xs ys new k key text i e f h n =
    let h2 = subst (λ zs. PartsAt key_of k zs i) e h in
    let h3 = subst (λ t. PartsAt key_of t xs i) f h2 in
    n ∙ sym (insert_between key text xs i h3)

pub drop_there : (xs ys new : List Row) (key : List ℕ) (i j : ℕ) → ys ≡ xs → AreRows xs → StandsAt key_of key ys i → j ≡ suc i → new ≡ take i xs ++ drop j xs → new ≡ without key xs
drop_there [] ys new key i j e s h next n = let h2 = subst (λ zs. StandsAt key_of key zs i) e h in absurd (omega (arith, h2.0))
drop_there (x ∷ xs) ys new key i j e s h next n =
    let h2 = subst (λ zs. StandsAt key_of key zs i) e h in
    n ∙ ap (λ m. take i (x ∷ xs) ++ drop m (x ∷ xs)) next ∙ sym (without_at key (x ∷ xs) i x s h2.0 (h2.1 x))

pub drop_nowhere : (xs ys : List Row) (key : List ℕ) (i : ℕ) → ys ≡ xs → PartsAt key_of key ys i → xs ≡ without key xs
drop_nowhere xs ys key i e h =
    let h2 = subst (λ zs. PartsAt key_of key zs i) e h in
    sym (without_nowhere key xs (parted key_of key xs i h2))

pub found_there : (xs ys : List Row) (key : List ℕ) (i : ℕ) (d : Row) → ys ≡ xs → AreRows xs → StandsAt key_of key ys i → Some (get_or ys i d).1 ≡ text_of key xs
found_there xs ys key i d e s h =
    let h2 = subst (λ zs. StandsAt key_of key zs i) e h in
    ap (λ zs. Some (get_or zs i d).1) e ∙ sym (lookup_at key xs i d s h2.0 (h2.1 d))

pub found_nowhere : (xs ys : List Row) (key : List ℕ) (i : ℕ) → ys ≡ xs → PartsAt key_of key ys i → None ≡ text_of key xs
found_nowhere xs ys key i e h =
    let h2 = subst (λ zs. PartsAt key_of key zs i) e h in
    sym (lookup_nowhere key xs (parted key_of key xs i h2))
