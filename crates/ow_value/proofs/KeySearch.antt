-- What a search by key finds in a list, where `key` gives the key of each item.
use Rattle.std.proofs.Common.{◌≡◌, ◌≢◌, ◌==◌, ℕ, zero, suc, ◌-◌, ◌<◌, ◌≤◌, true, false, List, [], ◌∷◌, length, map, get_or, Result, Ok, Err, IfOk, IfErr, Ordering, Less, Equal, Greater, is_eq, is_lt, refl, sym, ap, ◌∙◌, subst, inl, inr, arith}
use Rattle.std.specs.Bool.{IsTrue}
use Rattle.std.specs.List.{AllByRecursion, HoldsAt}
use Rattle.std.specs.List.Sorted.{IsStrictlySortedBy, IsNonDecreasingBy, IsPartitionPoint, IsSearchInRange, IsBinarySearchResult}
use Rattle.std.specs.Ordering.{is_le, ordering_index, ordering_reverse}
use Rattle.std.specs.Str.{bytes_eq}
use Rattle.std.proofs.lemmas.Bool.{cases_lt}
use Rattle.std.proofs.lemmas.Bool.Decides.{nat_tests}
use Rattle.std.proofs.lemmas.Cmp.{nat_list_cmp_total}
use Rattle.std.proofs.lemmas.List.{get_or-map, get_or_default, length-map}
use Rattle.std.proofs.lemmas.Map.Text.{is_eq-slice_cmp}
use Rattle.std.proofs.lemmas.Slice.Eq.{bytes_eq-Decides}
use Rattle.ow_value.specs.Value.{text_cmp}

-- ---- two numbers

pub turned_eq : (m n : ℕ) → (m == n) ≡ false → (n == m) ≡ false
turned_eq m n e = grind (arith, nat_tests)

-- ---- two texts

pub test_of : (a b : List ℕ) (o : Ordering) → text_cmp a b ≡ o → bytes_eq a b ≡ is_eq o
test_of a b o e = sym (is_eq-slice_cmp a b) ∙ ap is_eq e

pub equal_texts : (a b : List ℕ) → text_cmp a b ≡ Equal → a ≡ b
equal_texts a b e = (bytes_eq-Decides a b).0 (test_of a b Equal e)

pub turned : (a b : List ℕ) (o : Ordering) → text_cmp a b ≡ o → text_cmp b a ≡ ordering_reverse o
turned a b o e = nat_list_cmp_total.antisymm b a ∙ ap ordering_reverse e

-- a text below one that equals k is not k
pub below_equal : (a b k : List ℕ) → text_cmp a b ≡ Less → text_cmp b k ≡ Equal → text_cmp k a ≡ Greater
below_equal a b k lt eq = sym (nat_list_cmp_total.congr b k a eq) ∙ turned a b Less lt

-- the order to k does not fall from a text to one above it
pub rises_at : (a b k : List ℕ) (o : Ordering) → text_cmp a b ≡ Less → text_cmp b k ≡ o → ordering_index (text_cmp a k) ≤ ordering_index o
rises_at a b k Less lt e = omega (arith, ap ordering_index (nat_list_cmp_total.trans a b k lt e))
rises_at a b k Equal lt e = omega (arith, ap ordering_index (turned k a Greater (below_equal a b k lt e)))
rises_at a b k Greater lt e = at_most (text_cmp a k)
  where
    at_most : (o : Ordering) → ordering_index o ≤ 2
    at_most Less = omega arith
    at_most Equal = omega arith
    at_most Greater = omega arith

-- texts in order compare in that order to a third
pub ranks : (a b k : List ℕ) (o : Ordering) → text_cmp a b ≡ o → o ≢ Greater → ordering_index (text_cmp a k) ≤ ordering_index (text_cmp b k)
ranks a b k Less e n = rises_at a b k _ e refl
ranks a b k Equal e n = omega (arith, ap ordering_index (nat_list_cmp_total.congr a b k e))
ranks a b k Greater e n = absurd (n refl)

not_equal : (o : Ordering) → ordering_reverse o ≢ Equal → is_eq o ≡ false
not_equal Less h = refl
not_equal Equal h = absurd (h refl)
not_equal Greater h = refl

-- a text to which k does not compare as equal is not k
pub other : (a k : List ℕ) → text_cmp a k ≢ Equal → is_eq (text_cmp k a) ≡ false
other a k h = not_equal _ (λ e. h (nat_list_cmp_total.antisymm a k ∙ e))

-- ---- how two texts compare

pub is_less : (o : Ordering) → IsTrue (is_lt o) → o ≡ Less
is_less Less h = refl
is_less Equal h = cc
is_less Greater h = cc

pub is_equal : (o : Ordering) → is_eq o ≡ true → o ≡ Equal
is_equal Less h = cc
is_equal Equal h = refl
is_equal Greater h = cc

pub reversed_eq : (o : Ordering) → is_eq (ordering_reverse o) ≡ is_eq o
reversed_eq Less = refl
reversed_eq Equal = refl
reversed_eq Greater = refl

-- an order no greater than `Less` is `Less`, and one no greater than an order that isn't `Greater` isn't `Greater`
pub lt_down : (p q : Ordering) → ordering_index p ≤ ordering_index q → is_lt q ≡ true → is_lt p ≡ true
lt_down Less q le e = refl
lt_down Equal Less le e = absurd (omega arith)
lt_down Equal Equal le e = cc
lt_down Equal Greater le e = cc
lt_down Greater Less le e = absurd (omega arith)
lt_down Greater Equal le e = cc
lt_down Greater Greater le e = cc

pub le_down : (p q : Ordering) → ordering_index p ≤ ordering_index q → is_le q ≡ true → is_le p ≡ true
le_down Less q le e = refl
le_down Equal q le e = refl
le_down Greater Less le e = absurd (omega arith)
le_down Greater Equal le e = absurd (omega arith)
le_down Greater Greater le e = cc

-- ---- a list whose keys rise

module _ {B : Type 0} (key : B → List ℕ) where
  -- what holds of each key holds of the one at a place
  pub key_at : (P : List ℕ → Type 0) (bs : List B) (j : ℕ) (d : B) → AllByRecursion P (map key bs) → j < length bs → P (key (get_or bs j d))
  key_at P [] j d h lt = absurd (omega arith)
  key_at P (b ∷ bs) zero d h lt = h.0
  key_at P (b ∷ bs) (suc j) d h lt = key_at P bs j d h.1 (omega arith)

  pub rises : (k : List ℕ) (bs : List B) → IsStrictlySortedBy text_cmp (map key bs) → IsNonDecreasingBy (λ b. ordering_index (text_cmp (key b) k)) bs
  unfolding IsStrictlySortedBy
  rises k [] h i j d le lt = absurd (omega arith)
  rises k (b ∷ bs) h zero zero d le lt = omega arith
  rises k (b ∷ bs) h zero (suc j) d le lt = rises_at (key b) (key (get_or bs j d)) k _ (key_at (λ a. text_cmp (key b) a ≡ Less) bs j d h.0 (omega arith)) refl
  rises k (b ∷ bs) h (suc i) zero d le lt = absurd (omega arith)
  rises k (b ∷ bs) h (suc i) (suc j) d le lt = rises k bs h.1 i j d (omega arith) (omega arith)

  -- the key is at that place
  abbrev pub StandsAt : List ℕ → List B → ℕ → Type 0
  StandsAt k bs i = (i < length bs) × HoldsAt (λ b. text_cmp (key b) k ≡ Equal) bs i

  -- the keys part there into those below and those above
  abbrev pub PartsAt : List ℕ → List B → ℕ → Type 0
  PartsAt k bs i = IsPartitionPoint (λ b. text_cmp (key b) k ≡ Less) (λ b. text_cmp (key b) k ≡ Greater) bs i

  pub searched : (k : List ℕ) (bs : List B) → IsStrictlySortedBy text_cmp (map key bs) → (r : Result ℕ ℕ) → IsSearchInRange r (length bs) → IsBinarySearchResult (λ b. text_cmp (key b) k) bs r
      → record {
        ok : IfOk r (λ i. StandsAt k bs i);
        err : IfErr r (λ i. (i ≤ length bs) × PartsAt k bs i);
      }
  searched k bs up (Ok i) range found = record { ok = (range, found); err = tt }
  searched k bs up (Err i) range found = record { ok = tt; err = (range, found (rises k bs up)) }

  -- where the last key is below k, all are
  all_below : (k : List ℕ) (bs : List B) (b : B) → IsStrictlySortedBy text_cmp (map key bs) → b ≡ get_or bs (length bs - 1) b → text_cmp (key b) k ≡ Less → PartsAt k bs (length bs)
  all_below k bs b up at lt = (below, λ j d le up. absurd (omega (arith, le, up)))
    where
      is_least : (o : Ordering) → ordering_index o ≤ 0 → o ≡ Less
      is_least Less h = refl
      is_least Equal h = absurd (omega (arith, h))
      is_least Greater h = absurd (omega (arith, h))

      below : (j : ℕ) (d : B) → 0 ≤ j → j < length bs → text_cmp (key (get_or bs j d)) k ≡ Less
      below j d le in_range =
          let last : text_cmp (key (get_or bs (length bs - 1) b)) k ≡ Less = ap (λ x. text_cmp (key x) k) (sym at) ∙ lt in
          let low = rises k bs up j (length bs - 1) b (omega (arith, in_range)) (omega (arith, in_range)) in
          is_least _ (subst (λ x. ordering_index (text_cmp (key x) k) ≤ 0) (get_or_default bs j b d in_range) (subst (λ o. ordering_index (text_cmp (key (get_or bs j b)) k) ≤ ordering_index o) last low))

  -- where the keys part, none is k
  pub parted : (k : List ℕ) (bs : List B) (i : ℕ) → PartsAt k bs i → (j : ℕ) (d : B) → j < length bs → text_cmp (key (get_or bs j d)) k ≢ Equal
  parted k bs i h j d lt e = elim (cases_lt j i) [
    | inl below ↦ apart Less e (sym (h.0 j d (omega arith) below)) (λ x. cc)
    | inr above ↦ apart Greater e (sym (h.1 j d above lt)) (λ x. cc)
  ]
    where
      apart : (o : Ordering) {p : Ordering} → p ≡ Equal → o ≡ p → (o ≡ Equal → ⊥) → ⊥
      apart o e f g = g (f ∙ e)

-- ---- a list of what `row` takes out of others

through : {A B : Type 0} (key : B → List ℕ) (row : A → B) (xs : List A) → map key (map row xs) ≡ map (λ x. key (row x)) xs
through key row [] = refl
through key row (x ∷ xs) = ap (λ ks. key (row x) ∷ ks) (through key row xs)

module _ {A B : Type 0} (key : B → List ℕ) (row : A → B) where
  pub key_through : (P : List ℕ → Type 0) (xs : List A) (j : ℕ) (d : A) → AllByRecursion P (map key (map row xs)) → j < length xs → P (key (row (get_or xs j d)))
  key_through P xs j d h = key_at (λ x. key (row x)) P xs j d (subst (AllByRecursion P) (through key row xs) h)

  pub searched_through : (k : List ℕ) (xs : List A) → IsStrictlySortedBy text_cmp (map key (map row xs)) → (r : Result ℕ ℕ) → IsSearchInRange r (length xs) → IsBinarySearchResult (λ x. text_cmp (key (row x)) k) xs r
      → record {
        ok : IfOk r (λ i. StandsAt (λ x. key (row x)) k xs i);
        err : IfErr r (λ i. (i ≤ length xs) × PartsAt (λ x. key (row x)) k xs i);
      }
  searched_through k xs up = searched (λ x. key (row x)) k xs (subst (IsStrictlySortedBy text_cmp) (through key row xs) up)

  pub all_below_through : (k : List ℕ) (xs : List A) (x : A) → IsStrictlySortedBy text_cmp (map key (map row xs)) → x ≡ get_or xs (length xs - 1) x → text_cmp (key (row x)) k ≡ Less → PartsAt (λ y. key (row y)) k xs (length xs)
  all_below_through k xs x up = all_below (λ y. key (row y)) k xs x (subst (IsStrictlySortedBy text_cmp) (through key row xs) up)

  pub parts_through : (k : List ℕ) (xs : List A) (i : ℕ) → i ≤ length xs → PartsAt (λ x. key (row x)) k xs i → PartsAt key k (map row xs) i
  parts_through k [] i le h = (λ j d a b. absurd (omega (arith, a, b)), λ j d a b. absurd (omega (arith, a, b)))
  parts_through k (x ∷ xs) i le h =
      let same = length-map (x ∷ xs) row in (
        λ j d a b. subst (λ y. text_cmp (key y) k ≡ Less) (sym (get_or-map row (x ∷ xs) j x d (omega (arith, same, a, b)))) (h.0 j x (omega (arith, same, a, b)) (omega (arith, same, a, b))),
        λ j d a b. subst (λ y. text_cmp (key y) k ≡ Greater) (sym (get_or-map row (x ∷ xs) j x d (omega (arith, same, a, b)))) (h.1 j x (omega (arith, same, a, b)) (omega (arith, same, a, b))),
      )
