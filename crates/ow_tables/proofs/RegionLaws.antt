-- Rows of one kind in one namespace are adjacent, from where a search finds the first to where it finds the last.
use Rattle.std.proofs.Common.{◌≡◌, ◌≢◌, ℕ, zero, suc, ◌<◌, ◌≤◌, ◌&&◌, ◌==◌, Bool, min, List, [], ◌∷◌, ◌++◌, length, filter, get_or, take, drop, Ordering, Less, Equal, Greater, refl, sym, ap, ◌∙◌, subst, inl, inr, arith}
use Rattle.std.specs.List.Sorted.{IsStrictlySortedBy, IsPartitionedBy}
use Rattle.std.specs.Ordering.{nat_cmp, ordering_index, ordering_then, is_lt, is_le}
use Rattle.std.specs.Str.{bytes_eq}
use Rattle.std.proofs.lemmas.Bool.{cases_lt}
use Rattle.std.proofs.lemmas.List.{append_cancel_right}
use Rattle.std.proofs.lemmas.Slice.Eq.{bytes_eq-Decides}
use Rattle.ow_value.specs.Value.{text_cmp}
use Rattle.ow_value.proofs.Between.{both, drop_upto, take_upto}
use Rattle.ow_value.proofs.KeySearch.{key_at, ranks, lt_down, le_down}
use Rattle.ow_names.specs.Slash.{HasNoSlash}
use Rattle.ow_names.specs.FullName.{local_text}
use Rattle.ow_names.specs.declared.full.FullName.{FullName}
use Rattle.ow_names.proofs.OrderLaws.{parts_then, then_then}
use Rattle.ow_entity.specs.declared.kinds.EntityKind.{EntityKind}
use Rattle.ow_entity.specs.declared.rows.Row.{Row}
use Rattle.ow_entity.specs.Row.{kind_of, name_of}
use Rattle.ow_tables.specs.Rows.{kind_place, key_of, AreRows, with_row, stands_in}
use Rattle.ow_tables.specs.Region.{region, region_of, namespace_of, IsPart, AreKept}
use Rattle.ow_tables.proofs.RowLaws.{all_put, all_filter, AreRows-with_row, AreRows-filter}

-- ---- regions and keys

below_or_same : (o p : Ordering) → ordering_then o p ≡ Less → o ≢ Greater
below_or_same Less p e q = cc
below_or_same Equal p e q = cc
below_or_same Greater p e q = cc

-- of two rows in order the first one's region doesn't come after the second one's
regions_rise : (a b : Row) → IsPart a → IsPart b → text_cmp (key_of a) (key_of b) ≡ Less → text_cmp (region_of a) (region_of b) ≢ Greater
regions_rise a b ha hb lt =
    let na = (name_of a).namespace in
    let nb = (name_of b).namespace in
    let kinds = nat_cmp (kind_place (kind_of a)) (kind_place (kind_of b)) in
    let split = parts_then na nb (local_text (name_of a).package (name_of a).name) (local_text (name_of b).package (name_of b).name) ha hb in
    below_or_same _ _ (sym (ap (ordering_then kinds) split ∙ then_then kinds _ _) ∙ lt)

-- ---- where the regions part

sorted_at : (bs : List Row) (i j : ℕ) (d : Row) → AreRows bs → i < j → j < length bs → text_cmp (key_of (get_or bs i d)) (key_of (get_or bs j d)) ≡ Less
unfolding IsStrictlySortedBy
sorted_at [] i j d h lt le = absurd (omega arith)
sorted_at (b ∷ bs) i zero d h lt le = absurd (omega arith)
sorted_at (b ∷ bs) zero (suc j) d h lt le = key_at key_of (λ a. text_cmp (key_of b) a ≡ Less) bs j d h.0 (omega arith)
sorted_at (b ∷ bs) (suc i) (suc j) d h lt le = sorted_at bs i j d h.1 (omega arith) (omega arith)

ranks_at : (k : List ℕ) (bs : List Row) (i j : ℕ) (d : Row) → AreKept bs → i ≤ j → j < length bs
    → ordering_index (text_cmp (region_of (get_or bs i d)) k) ≤ ordering_index (text_cmp (region_of (get_or bs j d)) k)
ranks_at k bs i j d h le lt = elim (cases_lt i j) [
  | inl less ↦ ranks (region_of (get_or bs i d)) (region_of (get_or bs j d)) k _ refl
      (regions_rise (get_or bs i d) (get_or bs j d) (key_at namespace_of HasNoSlash bs i d h.parts (omega arith)) (key_at namespace_of HasNoSlash bs j d h.parts lt) (sorted_at bs i j d h.rise less lt))
  | inr more ↦ omega (arith, ap (λ n. ordering_index (text_cmp (region_of (get_or bs n d)) k)) (same i j le more))
]
  where
    same : (i j : ℕ) → i ≤ j → j ≤ i → i ≡ j
    same i j le ge = omega arith

pub parts_before : (k : List ℕ) (bs : List Row) → AreKept bs → IsPartitionedBy (λ b. is_lt (text_cmp (region_of b) k)) bs
parts_before k bs h i j d le lt e = lt_down _ _ (ranks_at k bs i j d h le lt) e

pub parts_through : (k : List ℕ) (bs : List Row) → AreKept bs → IsPartitionedBy (λ b. is_le (text_cmp (region_of b) k)) bs
parts_through k bs h i j d le lt e = le_down _ _ (ranks_at k bs i j d h le lt) e

-- ---- the rows of a region

without_slash : (a b : List ℕ) → bytes_eq (a ++ 47 ∷ []) (b ++ 47 ∷ []) ≡ bytes_eq a b
without_slash a b = both _ _
    (λ e. (bytes_eq-Decides a b).1 (append_cancel_right a b (47 ∷ []) ((bytes_eq-Decides _ _).0 e)))
    (λ e. (bytes_eq-Decides _ _).1 (ap (λ s. s ++ 47 ∷ []) ((bytes_eq-Decides a b).0 e)))

pub in_region : (kind : EntityKind) (namespace : List ℕ) (r : Row) → bytes_eq (region kind namespace) (region_of r) ≡ stands_in kind namespace r
in_region kind namespace r = ap (λ t. (kind_place kind == kind_place (kind_of r)) && t) (without_slash namespace (name_of r).namespace)

-- ---- what of it is shown

pub cut : {A : Type 0} (xs rest ys : List A) (n m skip limit : ℕ) → xs ≡ ys → rest ≡ drop n xs → n ≡ min skip (length xs) → m ≡ min limit (length rest)
    → take m rest ≡ take limit (drop skip ys)
cut xs rest ys n m skip limit e r is_n is_m =
    take_upto rest m limit is_m ∙ ap (take limit) (r ∙ drop_upto xs n skip is_n) ∙ ap (λ zs. take limit (drop skip zs)) e

-- ---- what is kept

pub AreKept-with_row : (r : Row) (xs : List Row) → IsPart r → AreKept xs → AreKept (with_row r xs)
AreKept-with_row r xs p h = record { rise = AreRows-with_row r xs h.rise; parts = all_put namespace_of HasNoSlash r xs p h.parts }

pub AreKept-filter : (test : Row → Bool) (xs : List Row) → AreKept xs → AreKept (filter test xs)
AreKept-filter test xs h = record { rise = AreRows-filter test xs h.rise; parts = all_filter namespace_of HasNoSlash test xs h.parts }

pub AreKept-drop : (bs : List Row) (n : ℕ) → AreKept bs → AreKept (drop n bs)
unfolding IsStrictlySortedBy
AreKept-drop bs zero h = h
AreKept-drop [] (suc n) h = h
AreKept-drop (b ∷ bs) (suc n) h = AreKept-drop bs n (record { rise = h.rise.1; parts = h.parts.1 })

-- the namespace that a comparison made known is the row's
pub named : (r : Row) (name : FullName) → name ≡ name_of r → HasNoSlash name.namespace → IsPart r
named r name e h = subst (λ (n : FullName). HasNoSlash n.namespace) e h
