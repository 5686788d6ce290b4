-- Rows of one kind are adjacent.
use Rattle.std.proofs.Common.{◌≡◌, ◌≢◌, ◌==◌, ℕ, zero, suc, ◌<◌, ◌≤◌, List, [], ◌∷◌, length, get_or, drop, Ordering, Less, Equal, Greater, refl, ap, inl, inr, arith}
use Rattle.std.specs.List.Sorted.{IsStrictlySortedBy, IsPartitionedBy}
use Rattle.std.specs.Ordering.{nat_cmp, ordering_index, ordering_then, is_lt, is_le}
use Rattle.std.specs.Str.{bytes_eq}
use Rattle.std.proofs.Math.Bool.{and-true}
use Rattle.std.proofs.lemmas.Bool.{cases_lt}
use Rattle.ow_value.specs.Value.{text_cmp}
use Rattle.ow_value.proofs.KeySearch.{key_at, ranks, lt_down, le_down}
use Rattle.ow_entity.specs.declared.kinds.EntityKind.{EntityKind}
use Rattle.ow_entity.specs.declared.rows.Row.{Row}
use Rattle.ow_entity.specs.Row.{kind_of}
use Rattle.ow_tables.specs.Rows.{AreRows, key_of, kind_place}
use Rattle.ow_hall.specs.Places.{is_of, kind_key}

below_or_same : (o p : Ordering) → ordering_then o p ≡ Less → ordering_then o Equal ≢ Greater
below_or_same Less p e q = cc
below_or_same Equal p e q = cc
below_or_same Greater p e q = cc

-- of two rows in order the first one's kind doesn't come after the second one's
kinds_rise : (a b : Row) → text_cmp (key_of a) (key_of b) ≡ Less → text_cmp (kind_key a) (kind_key b) ≢ Greater
kinds_rise a b lt = below_or_same (nat_cmp (kind_place (kind_of a)) (kind_place (kind_of b))) _ lt

sorted_at : (bs : List Row) (i j : ℕ) (d : Row) → AreRows bs → i < j → j < length bs → text_cmp (key_of (get_or bs i d)) (key_of (get_or bs j d)) ≡ Less
unfolding IsStrictlySortedBy
sorted_at [] i j d h lt le = absurd (omega arith)
sorted_at (b ∷ bs) i zero d h lt le = absurd (omega arith)
sorted_at (b ∷ bs) zero (suc j) d h lt le = key_at key_of (λ a. text_cmp (key_of b) a ≡ Less) bs j d h.0 (omega arith)
sorted_at (b ∷ bs) (suc i) (suc j) d h lt le = sorted_at bs i j d h.1 (omega arith) (omega arith)

ranks_at : (k : List ℕ) (bs : List Row) (i j : ℕ) (d : Row) → AreRows bs → i ≤ j → j < length bs
    → ordering_index (text_cmp (kind_key (get_or bs i d)) k) ≤ ordering_index (text_cmp (kind_key (get_or bs j d)) k)
ranks_at k bs i j d h le lt = elim (cases_lt i j) [
  | inl less ↦ ranks (kind_key (get_or bs i d)) (kind_key (get_or bs j d)) k _ refl (kinds_rise (get_or bs i d) (get_or bs j d) (sorted_at bs i j d h less lt))
  | inr more ↦ omega (arith, ap (λ n. ordering_index (text_cmp (kind_key (get_or bs n d)) k)) (same i j le more))
]
  where
    same : (i j : ℕ) → i ≤ j → j ≤ i → i ≡ j
    same i j le ge = omega arith

pub parts_before : (k : List ℕ) (bs : List Row) → AreRows bs → IsPartitionedBy (λ b. is_lt (text_cmp (kind_key b) k)) bs
parts_before k bs h i j d le lt e = lt_down _ _ (ranks_at k bs i j d h le lt) e

pub parts_through : (k : List ℕ) (bs : List Row) → AreRows bs → IsPartitionedBy (λ b. is_le (text_cmp (kind_key b) k)) bs
parts_through k bs h i j d le lt e = le_down _ _ (ranks_at k bs i j d h le lt) e

pub of_kind : (kind : EntityKind) (r : Row) → bytes_eq (kind_place kind ∷ []) (kind_key r) ≡ is_of kind r
of_kind kind r = and-true (kind_place kind == kind_place (kind_of r))

pub rows_after : (bs : List Row) (n : ℕ) → AreRows bs → AreRows (drop n bs)
unfolding IsStrictlySortedBy
rows_after bs zero h = h
rows_after [] (suc n) h = h
rows_after (b ∷ bs) (suc n) h = rows_after bs n h.1
