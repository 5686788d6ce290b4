-- How many bytes rows have after a change.
use Rattle.std.proofs.Common.{◌≡◌, ◌+◌, ℕ, List, [], ◌∷◌, length, Bool, true, false, cond, Some, Ordering, Less, Equal, Greater, is_eq, refl, ap, ◌∙◌, arith}
use Rattle.std.specs.List.Sorted.{IsStrictlySortedBy}
use Rattle.std.specs.Ordering.{match_ordering}
use Rattle.ow_value.specs.Value.{text_cmp}
use Rattle.ow_value.proofs.KeySearch.{equal_texts, is_equal}
use Rattle.ow_traits.specs.Rows.{AreRows, text_of, with_row, without}
use Rattle.ow_row_text.specs.Bytes.{AreApart, weight_at, bytes_of, weight}
use Rattle.ow_row_text.specs.Sorted.{Entries, rows_of}
use Rattle.ow_row_text.proofs.Extent.{AreRows-rows_of, below_none, text_of-rows_of}

abbrev Row : Type 0
Row = List ℕ × List ℕ

-- the row at a key is that of the first entry, or of one after it
at_by : (k : List ℕ) (e : Row) (es : Entries) (b : Bool) → is_eq (text_cmp k e.0) ≡ b → weight_at k (e ∷ es) ≡ cond b (length k + length e.1) (weight_at k es)
at_by k e es true g = ap (λ b. weight k (cond b (Some e.1) (text_of k es))) g
at_by k e es false g = ap (λ b. weight k (cond b (Some e.1) (text_of k es))) g

put_by : (k t : List ℕ) (e : Row) (es : Entries) (o : Ordering) → text_cmp k e.0 ≡ o → AreRows (e ∷ es)
    → bytes_of (with_row es k t) + weight_at k es ≡ bytes_of es + (length k + length t)
    → bytes_of (match_ordering o ((k, t) ∷ e ∷ es) ((e.0, t) ∷ es) (e ∷ with_row es k t)) + weight_at k (e ∷ es) ≡ bytes_of (e ∷ es) + (length k + length t)
put_by k t e es Less g s h =
    let none : weight_at k (e ∷ es) ≡ 0 = ap (weight k) (below_none k e es g s) in
    omega (arith, none)
put_by k t e es Equal g s h =
    let found : weight_at k (e ∷ es) ≡ length k + length e.1 = at_by k e es true (ap is_eq g) in
    let same : length k ≡ length e.0 = ap length (equal_texts k e.0 g) in
    omega (arith, found, same)
put_by k t e es Greater g s h =
    let found : weight_at k (e ∷ es) ≡ weight_at k es = at_by k e es false (ap is_eq g) in
    omega (arith, found, h)

pub put_weighs : (k t : List ℕ) (rows : Entries) → AreRows rows → bytes_of (with_row rows k t) + weight_at k rows ≡ bytes_of rows + (length k + length t)
unfolding IsStrictlySortedBy
put_weighs k t [] s = omega arith
put_weighs k t (e ∷ es) s = put_by k t e es (text_cmp k e.0) refl s (put_weighs k t es s.1)

drop_by : (k : List ℕ) (e : Row) (es : Entries) (b : Bool) → is_eq (text_cmp k e.0) ≡ b → bytes_of (without k es) + weight_at k es ≡ bytes_of es
    → bytes_of (cond b es (e ∷ without k es)) + weight_at k (e ∷ es) ≡ bytes_of (e ∷ es)
drop_by k e es true g h =
    let found : weight_at k (e ∷ es) ≡ length k + length e.1 = at_by k e es true g in
    let same : length k ≡ length e.0 = ap length (equal_texts k e.0 (is_equal (text_cmp k e.0) g)) in
    omega (arith, found, same)
drop_by k e es false g h =
    let found : weight_at k (e ∷ es) ≡ weight_at k es = at_by k e es false g in
    omega (arith, found, h)

pub drop_weighs : (k : List ℕ) (rows : Entries) → AreRows rows → bytes_of (without k rows) + weight_at k rows ≡ bytes_of rows
unfolding IsStrictlySortedBy
drop_weighs k [] s = omega arith
drop_weighs k (e ∷ es) s = drop_by k e es (is_eq (text_cmp k e.0)) refl (drop_weighs k es s.1)

pub weight_at-rows_of : (k : List ℕ) (es : Entries) → weight_at k (rows_of es) ≡ weight_at k es
weight_at-rows_of k es = ap (weight k) (text_of-rows_of k es)

pub bytes_of-rows_of : (es : Entries) → AreApart es → bytes_of (rows_of es) ≡ bytes_of es
unfolding rows_of
bytes_of-rows_of [] h = refl
bytes_of-rows_of (e ∷ es) h =
    let put = put_weighs e.0 e.1 (rows_of es) (AreRows-rows_of es) in
    let none : weight_at e.0 (rows_of es) ≡ 0 = weight_at-rows_of e.0 es ∙ ap (weight e.0) h.0 in
    omega (arith, put, none, bytes_of-rows_of es h.1)
