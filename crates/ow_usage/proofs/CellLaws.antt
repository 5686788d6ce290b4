-- What one record more makes of the cells, and how large totals grow.
use Rattle.std.proofs.Common.{◌≡◌, ◌+◌, ◌-◌, ◌*◌, ◌^◌, ◌<◌, ◌≤◌, ℕ, Bool, true, false, cond, List, [], ◌∷◌, ◌++◌, length, take, get_or, Option, Some, None, unwrap_or, option_map, refl, sym, ap, ap₂, ◌∙◌, subst, arith}
use Rattle.std.specs.BTreeMap.{insert_entry, is_at}
use Rattle.std.specs.Cmp.{IsTotalOrder}
use Rattle.std.specs.List.{All, AllByRecursion, filter, sum_by}
use Rattle.std.specs.List.Sorted.{IsStrictlySortedBy}
use Rattle.std.specs.Map.{keys_of, lookup, values_of}
use Rattle.std.specs.Ordering.{nat_cmp}
use Rattle.std.proofs.lemmas.Cmp.{nat_cmp_total, nat_list_cmp_total, on_total, then_total}
use Rattle.std.proofs.lemmas.List.{length-append, append-nil}
use Rattle.std.proofs.lemmas.List.Elements.{All-filter, All-from_recursion, All-weaker, filter-append, recursion_from_All}
use Rattle.std.proofs.lemmas.List.Sums.{count_by-le-length, length-filter, sum_by-append, sum_by-le}
use Rattle.std.proofs.lemmas.Map.Entries.{sum_by-insert_entry}
use Rattle.std.proofs.lemmas.Map.Lookups.{exact_bytes, exact_pairs, exact_unsigned}
use Rattle.std.proofs.lemmas.Nat.{mul-le}
use Rattle.std.proofs.lemmas.Option.{none-some}
use Rattle.std.proofs.lemmas.Map.Views.{All-keys-insert_entry}
use Rattle.ow_value.specs.Value.{text_cmp}
use Rattle.ow_value.proofs.KeySearch.{is_equal}
use Rattle.ow_records.specs.declared.record.Record.{Record}
use Rattle.ow_usage.specs.Cells.{AreInOrder, Cells, HasOneMore, HaveRoom, IsCountable, IsPart, Place, cell_at, counted, counted_at, duration, has_failed, held_for, is_of, is_within, memory_in, memory_time, nothing, or_nothing, place_cmp, place_of, plus, total, totals_if, totals_of}
use Rattle.ow_usage.specs.declared.totals.Totals.{Totals}

-- ---- places

pub places_total : IsTotalOrder place_cmp
places_total = then_total (on_total (λ p. p.0) nat_cmp_total) (on_total (λ p. p.1) nat_list_cmp_total)

pub same_place : (p q : Place) → is_at (place_cmp p) q ≡ true → p ≡ q
same_place p q h = exact_pairs nat_cmp text_cmp exact_unsigned exact_bytes p q (is_equal _ h)

-- ---- totals of lists

pub totals_append : (xs ys : List Record) → totals_of (xs ++ ys) ≡ plus (totals_of xs) (totals_of ys)
totals_append xs ys =
    rw (length-append xs ys, sum_by-append (λ r. cond (has_failed r) 1 0) xs ys, sum_by-append duration xs ys, sum_by-append memory_time xs ys) refl

pub or_nothing_of : (xs : List Record) → or_nothing (totals_if xs) ≡ totals_of xs
or_nothing_of [] = refl
or_nothing_of (x ∷ xs) = refl

pub some_of : (xs : List Record) (r : Record) → totals_if (xs ++ r ∷ []) ≡ Some (totals_of (xs ++ r ∷ []))
some_of [] r = refl
some_of (x ∷ xs) r = refl

-- ---- one record more

pub counted_more : (from to : ℕ) (xs : List Record) (r : Record) → is_within from to r ≡ true → counted from to (xs ++ r ∷ []) ≡ counted from to xs ++ r ∷ []
counted_more from to xs r h = filter-append (is_within from to) xs (r ∷ []) ∙ ap (λ b. counted from to xs ++ cond b (r ∷ []) []) h

pub counted_same : (from to : ℕ) (xs : List Record) (r : Record) → is_within from to r ≡ false → counted from to (xs ++ r ∷ []) ≡ counted from to xs
counted_same from to xs r h =
    filter-append (is_within from to) xs (r ∷ []) ∙ (ap (λ b. counted from to xs ++ cond b (r ∷ []) []) h ∙ append-nil (counted from to xs))

pub at_more : (from to : ℕ) (xs : List Record) (r : Record) (place : Place) (b : Bool) → is_within from to r ≡ true → is_of place r ≡ b
    → counted_at from to place (xs ++ r ∷ []) ≡ counted_at from to place xs ++ cond b (r ∷ []) []
at_more from to xs r place b h e =
    ap (filter (is_of place)) (counted_more from to xs r h)
    ∙ (filter-append (is_of place) (counted from to xs) (r ∷ []) ∙ ap (λ c. counted_at from to place xs ++ cond c (r ∷ []) []) e)

pub cell_more : (from to : ℕ) (xs : List Record) (r : Record) (old new : Cells) (place : Place) (b : Bool) → is_within from to r ≡ true → HasOneMore old r new
    → ((p : Place) → cell_at p old ≡ totals_if (counted_at from to p xs)) → is_of place r ≡ b
    → cell_at place new ≡ totals_if (counted_at from to place (xs ++ r ∷ []))
cell_more from to xs r old new place false h more each e =
    more.each place
    ∙ (ap (λ c. cond c (Some (plus (or_nothing (cell_at (place_of r) old)) (totals_of (r ∷ [])))) (cell_at place old)) e
    ∙ (each place ∙ ap totals_if (sym (append-nil (counted_at from to place xs)) ∙ sym (at_more from to xs r place false h e))))
cell_more from to xs r old new place true h more each e =
    let ys = counted_at from to place xs in
    let same : place_of r ≡ place = same_place (place_of r) place e in
    let was : or_nothing (cell_at (place_of r) old) ≡ totals_of ys = ap (λ p. or_nothing (cell_at p old)) same ∙ (ap or_nothing (each place) ∙ or_nothing_of ys) in
    more.each place
    ∙ (ap (λ c. cond c (Some (plus (or_nothing (cell_at (place_of r) old)) (totals_of (r ∷ [])))) (cell_at place old)) e
    ∙ (ap (λ t. Some (plus t (totals_of (r ∷ [])))) was
    ∙ (ap Some (sym (totals_append ys (r ∷ []))) ∙ (sym (some_of ys r) ∙ ap totals_if (sym (at_more from to xs r place true h e))))))

pub total_more : (from to : ℕ) (xs : List Record) (r : Record) (old new : Cells) → is_within from to r ≡ true → HasOneMore old r new → total old ≡ totals_of (counted from to xs)
    → total new ≡ totals_of (counted from to (xs ++ r ∷ []))
total_more from to xs r old new h more was =
    more.total ∙ (ap (λ t. plus t (totals_of (r ∷ []))) was ∙ (sym (totals_append (counted from to xs) (r ∷ [])) ∙ ap totals_of (sym (counted_more from to xs r h))))

-- ---- the total of the cells after a change

-- the sum of one number over the cells, where it is none of nothing and one of two is the sum of both
module _ (f : Totals → ℕ) (none : f nothing ≡ 0) where
  was : (o : Option Totals) → unwrap_or (option_map f o) 0 ≡ f (or_nothing o)
  was None = sym none
  was (Some t) = refl

  -- a cell has no more than all together
  pub part-le : (es : Cells) (place : Place) → AreInOrder es → f (or_nothing (cell_at place es)) ≤ sum_by f (values_of es)
  part-le es place s = omega (arith, sum_by-insert_entry f places_total es place nothing s, was (cell_at place es), none)

  pub sum_more : (es : Cells) (place : Place) (t : Totals) → AreInOrder es → f (plus (or_nothing (cell_at place es)) t) ≡ f (or_nothing (cell_at place es)) + f t
      → sum_by f (values_of (insert_entry place_cmp es place (plus (or_nothing (cell_at place es)) t))) ≡ sum_by f (values_of es) + f t
  sum_more es place t s e = omega (arith, sum_by-insert_entry f places_total es place (plus (or_nothing (cell_at place es)) t) s, was (cell_at place es), e)

pub total_insert : (es : Cells) (place : Place) (t : Totals) → AreInOrder es
    → total (insert_entry place_cmp es place (plus (or_nothing (cell_at place es)) t)) ≡ plus (total es) t
total_insert es place t s =
    rw (
      sum_more (λ u. u.activations) refl es place t s refl,
      sum_more (λ u. u.failed) refl es place t s refl,
      sum_more (λ u. u.ms) refl es place t s refl,
      sum_more (λ u. u.mbms) refl es place t s refl,
    ) refl

-- ---- how large totals are

pub failed_small : (r : Record) → cond (has_failed r) 1 0 ≤ 1
failed_small r = one_at_most (has_failed r) where
  one_at_most : (b : Bool) → cond b 1 0 ≤ 1
  one_at_most true = omega arith
  one_at_most false = omega arith

pub duration_small : (r : Record) → IsCountable r → duration r ≤ 253402300799999
duration_small r k = omega (arith, k.end)

held_small : (o : Option ℕ) (r : Record) → IsCountable r → held_for o r ≤ 253402300799999 * 512
held_small None r k = omega arith
held_small (Some w) r k = mul-le (duration r) (memory_in r.notes.limits) 253402300799999 512 (duration_small r k) k.memory

pub have_room : (from to : ℕ) (xs : List Record) → All IsCountable xs → length xs + 1 < 2 ^ 64 → HaveRoom (totals_of (counted from to xs))
have_room from to xs all few =
    let ys = counted from to xs in
    let known = All-filter (is_within from to) IsCountable xs all in
    let short : length ys ≤ length xs = omega (arith, length-filter (is_within from to) xs, count_by-le-length (is_within from to) xs) in
    let failed = sum_by-le (λ r. cond (has_failed r) 1 0) 1 ys (All-weaker IsCountable _ (λ r k. failed_small r) ys known) in
    let ms = sum_by-le duration 253402300799999 ys (All-weaker IsCountable _ duration_small ys known) in
    let mbms = sum_by-le memory_time (253402300799999 * 512) ys (All-weaker IsCountable _ (λ r k. held_small r.notes.wait_time r k) ys known) in
    record {
      activations = omega (arith, short, few);
      failed = omega (arith, failed, short, few);
      ms = omega (arith, ms, short, few);
      mbms = omega (arith, mbms, short, few);
    }

-- ---- what is held of the cells

pub part_of : (es : Cells) (place : Place) → AreInOrder es → IsPart (or_nothing (cell_at place es)) (total es)
part_of es place s = record {
  activations = part-le (λ t. t.activations) refl es place s;
  failed = part-le (λ t. t.failed) refl es place s;
  ms = part-le (λ t. t.ms) refl es place s;
  mbms = part-le (λ t. t.mbms) refl es place s;
}

pub days_insert : (es : Cells) (place : Place) (t : Totals) → AllByRecursion (λ p. p.0 ≤ 2932896) (keys_of es) → place.0 ≤ 2932896
    → AllByRecursion (λ p. p.0 ≤ 2932896) (keys_of (insert_entry place_cmp es place t))
days_insert es place t all last =
    recursion_from_All _ _ (All-keys-insert_entry place_cmp place t (λ p. p.0 ≤ 2932896) es (All-from_recursion _ _ all) last)

-- a place takes the totals of one record more
pub has_one_more : (r : Record) (old new : Cells) (key : Place) (v had one : Totals) → AreInOrder old → AreInOrder new → key ≡ place_of r → one ≡ totals_of (r ∷ [])
    → had ≡ or_nothing (cell_at key old) → v ≡ plus had one → new ≡ insert_entry place_cmp old key v
    → ((place : Place) → cell_at place new ≡ cond (is_at (place_cmp key) place) (Some v) (cell_at place old)) → HasOneMore old r new
has_one_more r old new key v had one s order at_key of_one had_it is entries changes =
    let whole : v ≡ plus (or_nothing (cell_at (place_of r) old)) (totals_of (r ∷ [])) = is ∙ ap₂ plus (had_it ∙ ap (λ k. or_nothing (cell_at k old)) at_key) of_one in
    record {
      order = order;
      each = λ place. changes place ∙ ap₂ (λ k u. cond (is_at (place_cmp k) place) (Some u) (cell_at place old)) at_key whole;
      total = ap total (entries ∙ ap₂ (λ k u. insert_entry place_cmp old k u) at_key whole) ∙ total_insert old (place_of r) (totals_of (r ∷ [])) s;
    }

-- ---- whether a record is counted

pub within_some : (b : Bool) (d e : ℕ) → cond b (Some d) None ≡ Some e → b ≡ true
within_some true d e h = refl
within_some false d e h = absurd (none-some e h)

pub within_none : (b : Bool) (d : ℕ) → cond b (Some d) None ≡ None → b ≡ false
within_none true d h = absurd (none-some d (sym h))
within_none false d h = refl
