-- A change of the rows of tables, among the kept rows.
use Rattle.std.proofs.Common.{◌≡◌, List, [], ◌∷◌, Bool, true, false, cond, not, map, filter, is_eq, Ordering, Less, Equal, Greater, refl, sym, ap, ◌∙◌}
use Rattle.std.specs.List.{list_any}
use Rattle.std.specs.Ordering.{match_ordering}
use Rattle.std.specs.Str.{bytes_eq}
use Rattle.std.proofs.lemmas.Map.Text.{is_eq-slice_cmp}
use Rattle.ow_value.specs.Value.{text_cmp}
use Rattle.ow_value.proofs.KeySearch.{equal_texts, is_equal}
use Rattle.ow_entity.specs.declared.rows.Row.{Row}
use Rattle.ow_entity.specs.Row.{kind_of, name_of}
use Rattle.ow_traits.specs.declared.change_list.Change.TheVariants.{Drop as Dropped}
use Rattle.ow_tables.specs.Builtin.{builtin}
use Rattle.ow_tables.specs.Rows.{is_row, key_of, with_row, without}
use Rattle.ow_row_text.specs.declared.item.Item.TheVariants as items
use Rattle.ow_row_text.specs.Item.{entity_key}
use Rattle.ow_row_text.specs.Sorted.{Makes}
use Rattle.ow_row_text.proofs.Lists.{put_front}
use Rattle.ow_commits.specs.Commits.{put_of}
use Rattle.ow_commits.specs.Kept.{is_kept}
use Rattle.ow_commits.proofs.Keys.{row_keys}
use Rattle.ow_commits.proofs.Places.{drop_behind, drop_nothing, dropped, put_behind, replaced}
use Rattle.ow_commits.proofs.Sections.{row_of}

-- rows of one place are kept both or neither
pub kept_alike : (r x : Row) → key_of r ≡ key_of x → is_kept r ≡ is_kept x
kept_alike r x same = ap (λ k. not (list_any (λ b. bytes_eq k (key_of b)) builtin)) same

pub equal_by : (r x : Row) → is_eq (text_cmp (key_of r) (key_of x)) ≡ true → entity_key r ≡ entity_key x
equal_by r x same = equal_texts (entity_key r) (entity_key x) (is_equal (text_cmp (entity_key r) (entity_key x)) (row_keys r x ∙ same))

pub other_by : (r x : Row) → is_eq (text_cmp (key_of r) (key_of x)) ≡ false → is_eq (text_cmp (entity_key r) (entity_key x)) ≡ false
other_by r x other = row_keys r x ∙ other

pub places_are : (r x : Row) → is_eq (text_cmp (key_of r) (key_of x)) ≡ true → key_of r ≡ key_of x
places_are r x same = equal_texts (key_of r) (key_of x) (is_equal (text_cmp (key_of r) (key_of x)) same)

-- ---- a row is put

put_by : (r x : Row) (xs : List Row) (o : Ordering) (b : Bool) → text_cmp (key_of r) (key_of x) ≡ o → is_kept x ≡ b → is_kept r ≡ true
    → Makes (put_of (items.Row r) ∷ []) (map row_of (filter is_kept xs)) (map row_of (filter is_kept (with_row r xs)))
    → Makes (put_of (items.Row r) ∷ []) (map row_of (cond b (x ∷ filter is_kept xs) (filter is_kept xs)))
    (map row_of (filter is_kept (match_ordering o (r ∷ x ∷ xs) (r ∷ xs) (x ∷ with_row r xs))))
put_by r x xs Less true e k here rest = rw (here, k) (put_front row_of r (x ∷ filter is_kept xs))
put_by r x xs Less false e k here rest = rw (here, k) (put_front row_of r (filter is_kept xs))
put_by r x xs Equal true e k here rest = rw here (replaced row_of r x (filter is_kept xs) (equal_by r x (ap is_eq e)))
put_by r x xs Equal false e k here rest =
    let alike : is_kept r ≡ is_kept x = kept_alike r x (places_are r x (ap is_eq e)) in
    let absurd' : true ≡ false = sym here ∙ alike ∙ k in
    cc
put_by r x xs Greater true e k here rest = rw k (put_behind row_of r x (filter is_kept xs) (filter is_kept (with_row r xs)) (other_by r x (ap is_eq e)) rest)
put_by r x xs Greater false e k here rest = rw k rest

-- a kept row that is put among the rows of tables is put among the kept rows
pub row_kept : (r : Row) (xs : List Row) → is_kept r ≡ true → Makes (put_of (items.Row r) ∷ []) (map row_of (filter is_kept xs)) (map row_of (filter is_kept (with_row r xs)))
row_kept r [] here = rw here (put_front row_of r [])
row_kept r (x ∷ xs) here = put_by r x xs (text_cmp (key_of r) (key_of x)) (is_kept x) refl refl here (row_kept r xs here)

same_by : (r x : Row) (xs : List Row) (o : Ordering) (b : Bool) → text_cmp (key_of r) (key_of x) ≡ o → is_kept x ≡ b → is_kept r ≡ false
    → filter is_kept (with_row r xs) ≡ filter is_kept xs
    → filter is_kept (match_ordering o (r ∷ x ∷ xs) (r ∷ xs) (x ∷ with_row r xs)) ≡ cond b (x ∷ filter is_kept xs) (filter is_kept xs)
same_by r x xs Less true e k here rest = rw (here, k) refl
same_by r x xs Less false e k here rest = rw (here, k) refl
same_by r x xs Equal true e k here rest =
    let alike : is_kept r ≡ is_kept x = kept_alike r x (places_are r x (ap is_eq e)) in
    let absurd' : true ≡ false = sym k ∙ sym alike ∙ here in
    cc
same_by r x xs Equal false e k here rest = rw here refl
same_by r x xs Greater true e k here rest = rw k (ap (λ ys. x ∷ ys) rest)
same_by r x xs Greater false e k here rest = rw k rest

-- a row that is there from the start changes no kept row
pub row_not_kept : (r : Row) (xs : List Row) → is_kept r ≡ false → filter is_kept (with_row r xs) ≡ filter is_kept xs
row_not_kept r [] here = rw here refl
row_not_kept r (x ∷ xs) here = same_by r x xs (text_cmp (key_of r) (key_of x)) (is_kept x) refl refl here (row_not_kept r xs here)

-- ---- a row is taken out

pub is_place : (r x : Row) → is_row (kind_of r) (name_of r) x ≡ is_eq (text_cmp (key_of r) (key_of x))
is_place r x = sym (is_eq-slice_cmp (key_of r) (key_of x))

drop_by : (r x : Row) (xs : List Row) (here b : Bool) → is_row (kind_of r) (name_of r) x ≡ here → is_kept x ≡ b
    → Makes (Dropped (entity_key r) ∷ []) (map row_of (filter is_kept xs)) (map row_of (filter is_kept (without (kind_of r) (name_of r) xs)))
    → Makes (Dropped (entity_key r) ∷ []) (map row_of (cond b (x ∷ filter is_kept xs) (filter is_kept xs)))
    (map row_of (filter is_kept (cond (not here) (x ∷ without (kind_of r) (name_of r) xs) (without (kind_of r) (name_of r) xs))))
drop_by r x xs true true e k rest = dropped row_of (entity_key r) x (filter is_kept xs) (filter is_kept (without (kind_of r) (name_of r) xs)) (equal_by r x (sym (is_place r x) ∙ e)) rest
drop_by r x xs true false e k rest = rest
drop_by r x xs false true e k rest =
    rw k (drop_behind row_of (entity_key r) x (filter is_kept xs) (filter is_kept (without (kind_of r) (name_of r) xs)) (other_by r x (sym (is_place r x) ∙ e)) rest)
drop_by r x xs false false e k rest = rw k rest

pub row_left : (r : Row) (xs : List Row) → Makes (Dropped (entity_key r) ∷ []) (map row_of (filter is_kept xs)) (map row_of (filter is_kept (without (kind_of r) (name_of r) xs)))
row_left r [] = drop_nothing (entity_key r) [] refl
row_left r (x ∷ xs) = drop_by r x xs (is_row (kind_of r) (name_of r) x) (is_kept x) refl refl (row_left r xs)

left_by : (r x : Row) (xs : List Row) (here b : Bool) → is_row (kind_of r) (name_of r) x ≡ here → is_kept x ≡ b → is_kept r ≡ false
    → filter is_kept (without (kind_of r) (name_of r) xs) ≡ filter is_kept xs
    → filter is_kept (cond (not here) (x ∷ without (kind_of r) (name_of r) xs) (without (kind_of r) (name_of r) xs)) ≡ cond b (x ∷ filter is_kept xs) (filter is_kept xs)
left_by r x xs true true e k none rest =
    let alike : is_kept r ≡ is_kept x = kept_alike r x (places_are r x (sym (is_place r x) ∙ e)) in
    let absurd' : true ≡ false = sym k ∙ sym alike ∙ none in
    cc
left_by r x xs true false e k none rest = rest
left_by r x xs false true e k none rest = rw k (ap (λ ys. x ∷ ys) rest)
left_by r x xs false false e k none rest = rw k rest

pub row_not_left : (r : Row) (xs : List Row) → is_kept r ≡ false → filter is_kept (without (kind_of r) (name_of r) xs) ≡ filter is_kept xs
row_not_left r [] none = refl
row_not_left r (x ∷ xs) none = left_by r x xs (is_row (kind_of r) (name_of r) x) (is_kept x) refl refl none (row_not_left r xs none)
