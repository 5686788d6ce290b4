-- The items of rows, each kind by itself, are entries whose rows they are.
use Rattle.std.proofs.Common.{◌≡◌, ℕ, List, [], ◌∷◌, ◌++◌, map, codes, false, cond, Option, Some, None, Less, Equal, is_eq, Result, Ok, Err, IfOk, refl, sym, ap, ◌∙◌, subst, append_assoc, arith}
use Rattle.std.proofs.lemmas.Map.Text.{is_eq-slice_cmp}
use Rattle.std.specs.List.Sorted.{IsStrictlySortedBy}
use Rattle.std.specs.Option.{option_or}
use Rattle.ow_value.specs.Value.{text_cmp}
use Rattle.ow_value.proofs.Entries.{Above}
use Rattle.ow_traits.specs.Rows.{AreRows, text_of}
use Rattle.ow_traits.specs.declared.change_list.Change.TheVariants.{Put}
use Rattle.ow_row_text.specs.Item.{item_key, item_text, item_row}
use Rattle.ow_row_text.specs.Sorted.{Entries, Makes, rows_of}
use Rattle.ow_row_text.specs.declared.item.Item.{Item}
use Rattle.ow_row_text.specs.declared.item.Archive.{Archive as KeptArchive}
use Rattle.ow_row_text.specs.declared.item.Item.TheVariants.{Version, Archive, Count, Note, Row, Open, Done}
use Rattle.ow_row_text.specs.declared.item.RowsVersion.{RowsVersion}
use Rattle.ow_row_text.proofs.Extent.{same_rows, AreRows-rows_of, text_of-rows_of}
use Rattle.ow_row_text.proofs.Lists.{absent_kind, put_first, put_front, put_over, put_before, put_after}
use Rattle.ow_keep.specs.Kept.{AreKept}
use Rattle.ow_keep.specs.Moments.{archive_moment, greatest_kept_moment, parts_moment}
use Rattle.ow_keep.specs.Split.{Parts, archive_entries, behind_parts, count_row, done_row, entity_row, entries, joined_parts, main_entries, note_row, open_row, parts_of, split, version_entries, with_item}
use Rattle.ow_keep.specs.declared.kept.Kept.{Kept}

-- no key of another kind is that of the version
no_version : (key : List ℕ) (o : Option RowsVersion) → is_eq (text_cmp key (codes "version")) ≡ false → text_of key (version_entries o) ≡ None
no_version key None e = refl
no_version key (Some v) e = ap (λ b. cond b (Some (item_text (Version v))) None) e

version_put : (v : RowsVersion) (o : Option RowsVersion) → Makes (Put (item_key (Version v)) (item_text (Version v)) ∷ []) (version_entries o) (version_entries (Some v))
version_put v None = put_first (item_key (Version v)) (item_text (Version v)) []
version_put v (Some w) = put_over (item_key (Version v)) (item_text (Version w)) (item_text (Version v)) []

-- no key of another kind is that of the archive
no_archive : (key : List ℕ) (o : Option KeptArchive) → is_eq (text_cmp key (codes "archived")) ≡ false → text_of key (archive_entries o) ≡ None
no_archive key None e = refl
no_archive key (Some a) e = ap (λ b. cond b (Some (item_text (Archive a))) None) e

archive_put : (a : KeptArchive) (o : Option KeptArchive) → Makes (Put (item_key (Archive a)) (item_text (Archive a)) ∷ []) (archive_entries o) (archive_entries (Some a))
archive_put a None = put_first (item_key (Archive a)) (item_text (Archive a)) []
archive_put a (Some b) = put_over (item_key (Archive a)) (item_text (Archive b)) (item_text (Archive a)) []

-- ---- a put of one item

-- after the archive and the notes
put_main : (key text : List ℕ) (p : Parts) (new : Entries) → is_eq (text_cmp key (codes "archived")) ≡ false → text_of key (map note_row p.notes) ≡ None
    → Makes (Put key text ∷ []) (main_entries p) new → Makes (Put key text ∷ []) (entries p) (archive_entries p.archive ++ (map note_row p.notes ++ new))
put_main key text p new other none made =
    put_after _ _ (archive_entries p.archive) _ _ (no_archive key p.archive other)
    (put_after _ _ (map note_row p.notes) _ _ none made)

puts : (i : Item) (p : Parts) → Makes (Put (item_key i) (item_text i) ∷ []) (entries p) (entries (with_item i p))
puts (Version v) p =
    put_main _ _ p (main_entries (with_item (Version v) p)) refl (absent_kind note_row (item_key (Version v)) p.notes (λ n. refl))
    (put_before _ _ (version_entries p.version) (version_entries (Some v)) _ (version_put v p.version))
puts (Archive a) p = put_before _ _ (archive_entries p.archive) (archive_entries (Some a)) _ (archive_put a p.archive)
puts (Note n) p =
    put_after _ _ (archive_entries p.archive) _ _ (no_archive (item_key (Note n)) p.archive refl)
    (put_before _ _ (map note_row p.notes) (map note_row (n ∷ p.notes)) _ (put_front note_row n p.notes))
puts (Count n c) p =
    put_main _ _ p (main_entries (with_item (Count n c) p)) refl (absent_kind note_row (item_key (Count n c)) p.notes (λ n. refl))
    (put_after _ _ (version_entries p.version) _ _ (no_version (item_key (Count n c)) p.version refl)
    (put_before _ _ (map count_row p.counts) (map count_row ((record { namespace = n; count = c }) ∷ p.counts)) _ (put_front count_row (record { namespace = n; count = c }) p.counts)))
puts (Open u) p =
    put_main _ _ p (main_entries (with_item (Open u) p)) refl (absent_kind note_row (item_key (Open u)) p.notes (λ n. refl))
    (put_after _ _ (version_entries p.version) _ _ (no_version (item_key (Open u)) p.version refl)
    (put_after _ _ (map count_row p.counts) _ _ (absent_kind count_row (item_key (Open u)) p.counts (λ c. refl))
    (put_before _ _ (map open_row p.unrecorded) (map open_row (u ∷ p.unrecorded)) _ (put_front open_row u p.unrecorded))))
puts (Done r) p =
    put_main _ _ p (main_entries (with_item (Done r) p)) refl (absent_kind note_row (item_key (Done r)) p.notes (λ n. refl))
    (put_after _ _ (version_entries p.version) _ _ (no_version (item_key (Done r)) p.version refl)
    (put_after _ _ (map count_row p.counts) _ _ (absent_kind count_row (item_key (Done r)) p.counts (λ c. refl))
    (put_after _ _ (map open_row p.unrecorded) _ _ (absent_kind open_row (item_key (Done r)) p.unrecorded (λ u. refl))
    (put_before _ _ (map done_row p.records) (map done_row (r ∷ p.records)) _ (put_front done_row r p.records)))))
puts (Row e) p =
    put_main _ _ p (main_entries (with_item (Row e) p)) refl (absent_kind note_row (item_key (Row e)) p.notes (λ n. refl))
    (put_after _ _ (version_entries p.version) _ _ (no_version (item_key (Row e)) p.version refl)
    (put_after _ _ (map count_row p.counts) _ _ (absent_kind count_row (item_key (Row e)) p.counts (λ c. refl))
    (put_after _ _ (map open_row p.unrecorded) _ _ (absent_kind open_row (item_key (Row e)) p.unrecorded (λ u. refl))
    (put_after _ _ (map done_row p.records) _ _ (absent_kind done_row (item_key (Row e)) p.records (λ r. refl))
    (put_front entity_row e p.entities)))))

alike : (q : List ℕ) (is : List Item) → text_of q (map item_row is) ≡ text_of q (entries (split is))
alike q [] = refl
alike q (i ∷ is) =
    ap (cond (is_eq (text_cmp q (item_key i))) (Some (item_text i))) (alike q is)
    ∙ ap (λ b. cond b (Some (item_text i)) (text_of q (entries (split is)))) (is_eq-slice_cmp q (item_key i))
    ∙ sym ((puts i (split is)).each q)

pub split_kept : (is : List Item) → AreRows (map item_row is) → rows_of (entries (split is)) ≡ map item_row is
split_kept is h = same_rows (rows_of (entries (split is))) (map item_row is) (AreRows-rows_of (entries (split is))) h
    (λ q. text_of-rows_of q (entries (split is)) ∙ sym (alike q is))

-- the rows of items are those of their parts
pub parts_kept : {E : Type 0} (rows : Entries) (is : List Item) (r : Result Kept E) → AreKept rows is → AreRows rows → IfOk r (λ k. parts_of k ≡ split is) → IfOk r (λ k. rows_of (entries (parts_of k)) ≡ rows)
parts_kept rows is (Ok k) kept rise e = ap (λ p. rows_of (entries p)) e ∙ split_kept is (subst AreRows kept.rows rise) ∙ sym kept.rows
parts_kept rows is (Err x) kept rise e = tt

-- ---- items one after another

-- the first of three
or_first : {A : Type 0} (o : Option A) (x : A) (r : Option A) → option_or (option_or o (Some x)) r ≡ option_or o (Some x)
or_first None x r = refl
or_first (Some y) x r = refl

-- an item after some parts, and before others
pub push_joined : (p q : Parts) (i : Item) → joined_parts (behind_parts p i) q ≡ joined_parts p (with_item i q)
push_joined p q (Version v) = λ n. record (joined_parts p q) { version = or_first p.version v q.version n }
push_joined p q (Archive a) = λ n. record (joined_parts p q) { archive = or_first p.archive a q.archive n }
push_joined p q (Note x) = λ n. record (joined_parts p q) { notes = append_assoc p.notes (x ∷ []) q.notes n }
push_joined p q (Count namespace count) = λ n. record (joined_parts p q) { counts = append_assoc p.counts ((record { namespace = namespace; count = count }) ∷ []) q.counts n }
push_joined p q (Row r) = λ n. record (joined_parts p q) { entities = append_assoc p.entities (r ∷ []) q.entities n }
push_joined p q (Open u) = λ n. record (joined_parts p q) { unrecorded = append_assoc p.unrecorded (u ∷ []) q.unrecorded n }
push_joined p q (Done r) = λ n. record (joined_parts p q) { records = append_assoc p.records (r ∷ []) q.records n }

-- ---- moments

-- rows after that of the archive have no other
one_archive : (is : List Item) → Above (codes "archived") (map item_row is) → (split is).archive ≡ None
one_archive [] h = refl
one_archive (Version v ∷ is) h = one_archive is h.1
one_archive (Archive a ∷ is) h = let same : text_cmp (codes "archived") (codes "archived") ≡ Equal = refl in let f : Less ≡ Equal = sym h.0 ∙ same in cc
one_archive (Count n c ∷ is) h = one_archive is h.1
one_archive (Note n ∷ is) h = one_archive is h.1
one_archive (Row r ∷ is) h = one_archive is h.1
one_archive (Open u ∷ is) h = one_archive is h.1
one_archive (Done r ∷ is) h = one_archive is h.1

moment_with : (i : Item) (p : Parts) (is : List Item) → ((a : KeptArchive) → i ≡ Archive a → p.archive ≡ None) → parts_moment p ≡ greatest_kept_moment is → parts_moment (with_item i p) ≡ greatest_kept_moment (i ∷ is)
moment_with (Version v) p is one h = omega (arith, h)
moment_with (Archive a) p is one h = let none : archive_moment p.archive ≡ 0 = ap archive_moment (one a refl) in omega (arith, h, none)
moment_with (Count n c) p is one h = omega (arith, h)
moment_with (Note n) p is one h = omega (arith, h)
moment_with (Row r) p is one h = omega (arith, h)
moment_with (Open u) p is one h = omega (arith, h)
moment_with (Done r) p is one h = omega (arith, h)

pub moment_of_split : (is : List Item) → AreRows (map item_row is) → parts_moment (split is) ≡ greatest_kept_moment is
unfolding IsStrictlySortedBy
moment_of_split [] rise = refl
moment_of_split (i ∷ is) rise =
    moment_with i (split is) is (λ a e. one_archive is (subst (λ (j : Item). Above (item_key j) (map item_row is)) e rise.0)) (moment_of_split is rise.1)
