-- What is committed of an archive turns what was kept into what is kept after it.
use Rattle.std.proofs.Common.{◌≡◌, ◌+◌, ◌≤◌, ◌||◌, ℕ, Bool, true, false, not, cond, codes, List, [], ◌∷◌, ◌++◌, map, filter, fold, is_eq, is_lt, Option, Some, None, refl, sym, ap, ◌∙◌, subst, arith}
use Rattle.std.specs.List.{AllByRecursion, list_any}
use Rattle.std.specs.Str.{bytes_eq}
use Rattle.std.proofs.lemmas.Map.Text.{is_eq-slice_cmp}
use Rattle.ow_value.specs.Value.{text_cmp}
use Rattle.ow_value.proofs.KeySearch.{equal_texts, is_equal}
use Rattle.ow_entity.specs.declared.rows.Row.{Row}
use Rattle.ow_traits.specs.Rows.{text_of}
use Rattle.ow_floor.specs.Calls.{archive_items, due_by, due_in}
use Rattle.ow_floor.specs.Laws.{IsSound, record_ids, times}
use Rattle.ow_floor.specs.Trace.{Trace, drawn, shown_records}
use Rattle.ow_floor.proofs.Alters.{same_id_refl}
use Rattle.ow_floor.proofs.Archives.{shown_or_archived}
use Rattle.ow_row_text.specs.Item.{done_key, item_text}
use Rattle.ow_row_text.specs.Lists.{Lacks}
use Rattle.ow_row_text.specs.Sorted.{AreOtherKeys, Entries, Makes, changed_at}
use Rattle.ow_row_text.specs.declared.item.Item.TheVariants as items
use Rattle.ow_row_text.proofs.Extent.{changes_kept}
use Rattle.ow_row_text.proofs.Lists.{makes_then, put_over}
use Rattle.ow_row_text.proofs.Others.{others_made}
use Rattle.ow_commits.specs.Archiving.{archive_changes, archive_with, others_with, retire_of}
use Rattle.ow_commits.specs.Commits.{put_of}
use Rattle.ow_commits.specs.Keeping.{AreIds}
use Rattle.ow_commits.specs.Kept.{OthersView, entries, is_kept, kept_whole, note_row, other_entries, unrecorded}
use Rattle.ow_commits.specs.Laws.{ArchivesAreKept}
use Rattle.ow_commits.proofs.Ids.{lacks_done, nowhere}
use Rattle.ow_commits.proofs.RowLaws.{made_so}
use Rattle.ow_commits.proofs.Sections.{count_of, done_no_count, done_no_open, done_no_row, done_of, open_of, row_of, sections, version}
use Rattle.ow_commits.proofs.Untouched.{done_apart}
use Rattle.ow_records.specs.declared.ids.Id.{Id}
use Rattle.ow_records.specs.declared.record.Record.{Record}
use Rattle.ow_records.specs.declared.unrecorded.Unrecorded.{Unrecorded}
use Rattle.ow_records.specs.Id.{same_id}
use Rattle.ow_records.specs.Known.{IsId}
use Rattle.ow_records.specs.Records.{id_key, is_due, is_retained, put_by, sorted_by}

-- ---- tests

twice : (a b : Bool) (x : Option (List ℕ)) → cond b None (cond a None x) ≡ cond (a || b) None x
twice true true x = refl
twice true false x = refl
twice false b x = refl

swap : (a b c : Bool) → (a || (b || c)) ≡ (b || (a || c))
swap true true c = refl
swap true false c = refl
swap false b c = refl

turn : (a b c : Bool) → ((a || b) || c) ≡ (b || (a || c))
turn true true c = refl
turn true false c = refl
turn false b c = refl

last_or : (a : Bool) → a ≡ (a || false)
last_or true = refl
last_or false = refl

-- ---- the text at a key

module _ (q : List ℕ) where
  abbrev is_at : Record → Bool
  is_at r = is_eq (text_cmp q (done_key r.id))

  -- it is gone where the key is that of one of the records
  retired_at : (rs : List Record) (x : Option (List ℕ)) → changed_at (map retire_of rs) q x ≡ cond (list_any is_at rs) None x
  retired_at [] x = refl
  retired_at (r ∷ rs) x =
      retired_at rs (cond (bytes_eq q (done_key r.id)) None x)
      ∙ (ap (λ a. cond (list_any is_at rs) None (cond a None x)) (sym (is_eq-slice_cmp q (done_key r.id)))
      ∙ twice (is_at r) (list_any is_at rs) x)

  -- their order doesn't matter
  any_put : (r : Record) (xs : List Record) → list_any is_at (put_by id_key r xs) ≡ (is_at r || list_any is_at xs)
  any_put r [] = refl
  any_put r (x ∷ xs) = by_test (is_lt (text_cmp (id_key r) (id_key x))) (any_put r xs)
    where
      by_test : (b : Bool) → list_any is_at (put_by id_key r xs) ≡ (is_at r || list_any is_at xs) → list_any is_at (cond b (r ∷ x ∷ xs) (x ∷ put_by id_key r xs)) ≡ (is_at r || (is_at x || list_any is_at xs))
      by_test true rest = refl
      by_test false rest = ap (λ b. is_at x || b) rest ∙ swap (is_at x) (is_at r) (list_any is_at xs)

  any_fold : (rs xs : List Record) → list_any is_at (fold (λ zs r. put_by id_key r zs) xs rs) ≡ (list_any is_at xs || list_any is_at rs)
  any_fold [] xs = last_or (list_any is_at xs)
  any_fold (r ∷ rs) xs =
      any_fold rs (put_by id_key r xs)
      ∙ (ap (λ b. b || list_any is_at rs) (any_put r xs)
      ∙ turn (is_at r) (list_any is_at xs) (list_any is_at rs))

  any_sorted : (rs : List Record) → list_any is_at (sorted_by id_key rs) ≡ list_any is_at rs
  any_sorted rs = any_fold rs []

  -- ---- a key that no record has

  none_any : (p : Record → Bool) (xs : List Record) → Lacks done_of q xs → list_any is_at (filter p xs) ≡ false
  none_any p [] lacks = refl
  none_any p (x ∷ xs) lacks = by_test (p x) (none_any p xs lacks.1)
    where
      by_test : (b : Bool) → list_any is_at (filter p xs) ≡ false → list_any is_at (cond b (x ∷ filter p xs) (filter p xs)) ≡ false
      by_test true rest = ap (λ b. b || list_any is_at (filter p xs)) lacks.0 ∙ rest
      by_test false rest = rest

  none_left : (p : Record → Bool) (xs : List Record) → Lacks done_of q xs → text_of q (map done_of (filter p xs)) ≡ None
  none_left p [] lacks = refl
  none_left p (x ∷ xs) lacks = by_test (p x) (none_left p xs lacks.1)
    where
      by_test : (b : Bool) → text_of q (map done_of (filter p xs)) ≡ None → text_of q (map done_of (cond b (x ∷ filter p xs) (filter p xs))) ≡ None
      by_test true rest = ap (λ b. cond b (Some (item_text (items.Done x))) (text_of q (map done_of (filter p xs)))) lacks.0 ∙ rest
      by_test false rest = rest

  -- ---- records that are due leave

  module _ (until : ℕ) where
    abbrev Due : List Record → List Record
    Due xs = filter (is_due until) xs

    abbrev Left : List Record → List Record
    Left xs = filter (is_retained until) xs

    part_by : (x : Record) (xs : List Record) (k d : Bool) → is_at x ≡ k → (k ≡ true → Lacks done_of q xs)
        → text_of q (map done_of (Left xs)) ≡ cond (list_any is_at (Due xs)) None (text_of q (map done_of xs))
        → text_of q (map done_of (cond (not d) (x ∷ Left xs) (Left xs)))
        ≡ cond (list_any is_at (cond d (x ∷ Due xs) (Due xs))) None (cond k (Some (item_text (items.Done x))) (text_of q (map done_of xs)))
    part_by x xs true true e lacks rest =
        none_left (is_retained until) xs (lacks refl)
        ∙ ap (λ b. cond (b || list_any is_at (Due xs)) None (Some (item_text (items.Done x)))) (sym e)
    part_by x xs true false e lacks rest =
        ap (λ b. cond b (Some (item_text (items.Done x))) (text_of q (map done_of (Left xs)))) e
        ∙ ap (λ b. cond b None (Some (item_text (items.Done x)))) (sym (none_any (is_due until) xs (lacks refl)))
    part_by x xs false true e lacks rest = rest ∙ ap (λ b. cond (b || list_any is_at (Due xs)) None (text_of q (map done_of xs))) (sym e)
    part_by x xs false false e lacks rest = ap (λ b. cond b (Some (item_text (items.Done x))) (text_of q (map done_of (Left xs)))) e ∙ rest

    lacks_at : (x : Record) (xs : List Record) → ((id : Id) → times id (record_ids (x ∷ xs)) ≤ 1) → IsId x.id → AllByRecursion (λ (r : Record). IsId r.id) xs → is_at x ≡ true → Lacks done_of q xs
    lacks_at x xs once is all e =
        let here : same_id x.id x.id ≡ true = same_id_refl x.id in
        let one : ◌≡◌ {A = ℕ} (cond (same_id x.id x.id) 1 0) 1 = ap (λ b. cond b 1 0) here in
        let most : cond (same_id x.id x.id) 1 0 + times x.id (record_ids xs) ≤ 1 = once x.id in
        let none : times x.id (record_ids xs) ≡ 0 = omega (arith, one, most) in
        let key : q ≡ done_key x.id = equal_texts q (done_key x.id) (is_equal (text_cmp q (done_key x.id)) e) in
        subst (λ (k : List ℕ). Lacks done_of k xs) (sym key) (lacks_done x.id xs is all (nowhere (λ (r : Record). r.id) x.id xs none))

    parted : (xs : List Record) → ((id : Id) → times id (record_ids xs) ≤ 1) → AllByRecursion (λ (r : Record). IsId r.id) xs
        → text_of q (map done_of (Left xs)) ≡ cond (list_any is_at (Due xs)) None (text_of q (map done_of xs))
    parted [] once all = refl
    parted (x ∷ xs) once all =
        part_by x xs (is_at x) (is_due until x) refl (lacks_at x xs once all.0 all.1)
        (parted xs (λ id. let most : cond (same_id id x.id) 1 0 + times id (record_ids xs) ≤ 1 = once id in omega (arith, most)) all.1)

-- ---- the rows of records

retired : (until : ℕ) (xs : List Record) → ((id : Id) → times id (record_ids xs) ≤ 1) → AllByRecursion (λ (r : Record). IsId r.id) xs
    → Makes (map retire_of (due_by until xs)) (map done_of xs) (map done_of (filter (is_retained until) xs))
retired until xs once all = record {
  each = λ q.
      parted q until xs once all
      ∙ (ap (λ b. cond b None (text_of q (map done_of xs))) (sym (any_sorted q (filter (is_due until) xs)))
      ∙ sym (retired_at q (due_by until xs) (text_of q (map done_of xs))));
}

-- they are beside rows that have none of their keys
retires_apart : (es : Entries) → ((id : Id) → text_of (done_key id) es ≡ None) → (ds : List Record) → AreOtherKeys es (map retire_of ds)
retires_apart es h [] = tt
retires_apart es h (d ∷ ds) = (h d.id, retires_apart es h ds)

module _ (ids : List Id) (rs : List Row) (us : List Unrecorded) (old new ds : List Record) where
  sections_retired : Makes (map retire_of ds) (map done_of old) (map done_of new) → Makes (map retire_of ds) (sections ids rs us old) (sections ids rs us new)
  sections_retired h =
      others_made (map retire_of ds) version (map count_of ids ++ (map row_of rs ++ (map open_of us ++ map done_of old))) (map count_of ids ++ (map row_of rs ++ (map open_of us ++ map done_of new)))
      (retires_apart version (λ id. refl) ds)
      (others_made (map retire_of ds) (map count_of ids) (map row_of rs ++ (map open_of us ++ map done_of old)) (map row_of rs ++ (map open_of us ++ map done_of new))
      (retires_apart (map count_of ids) (λ id. done_no_count id ids) ds)
      (others_made (map retire_of ds) (map row_of rs) (map open_of us ++ map done_of old) (map open_of us ++ map done_of new)
      (retires_apart (map row_of rs) (λ id. done_no_row id rs) ds)
      (others_made (map retire_of ds) (map open_of us) (map done_of old) (map done_of new)
      (retires_apart (map open_of us) (λ id. done_no_open id us) ds) h)))

-- ---- all that is kept

module _ (o : OthersView) (until : ℕ) (rs : List Row) (T : Trace) (sound : IsSound T) (ids : AreIds T) where
  abbrev Gone : List Record
  Gone = due_in until T

  abbrev After : Trace
  After = archive_items until T ++ T

  once_shown : (id : Id) → times id (record_ids (shown_records T)) ≤ 1
  once_shown id =
      let known = shown_or_archived T sound in
      let once = known.once id in
      let parts = known.parts id in
      omega (arith, once, parts)

  rows_made : Makes (map retire_of Gone) (entries rs T) (entries rs After)
  rows_made = made_so (map retire_of Gone) rs rs T After
      (sections_retired (drawn T) (filter is_kept rs) (unrecorded T) (shown_records T) (filter (is_retained until) (shown_records T)) Gone (retired until (shown_records T) once_shown ids.ended))

  whole_made : Makes (archive_changes o.archive Gone) (other_entries o ++ entries rs T) (other_entries (others_with o Gone) ++ entries rs After)
  whole_made = makes_then (map retire_of Gone) (put_of (items.Archive (archive_with o.archive Gone)) ∷ [])
      (other_entries o ++ entries rs T) (other_entries o ++ entries rs After) (other_entries (others_with o Gone) ++ entries rs After)
      (others_made (map retire_of Gone) (other_entries o) (entries rs T) (entries rs After) (retires_apart (other_entries o) (done_apart o) Gone) rows_made)
      (put_over (codes "archived") (item_text (items.Archive o.archive)) (item_text (items.Archive (archive_with o.archive Gone))) (map note_row o.notes ++ entries rs After))

pub archives_kept : ArchivesAreKept
unfolding kept_whole
archives_kept o until rs T sound ids =
    changes_kept (archive_changes o.archive (due_in until T)) (other_entries o ++ entries rs T) (other_entries (others_with o (due_in until T)) ++ entries rs (archive_items until T ++ T))
    (whole_made o until rs T sound ids)
