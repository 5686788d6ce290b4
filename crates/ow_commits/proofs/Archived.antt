-- Once an archive is kept, what is known of the kept rows is true of what is kept after it.
use Rattle.std.proofs.Common.{◌≡◌, ◌+◌, ◌≤◌, ◌++◌, ◌∷◌, ℕ, Bool, true, false, cond, codes, fold, List, [], filter, map, not, is_lt, refl, ap, ◌∙◌, arith, append_assoc}
use Rattle.std.specs.List.{AllByRecursion}
use Rattle.ow_value.specs.Value.{text_cmp}
use Rattle.ow_entity.specs.declared.rows.Row.{Row}
use Rattle.ow_traits.specs.declared.change_list.Change.{Change}
use Rattle.ow_floor.specs.Calls.{archive_items, due_in}
use Rattle.ow_floor.specs.Laws.{IsSound, record_ids, times}
use Rattle.ow_floor.specs.Trace.{Archived, Trace, drawn, latest, shown_records}
use Rattle.ow_floor.proofs.Alters.{same_id_refl}
use Rattle.ow_floor.proofs.Archives.{shown_or_archived}
use Rattle.ow_row_text.specs.Bytes.{bytes_of, weight, weight_at}
use Rattle.ow_row_text.specs.Item.{done_key, item_text}
use Rattle.ow_row_text.specs.Sorted.{rows_of}
use Rattle.ow_row_text.specs.declared.item.Archive.{Archive}
use Rattle.ow_row_text.specs.declared.item.Item.TheVariants as items
use Rattle.ow_row_text.proofs.Lists.{absent, absent_kind, put_first, put_front}
use Rattle.ow_commits.specs.Archiving.{archive_changes, archive_with, others_with, retire_of}
use Rattle.ow_commits.specs.Commits.{put_of}
use Rattle.ow_commits.specs.Keeping.{AreIds, FollowingView, StandsFollowing, done_bytes, row_bytes}
use Rattle.ow_commits.specs.Kept.{OthersView, entries, is_kept, kept, note_row, other_entries, others_bytes, unrecorded}
use Rattle.ow_commits.specs.declared.open_bytes.OpenBytes.{OpenBytes}
use Rattle.ow_commits.proofs.Ending.{last_one}
use Rattle.ow_commits.proofs.Ids.{lacks_done, nowhere}
use Rattle.ow_commits.proofs.Knowing.{picked}
use Rattle.ow_commits.proofs.Picking.{AreApartBy}
use Rattle.ow_commits.proofs.Sections.{done_of, done_put, entries_are, sections}
use Rattle.ow_commits.proofs.Weights.{done_text, put_bytes}
use Rattle.ow_records.specs.Id.{same_id}
use Rattle.ow_records.specs.Known.{IsId}
use Rattle.ow_records.specs.Records.{id_key, is_due, is_retained, put_by}
use Rattle.ow_records.specs.declared.ids.Id.{Id}
use Rattle.ow_records.specs.declared.record.Record.{Record}
use Rattle.ow_records.specs.declared.unrecorded.Unrecorded.{Unrecorded}

-- ---- bytes of records

put_done : (r : Record) (xs : List Record) → done_bytes (put_by id_key r xs) ≡ row_bytes (items.Done r) + done_bytes xs
put_done r [] = refl
put_done r (x ∷ xs) = at (is_lt (text_cmp (id_key r) (id_key x))) (put_done r xs)
  where
    at : (b : Bool) → done_bytes (put_by id_key r xs) ≡ row_bytes (items.Done r) + done_bytes xs → done_bytes (cond b (r ∷ x ∷ xs) (x ∷ put_by id_key r xs)) ≡ row_bytes (items.Done r) + (row_bytes (items.Done x) + done_bytes xs)
    at true rest = refl
    at false rest = omega (arith, rest)

-- their order doesn't matter
sorted_done : (rs xs : List Record) → done_bytes (fold (λ ys r. put_by id_key r ys) xs rs) ≡ done_bytes xs + done_bytes rs
sorted_done [] xs = omega arith
sorted_done (r ∷ rs) xs =
    let rest = sorted_done rs (put_by id_key r xs) in
    let one = put_done r xs in
    omega (arith, rest, one)

-- each is due or retained
parted_done : (until : ℕ) (rs : List Record) → done_bytes (filter (is_retained until) rs) + done_bytes (filter (is_due until) rs) ≡ done_bytes rs
parted_done until [] = refl
parted_done until (r ∷ rs) = at (is_due until r) (parted_done until rs)
  where
    at : (b : Bool) → done_bytes (filter (is_retained until) rs) + done_bytes (filter (is_due until) rs) ≡ done_bytes rs
        → done_bytes (cond (not b) (r ∷ filter (is_retained until) rs) (filter (is_retained until) rs)) + done_bytes (cond b (r ∷ filter (is_due until) rs) (filter (is_due until) rs)) ≡ row_bytes (items.Done r) + done_bytes rs
    at true rest = omega (arith, rest)
    at false rest = omega (arith, rest)

due_done : (until : ℕ) (T : Trace) → done_bytes (filter (is_retained until) (shown_records T)) + done_bytes (due_in until T) ≡ done_bytes (shown_records T)
due_done until T =
    let sorted = sorted_done (filter (is_due until) (shown_records T)) [] in
    let parted = parted_done until (shown_records T) in
    omega (arith, sorted, parted)

-- ---- no two records have one key

dones_apart : (ds : List Record) → ((id : Id) → times id (record_ids ds) ≤ 1) → AllByRecursion (λ r. IsId r.id) ds → AreApartBy done_of ds
dones_apart [] once ids = tt
dones_apart (d ∷ ds) once ids =
    let none : times d.id (record_ids ds) ≡ 0 = last_one (same_id d.id d.id) (times d.id (record_ids ds)) (same_id_refl d.id) (once d.id) in
    (lacks_done d.id ds ids.0 ids.1 (nowhere (λ (r : Record). r.id) d.id ds none), dones_apart ds (λ id. let most : cond (same_id id d.id) 1 0 + times id (record_ids ds) ≤ 1 = once id in omega (arith, most)) ids.1)

pub shown_apart : (T : Trace) → IsSound T → AreIds T → AreApartBy done_of (shown_records T)
shown_apart T sound ids =
    let known = shown_or_archived T sound in
    dones_apart (shown_records T) (λ id. let most = known.once id in let parts = known.parts id in omega (arith, most, parts)) ids.ended

apart_left : (p : Record → Bool) (ds : List Record) → AreApartBy done_of ds → AreApartBy done_of (filter p ds)
apart_left p [] h = tt
apart_left p (d ∷ ds) h = at (p d) (apart_left p ds h.1)
  where
    at : (b : Bool) → AreApartBy done_of (filter p ds) → AreApartBy done_of (cond b (d ∷ filter p ds) (filter p ds))
    at true rest = (picked _ p ds h.0, rest)
    at false rest = rest

module _ (ids : List Id) (rs : List Row) (us : List Unrecorded) where
  dones_weigh : (ds : List Record) → AreApartBy done_of ds → bytes_of (rows_of (sections ids rs us ds)) ≡ bytes_of (rows_of (sections ids rs us [])) + done_bytes ds
  dones_weigh [] h = omega arith
  dones_weigh (d ∷ ds) h =
      let one = put_bytes (done_key d.id) (item_text (items.Done d)) (sections ids rs us ds) (sections ids rs us (d ∷ ds)) (done_put d ids rs us ds (d ∷ ds) (put_front done_of d ds)) in
      let none : weight_at (done_key d.id) (sections ids rs us ds) ≡ 0 = ap (weight (done_key d.id)) (done_text ids rs us ds d.id ∙ absent done_of (done_key d.id) ds h.0) in
      let rest = dones_weigh ds h.1 in
      omega (arith, one, none, rest)

-- ---- the rows after an archive

open_archived : (until at : ℕ) (T : Trace) → unrecorded (Archived until at ∷ T) ≡ unrecorded T
open_archived until at T = refl

archived_weighs : (until at : ℕ) (rs : List Row) (T : Trace) → IsSound T → AreIds T → bytes_of (kept rs (Archived until at ∷ T)) + done_bytes (due_in until T) ≡ bytes_of (kept rs T)
unfolding kept
archived_weighs until at rs T sound ids =
    let F : List Row = filter is_kept rs in
    let left : List Record = filter (is_retained until) (shown_records T) in
    let apart = shown_apart T sound ids in
    let one = dones_weigh (drawn T) F (unrecorded T) (shown_records T) apart in
    let two = dones_weigh (drawn T) F (unrecorded T) left (apart_left (is_retained until) (shown_records T) apart) in
    let before : bytes_of (rows_of (entries rs T)) ≡ bytes_of (rows_of (sections (drawn T) F (unrecorded T) (shown_records T))) = ap (λ es. bytes_of (rows_of es)) (entries_are rs T) in
    let after : bytes_of (rows_of (entries rs (Archived until at ∷ T))) ≡ bytes_of (rows_of (sections (drawn T) F (unrecorded T) left)) = ap (λ es. bytes_of (rows_of es)) (entries_are rs (Archived until at ∷ T)) in
    let due = due_done until T in
    omega (arith, one, two, before, after, due)

archived_ids : (until at : ℕ) (T : Trace) → AreIds T → AreIds (Archived until at ∷ T)
archived_ids until at T ids = record { drawn = ids.drawn; opened = ids.opened; ended = picked _ (is_retained until) (shown_records T) ids.ended }

-- ---- the row of the archive

pub others_part : (o : OthersView) → others_bytes o ≡ bytes_of (rows_of (map note_row o.notes)) + row_bytes (items.Archive o.archive)
unfolding others_bytes
others_part o =
    let one = put_bytes (codes "archived") (item_text (items.Archive o.archive)) (map note_row o.notes) (other_entries o) (put_first (codes "archived") (item_text (items.Archive o.archive)) (map note_row o.notes)) in
    let none : weight_at (codes "archived") (map note_row o.notes) ≡ 0 = ap (weight (codes "archived")) (absent_kind note_row (codes "archived") o.notes (λ n. refl)) in
    omega (arith, one, none)

-- ---- the call

pub record IsArchiving (v : FollowingView) (a : Archive) (due : List Record) (c : FollowingView) : Type 0 where
  pub changes : c.changes ≡ v.changes ++ archive_changes a due
  pub stands : (o : OthersView) (rs : List Row) (T : Trace) (until : ℕ) → StandsFollowing v o rs T → IsSound T → o.archive ≡ a → due ≡ due_in until T → StandsFollowing c (others_with o due) rs (archive_items until T ++ T)

pub archiving_done : (v : FollowingView) (a : Archive) (due : List Record) (c : FollowingView) (cs0 cs1 cs2 : List Change) (n0 n1 n2 : ℕ) (os : List OpenBytes) → cs0 ≡ v.changes → n0 ≡ v.bytes → os ≡ v.opens
    → cs1 ≡ cs0 ++ map retire_of due → n1 + done_bytes due ≡ n0
    → cs2 ≡ cs1 ++ put_of (items.Archive (archive_with a due)) ∷ [] → n2 + row_bytes (items.Archive a) ≡ n1 + row_bytes (items.Archive (archive_with a due))
    → c ≡ record { changes = cs2; bytes = n2; opens = os } → IsArchiving v a due c
archiving_done v a due c cs0 cs1 cs2 n0 n1 n2 os start first copied retired less counted more is =
    let is_bytes : c.bytes ≡ n2 = ap (λ (x : FollowingView). x.bytes) is in
    record {
      changes = ap (λ (x : FollowingView). x.changes) is
          ∙ (counted ∙ ap (λ (cs : List Change). cs ++ put_of (items.Archive (archive_with a due)) ∷ []) (retired ∙ ap (λ (cs : List Change). cs ++ map retire_of due) start)
          ∙ append_assoc v.changes (map retire_of due) (put_of (items.Archive (archive_with a due)) ∷ []));
      stands = λ o rs T until stands sound same is_due.
          let now : v.bytes ≡ others_bytes o + bytes_of (kept rs T) = stands.bytes in
          let old = others_part o in
          let new = others_part (others_with o due) in
          let old_row : row_bytes (items.Archive o.archive) ≡ row_bytes (items.Archive a) = ap (λ (x : Archive). row_bytes (items.Archive x)) same in
          let new_row : row_bytes (items.Archive (archive_with o.archive due)) ≡ row_bytes (items.Archive (archive_with a due)) = ap (λ (x : Archive). row_bytes (items.Archive (archive_with x due))) same in
          let gone : done_bytes due ≡ done_bytes (due_in until T) = ap done_bytes is_due in
          let rows = archived_weighs until (latest T) rs T sound stands.ids in
          record {
            bytes = omega (arith, now, old, new, old_row, new_row, gone, rows, is_bytes, first, less, more);
            opens = ap (λ (x : FollowingView). x.opens) is ∙ (copied ∙ stands.opens);
            ids = archived_ids until (latest T) T stands.ids;
          };
    }
