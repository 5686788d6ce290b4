-- What is kept in sections, and a change in one of them.
use Rattle.std.proofs.Common.{◌≡◌, ℕ, List, [], ◌∷◌, ◌++◌, map, filter, None, refl, ap, ◌∙◌}
use Rattle.ow_entity.specs.declared.rows.Row.{Row}
use Rattle.ow_traits.specs.Rows.{text_of}
use Rattle.ow_traits.specs.declared.change_list.Change.TheVariants.{Drop as Dropped}
use Rattle.ow_floor.specs.Trace.{Trace, shown_records, drawn}
use Rattle.ow_row_text.specs.declared.item.Item.{Item}
use Rattle.ow_row_text.specs.declared.item.Item.TheVariants as items
use Rattle.ow_row_text.specs.declared.item.RowsVersion.TheVariants as versions
use Rattle.ow_row_text.specs.Item.{done_key, item_key, item_row, open_key}
use Rattle.ow_row_text.specs.Sorted.{Entries, Makes}
use Rattle.ow_row_text.proofs.Lists.{absent_kind, drop_after, drop_before, put_after, put_before}
use Rattle.ow_row_text.proofs.Parts.{or_text, text_of-append}
use Rattle.ow_commits.specs.Commits.{put_of}
use Rattle.ow_commits.specs.Kept.{count_item, entries, is_kept, unrecorded}
use Rattle.ow_records.specs.declared.ids.Id.{Id}
use Rattle.ow_records.specs.declared.record.Record.{Record}
use Rattle.ow_records.specs.declared.unrecorded.Unrecorded.{Unrecorded}

abbrev pub count_of : Id → List ℕ × List ℕ
count_of id = item_row (count_item id)

abbrev pub row_of : Row → List ℕ × List ℕ
row_of r = item_row (items.Row r)

abbrev pub open_of : Unrecorded → List ℕ × List ℕ
open_of u = item_row (items.Open u)

abbrev pub done_of : Record → List ℕ × List ℕ
done_of r = item_row (items.Done r)

abbrev pub version : Entries
version = item_row (items.Version versions.Second) ∷ []

-- the rows of all kinds, one kind after another
abbrev pub sections : List Id → List Row → List Unrecorded → List Record → Entries
sections ids rs us ds = version ++ (map count_of ids ++ (map row_of rs ++ (map open_of us ++ map done_of ds)))

pub mapped : {X : Type 0} (f : X → Item) (xs : List X) (rest : List Item) → map item_row (map f xs ++ rest) ≡ map (λ x. item_row (f x)) xs ++ map item_row rest
mapped f [] rest = refl
mapped f (x ∷ xs) rest = ap (λ es. item_row (f x) ∷ es) (mapped f xs rest)

mapped_end : {X : Type 0} (f : X → Item) (xs : List X) → map item_row (map f xs) ≡ map (λ x. item_row (f x)) xs
mapped_end f [] = refl
mapped_end f (x ∷ xs) = ap (λ es. item_row (f x) ∷ es) (mapped_end f xs)

pub in_sections : (ids : List Id) (rs : List Row) (us : List Unrecorded) (ds : List Record)
    → map item_row (map count_item ids ++ (map items.Row rs ++ (map items.Open us ++ map items.Done ds))) ≡ map count_of ids ++ (map row_of rs ++ (map open_of us ++ map done_of ds))
in_sections ids rs us ds =
    mapped count_item ids (map items.Row rs ++ (map items.Open us ++ map items.Done ds))
    ∙ ap (λ es. map count_of ids ++ es) (mapped items.Row rs (map items.Open us ++ map items.Done ds)
    ∙ ap (λ es. map row_of rs ++ es) (mapped items.Open us (map items.Done ds)
    ∙ ap (λ es. map open_of us ++ es) (mapped_end items.Done ds)))

pub entries_are : (rs : List Row) (T : Trace) → entries rs T ≡ sections (drawn T) (filter is_kept rs) (unrecorded T) (shown_records T)
entries_are rs T = ap (λ es. version ++ es) (in_sections (drawn T) (filter is_kept rs) (unrecorded T) (shown_records T))

-- ---- keys of other kinds

pub both : (key : List ℕ) (a b : Entries) → text_of key a ≡ None → text_of key b ≡ None → text_of key (a ++ b) ≡ None
both key a b ha hb = text_of-append key a b ∙ (λ i. or_text (ha i) (hb i))

pub id_no_count : (id : Id) (ids : List Id) → text_of (open_key id) (map count_of ids) ≡ None
id_no_count id ids = absent_kind count_of (open_key id) ids (λ x. refl)

pub id_no_row : (id : Id) (rs : List Row) → text_of (open_key id) (map row_of rs) ≡ None
id_no_row id rs = absent_kind row_of (open_key id) rs (λ x. refl)

pub id_no_done : (id : Id) (ds : List Record) → text_of (open_key id) (map done_of ds) ≡ None
id_no_done id ds = absent_kind done_of (open_key id) ds (λ x. refl)

pub done_no_count : (id : Id) (ids : List Id) → text_of (done_key id) (map count_of ids) ≡ None
done_no_count id ids = absent_kind count_of (done_key id) ids (λ x. refl)

pub done_no_row : (id : Id) (rs : List Row) → text_of (done_key id) (map row_of rs) ≡ None
done_no_row id rs = absent_kind row_of (done_key id) rs (λ x. refl)

pub done_no_open : (id : Id) (us : List Unrecorded) → text_of (done_key id) (map open_of us) ≡ None
done_no_open id us = absent_kind open_of (done_key id) us (λ x. refl)

pub row_no_version : (r : Row) → text_of (item_key (items.Row r)) version ≡ None
row_no_version r = refl

pub row_no_count : (r : Row) (ids : List Id) → text_of (item_key (items.Row r)) (map count_of ids) ≡ None
row_no_count r ids = absent_kind count_of (item_key (items.Row r)) ids (λ x. refl)

pub row_no_open : (r : Row) (us : List Unrecorded) → text_of (item_key (items.Row r)) (map open_of us) ≡ None
row_no_open r us = absent_kind open_of (item_key (items.Row r)) us (λ x. refl)

pub row_no_done : (r : Row) (ds : List Record) → text_of (item_key (items.Row r)) (map done_of ds) ≡ None
row_no_done r ds = absent_kind done_of (item_key (items.Row r)) ds (λ x. refl)

-- ---- a change in a section

pub count_put : (id : Id) (old new : List Id) (rs : List Row) (us : List Unrecorded) (ds : List Record) → Makes (put_of (count_item id) ∷ []) (map count_of old) (map count_of new)
    → Makes (put_of (count_item id) ∷ []) (sections old rs us ds) (sections new rs us ds)
count_put id old new rs us ds h = put_after _ _ version _ _ refl (put_before _ _ (map count_of old) (map count_of new) (map row_of rs ++ (map open_of us ++ map done_of ds)) h)

pub row_put : (r : Row) (ids : List Id) (old new : List Row) (us : List Unrecorded) (ds : List Record) → Makes (put_of (items.Row r) ∷ []) (map row_of old) (map row_of new)
    → Makes (put_of (items.Row r) ∷ []) (sections ids old us ds) (sections ids new us ds)
row_put r ids old new us ds h =
    put_after _ _ version _ _ (row_no_version r)
    (put_after _ _ (map count_of ids) _ _ (row_no_count r ids)
    (put_before _ _ (map row_of old) (map row_of new) (map open_of us ++ map done_of ds) h))

pub row_dropped : (r : Row) (ids : List Id) (old new : List Row) (us : List Unrecorded) (ds : List Record) → Makes (Dropped (item_key (items.Row r)) ∷ []) (map row_of old) (map row_of new)
    → Makes (Dropped (item_key (items.Row r)) ∷ []) (sections ids old us ds) (sections ids new us ds)
row_dropped r ids old new us ds h =
    drop_after _ version _ _ (row_no_version r)
    (drop_after _ (map count_of ids) _ _ (row_no_count r ids)
    (drop_before _ (map row_of old) (map row_of new) (map open_of us ++ map done_of ds)
    (both (item_key (items.Row r)) (map open_of us) (map done_of ds) (row_no_open r us) (row_no_done r ds)) h))

pub open_put : (u : Unrecorded) (ids : List Id) (rs : List Row) (old new : List Unrecorded) (ds : List Record) → Makes (put_of (items.Open u) ∷ []) (map open_of old) (map open_of new)
    → Makes (put_of (items.Open u) ∷ []) (sections ids rs old ds) (sections ids rs new ds)
open_put u ids rs old new ds h =
    put_after _ _ version _ _ refl
    (put_after _ _ (map count_of ids) _ _ (id_no_count u.id ids)
    (put_after _ _ (map row_of rs) _ _ (id_no_row u.id rs)
    (put_before _ _ (map open_of old) (map open_of new) (map done_of ds) h)))

pub open_dropped : (id : Id) (ids : List Id) (rs : List Row) (old new : List Unrecorded) (ds : List Record) → Makes (Dropped (open_key id) ∷ []) (map open_of old) (map open_of new)
    → Makes (Dropped (open_key id) ∷ []) (sections ids rs old ds) (sections ids rs new ds)
open_dropped id ids rs old new ds h =
    drop_after _ version _ _ refl
    (drop_after _ (map count_of ids) _ _ (id_no_count id ids)
    (drop_after _ (map row_of rs) _ _ (id_no_row id rs)
    (drop_before _ (map open_of old) (map open_of new) (map done_of ds) (id_no_done id ds) h)))

pub done_put : (r : Record) (ids : List Id) (rs : List Row) (us : List Unrecorded) (old new : List Record) → Makes (put_of (items.Done r) ∷ []) (map done_of old) (map done_of new)
    → Makes (put_of (items.Done r) ∷ []) (sections ids rs us old) (sections ids rs us new)
done_put r ids rs us old new h =
    put_after _ _ version _ _ refl
    (put_after _ _ (map count_of ids) _ _ (done_no_count r.id ids)
    (put_after _ _ (map row_of rs) _ _ (done_no_row r.id rs)
    (put_after _ _ (map open_of us) _ _ (done_no_open r.id us) h)))
