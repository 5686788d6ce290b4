-- What an opening commits makes what is kept of what it takes over, and a floor may take that over.
use Rattle.std.proofs.Common.{◌≡◌, ◌+◌, ◌&&◌, ℕ, List, [], ◌∷◌, ◌++◌, Bool, true, false, codes, filter, map, not, is_some, Option, Some, None, refl, sym, ap, ◌∙◌, subst, arith, append-nil}
use Rattle.std.specs.List.{AllByRecursion, flat_map}
use Rattle.ow_entity.specs.declared.rows.Row.{Row as EntityRow}
use Rattle.ow_traits.specs.Rows.{AreRows, text_of}
use Rattle.ow_traits.specs.Changes.{changed}
use Rattle.ow_traits.specs.declared.change_list.Change.{Change}
use Rattle.ow_traits.specs.declared.prewarms.Prewarm.{Prewarm}
use Rattle.ow_floor.specs.Trace.{Trace}
use Rattle.ow_row_text.specs.Item.{done_key, item_key, item_row, item_text, open_key}
use Rattle.ow_row_text.specs.Sorted.{AreOtherKeys, Entries, Makes, rows_of}
use Rattle.ow_row_text.specs.declared.item.Archive.{Archive as KeptArchive}
use Rattle.ow_row_text.specs.declared.item.Item.{Item}
use Rattle.ow_row_text.specs.declared.item.Item.TheVariants.{Version, Archive, Count, Note, Row, Open, Done}
use Rattle.ow_row_text.specs.declared.item.RowsVersion.{RowsVersion}
use Rattle.ow_row_text.specs.declared.item.RowsVersion.TheVariants as versions
use Rattle.ow_row_text.proofs.Extent.{changes_kept}
use Rattle.ow_row_text.proofs.Lists.{absent_kind, makes_then, put_after, put_first, put_over}
use Rattle.ow_row_text.proofs.Others.{others_made}
use Rattle.ow_row_text.proofs.Parts.{or_text, text_of-append}
use Rattle.ow_keep.specs.Allowed.{is_drawn}
use Rattle.ow_keep.specs.Kept.{MayStand}
use Rattle.ow_keep.specs.Split.{HoldsItems, Parts, archive_entries, entries as entries_of, main_entries, note_row, split, version_entries}
use Rattle.ow_keep.proofs.Splits.{split_kept}
use Rattle.ow_commits.specs.Commits.{end_changes, put_of}
use Rattle.ow_commits.specs.Kept.{OthersView, entries, is_kept, kept, kept_whole, other_entries, others_bytes}
use Rattle.ow_commits.specs.Opening.{AreNotBuiltin, OpeningsAreKept, abandoned, opened_trace, opening_changes, opens_bytes, others_of, resumed_records}
use Rattle.ow_commits.specs.Keeping.{done_bytes, row_bytes}
use Rattle.ow_commits.proofs.Weights.{put_bytes}
use Rattle.ow_row_text.specs.Bytes.{bytes_of, weight, weight_at}
use Rattle.ow_row_text.proofs.Bytes.{weight_at-rows_of}
use Rattle.ow_commits.proofs.Picking.{AreApartBy, apart_picked, each_picked, is_done, is_entity, is_open, lacks_picked, dones_picked, opens_picked, pick_done, pick_open, pick_row, picked, rows_picked}
use Rattle.ow_commits.proofs.Sections.{count_of, done_of, entries_are, open_of, row_of, sections, version}
use Rattle.ow_commits.proofs.Taking.{HaveNoRecord, all_abandoned, all_weigh, resumed_text, rows_last}
use Rattle.ow_commits.proofs.Whole.{no_other, others_weigh}
use Rattle.ow_records.specs.declared.record.Record.{Record}
use Rattle.ow_records.specs.declared.unrecorded.Unrecorded.{Unrecorded}
use Rattle.ow_tables.specs.Builtin.{builtin}
use Rattle.ow_tables.specs.Rows.{resumed}

-- ---- what is apart

pub open_apart : (is : List Item) → AreRows (map item_row is) → AreApartBy open_of (split is).unrecorded
open_apart is h = subst (λ (us : List Unrecorded). AreApartBy open_of us) (sym (opens_picked is)) (apart_picked pick_open open_of is_open is h)

row_apart : (is : List Item) → AreRows (map item_row is) → AreApartBy row_of (split is).entities
row_apart is h = subst (λ (rs : List EntityRow). AreApartBy row_of rs) (sym (rows_picked is)) (apart_picked pick_row row_of is_entity is h)

none_if : (a b : Bool) (o : Option (List ℕ)) → (a && not (is_some o)) && b ≡ true → o ≡ None
none_if true b None e = refl
none_if false b None e = refl
none_if true b (Some t) e = cc
none_if false b (Some t) e = cc

no_record : (all : Entries) (i : Item) (u : Unrecorded) → pick_open i ≡ Some u → MayStand all i → text_of (done_key u.id) all ≡ None
no_record all (Open v) u e h =
    let is : v ≡ u = cc in
    subst (λ (x : Unrecorded). text_of (done_key x.id) all ≡ None) is (none_if (is_drawn all v.id) _ (text_of (done_key v.id) all) h.allowed)
no_record all (Version v) u e h = cc
no_record all (Archive a) u e h = cc
no_record all (Note n) u e h = cc
no_record all (Count n c) u e h = cc
no_record all (Row r) u e h = cc
no_record all (Done r) u e h = cc

have_none : (is : List Item) (us : List Unrecorded) → AllByRecursion (λ u. text_of (done_key u.id) (map item_row is) ≡ None) us → HaveNoRecord us (picked pick_done is)
have_none is [] h = tt
have_none is (u ∷ us) h = (lacks_picked pick_done done_of is_done (done_key u.id) is h.0, have_none is us h.1)

pub none_recorded : (is : List Item) → AllByRecursion (MayStand (map item_row is)) is → HaveNoRecord (split is).unrecorded (split is).records
none_recorded is h =
    subst (λ (us : List Unrecorded). HaveNoRecord us (split is).records) (sym (opens_picked is))
    (subst (λ (ds : List Record). HaveNoRecord (picked pick_open is) ds) (sym (dones_picked is))
    (have_none is (picked pick_open is) (each_picked pick_open (MayStand (map item_row is)) (λ u. text_of (done_key u.id) (map item_row is) ≡ None) (no_record (map item_row is)) is h)))

all_kept : (rs : List EntityRow) → AreNotBuiltin rs → AllByRecursion (λ r. is_kept r ≡ true) rs
all_kept [] h = tt
all_kept (r ∷ rs) h = (ap not h.0, all_kept rs h.1)

-- ---- what is made of the rows

made_alike : (cs : List Change) (a b c : Entries) → Makes cs a b → ((q : List ℕ) → text_of q c ≡ text_of q b) → Makes cs a c
made_alike cs a b c h same = record { each = λ q. same q ∙ h.each q }

abbrev put_version : Change
put_version = put_of (Version versions.Second)

version_put : (o : Option RowsVersion) (rest : Entries) → Makes (put_version ∷ []) (version_entries o ++ rest) (version ++ rest)
version_put None rest = put_first (item_key (Version versions.Second)) (item_text (Version versions.Second)) rest
version_put (Some v) rest = put_over (item_key (Version versions.Second)) (item_text (Version v)) (item_text (Version versions.Second)) rest

archive_put : (a : KeptArchive) (o : Option KeptArchive) (rest : Entries) → Makes (put_of (Archive a) ∷ []) (archive_entries o ++ rest) (item_row (Archive a) ∷ rest)
archive_put a None rest = put_first (item_key (Archive a)) (item_text (Archive a)) rest
archive_put a (Some b) rest = put_over (item_key (Archive a)) (item_text (Archive b)) (item_text (Archive a)) rest

-- the key of the version is not that of the archive
not_archived : (o : Option KeptArchive) → text_of (item_key (Version versions.Second)) (archive_entries o) ≡ None
not_archived None = refl
not_archived (Some a) = refl

-- ends change neither the archive nor a note
ends_apart : (o : OthersView) (ds : List Record) → AreOtherKeys (other_entries o) (flat_map end_changes ds)
ends_apart o [] = tt
ends_apart o (d ∷ ds) = (no_other (open_key d.id) o refl (λ n. refl), (no_other (done_key d.id) o refl (λ n. refl), ends_apart o ds))

behind_same : (q : List ℕ) (a b c : Entries) → text_of q b ≡ text_of q c → text_of q (a ++ b) ≡ text_of q (a ++ c)
behind_same q a b c e = text_of-append q a b ∙ ap (or_text (text_of q a)) e ∙ sym (text_of-append q a c)

module _ (p : Parts) (at pool : ℕ) (wants : List Prewarm) (opens : AreApartBy open_of p.unrecorded) (rows : AreApartBy row_of p.entities) (new : HaveNoRecord p.unrecorded p.records) (free : AreNotBuiltin p.entities) where
  abbrev T : Trace
  T = opened_trace at p pool wants

  abbrev E1 : Entries
  E1 = sections p.counts p.entities p.unrecorded p.records

  abbrev E2 : Entries
  E2 = sections p.counts p.entities [] (resumed_records at p.unrecorded p.records)

  abbrev E3 : Entries
  E3 = sections p.counts (filter is_kept (resumed p.entities builtin)) [] (resumed_records at p.unrecorded p.records ++ [])

  first_same : (q : List ℕ) → text_of q E1 ≡ text_of q (version ++ (map count_of p.counts ++ (map open_of p.unrecorded ++ (map done_of p.records ++ map row_of p.entities))))
  first_same q =
      behind_same q version _ _
      (behind_same q (map count_of p.counts) _ _ (sym (rows_last q p.entities p.unrecorded p.records)))

  rows_same : (q : List ℕ) → text_of q (map row_of (filter is_kept (resumed p.entities builtin))) ≡ text_of q (map row_of p.entities)
  rows_same q = resumed_text q p.entities builtin rows (all_kept p.entities free) ∙ or_nothing (text_of q (map row_of p.entities))
    where
      or_nothing : (o : Option (List ℕ)) → or_text o None ≡ o
      or_nothing None = refl
      or_nothing (Some t) = refl

  last_same : (q : List ℕ) → text_of q E3 ≡ text_of q E2
  last_same q =
      behind_same q version _ _ (behind_same q (map count_of p.counts) _ _
      (text_of-append q (map row_of (filter is_kept (resumed p.entities builtin))) (map done_of (resumed_records at p.unrecorded p.records ++ []))
      ∙ ap (λ o. or_text o (text_of q (map done_of (resumed_records at p.unrecorded p.records ++ [])))) (rows_same q)
      ∙ ap (λ ds. or_text (text_of q (map row_of p.entities)) (text_of q (map done_of ds))) (append-nil (resumed_records at p.unrecorded p.records))
      ∙ sym (text_of-append q (map row_of p.entities) (map done_of (resumed_records at p.unrecorded p.records)))))

  -- without the archive and the notes
  main_put : Makes (put_version ∷ []) (main_entries p) E1
  main_put = made_alike (put_version ∷ []) (main_entries p) _ E1 (version_put p.version (map count_of p.counts ++ (map open_of p.unrecorded ++ (map done_of p.records ++ map row_of p.entities)))) first_same

  ends_made : Makes (flat_map end_changes (abandoned at p.unrecorded)) E1 (entries (resumed p.entities builtin) T)
  ends_made =
      subst (λ (es : Entries). Makes (flat_map end_changes (abandoned at p.unrecorded)) E1 es) (sym (entries_are (resumed p.entities builtin) T))
      (made_alike (flat_map end_changes (abandoned at p.unrecorded)) E1 E2 E3 (all_abandoned p.counts p.entities at p.unrecorded p.records opens new) last_same)

  -- with them
  abbrev O : OthersView
  O = others_of p

  abbrev W1 : Entries
  W1 = archive_entries p.archive ++ (map note_row p.notes ++ E1)

  abbrev W2 : Entries
  W2 = other_entries O ++ E1

  abbrev W3 : Entries
  W3 = other_entries O ++ entries (resumed p.entities builtin) T

  whole_put : Makes (put_version ∷ []) (entries_of p) W1
  whole_put =
      put_after _ _ (archive_entries p.archive) _ _ (not_archived p.archive)
      (put_after _ _ (map note_row p.notes) _ _ (absent_kind note_row (item_key (Version versions.Second)) p.notes (λ n. refl)) main_put)

  others_put : Makes (put_of (Archive O.archive) ∷ []) W1 W2
  others_put = archive_put O.archive p.archive (map note_row p.notes ++ E1)

  whole_ends : Makes (flat_map end_changes (abandoned at p.unrecorded)) W2 W3
  whole_ends = others_made (flat_map end_changes (abandoned at p.unrecorded)) (other_entries O) E1 (entries (resumed p.entities builtin) T) (ends_apart O (abandoned at p.unrecorded)) ends_made

  pub opening_made : Makes (opening_changes at p) (entries_of p) W3
  opening_made =
      makes_then (put_version ∷ []) (put_of (Archive O.archive) ∷ flat_map end_changes (abandoned at p.unrecorded)) (entries_of p) W1 W3 whole_put
      (makes_then (put_of (Archive O.archive) ∷ []) (flat_map end_changes (abandoned at p.unrecorded)) W1 W2 W3 others_put whole_ends)

  pub opening_kept : changed (opening_changes at p) (rows_of (entries_of p)) ≡ kept_whole O (resumed p.entities builtin) T
  unfolding kept_whole
  opening_kept = changes_kept (opening_changes at p) (entries_of p) W3 opening_made

  -- how many bytes there are then
  archive_there : weight_at (item_key (Archive O.archive)) W1 ≡ weight_at (item_key (Archive O.archive)) (entries_of p)
  archive_there = ap (weight (item_key (Archive O.archive))) (whole_put.each (item_key (Archive O.archive)))

  pub opening_weighs : (others_bytes O + bytes_of (kept (resumed p.entities builtin) T))
      + (weight_at (codes "version") (rows_of (entries_of p)) + (weight_at (codes "archived") (rows_of (entries_of p)) + opens_bytes p.unrecorded))
      ≡ bytes_of (rows_of (entries_of p)) + (row_bytes (Version versions.Second) + (row_bytes (Archive O.archive) + done_bytes (abandoned at p.unrecorded)))
  unfolding kept
  opening_weighs =
      let one = put_bytes (item_key (Version versions.Second)) (item_text (Version versions.Second)) (entries_of p) W1 whole_put in
      let two = put_bytes (item_key (Archive O.archive)) (item_text (Archive O.archive)) W1 W2 others_put in
      let three = all_weigh p.counts p.entities at p.unrecorded p.records opens new in
      let beside = others_weigh O p.counts p.entities p.unrecorded p.records in
      let first_there : weight_at (codes "version") (rows_of (entries_of p)) ≡ weight_at (codes "version") (entries_of p) = weight_at-rows_of (codes "version") (entries_of p) in
      let second_there : weight_at (codes "archived") (rows_of (entries_of p)) ≡ weight_at (codes "archived") (entries_of p) = weight_at-rows_of (codes "archived") (entries_of p) in
      let last : bytes_of (rows_of E2) ≡ bytes_of (rows_of E3) = ap bytes_of (changes_kept [] E2 E3 (record { each = last_same })) in
      let whole : bytes_of (rows_of (entries (resumed p.entities builtin) T)) ≡ bytes_of (rows_of E3) = ap (λ es. bytes_of (rows_of es)) (entries_are (resumed p.entities builtin) T) in
      omega (arith, one, two, three, beside, first_there, second_there, archive_there, last, whole)

split_opening : (is : List Item) (at pool : ℕ) (wants : List Prewarm) → AreRows (map item_row is) → AllByRecursion (MayStand (map item_row is)) is → AreNotBuiltin (split is).entities
    → changed (opening_changes at (split is)) (map item_row is) ≡ kept_whole (others_of (split is)) (resumed (split is).entities builtin) (opened_trace at (split is) pool wants)
split_opening is at pool wants sorted each free =
    ap (changed (opening_changes at (split is))) (sym (split_kept is sorted))
    ∙ opening_kept (split is) at pool wants (open_apart is sorted) (row_apart is sorted) (none_recorded is each) free

of_parts : (is : List Item) (all : Entries) (p : Parts) (at pool : ℕ) (wants : List Prewarm) → all ≡ map item_row is → p ≡ split is → AreRows all → AllByRecursion (MayStand all) is → AreNotBuiltin p.entities
    → changed (opening_changes at p) all ≡ kept_whole (others_of p) (resumed p.entities builtin) (opened_trace at p pool wants)
of_parts is all p at pool wants rows parts sorted each free =
    subst (λ (q : Parts). changed (opening_changes at q) all ≡ kept_whole (others_of q) (resumed q.entities builtin) (opened_trace at q pool wants)) (sym parts)
    (subst (λ (es : Entries). changed (opening_changes at (split is)) es ≡ kept_whole (others_of (split is)) (resumed (split is).entities builtin) (opened_trace at (split is) pool wants)) (sym rows)
    (split_opening is at pool wants (subst AreRows rows sorted) (subst (λ (es : Entries). AllByRecursion (MayStand es) is) rows each) (subst (λ (q : Parts). AreNotBuiltin q.entities) parts free)))

pub openings_kept : OpeningsAreKept
openings_kept all p at pool wants sorted holds free = of_parts holds.items all p at pool wants holds.kept.rows holds.parts sorted holds.kept.each free

-- the bytes of all that is kept after an opening, by those of the rows before
abbrev pub Weighs : ℕ → ℕ → List Prewarm → Parts → Entries → Type 0
Weighs at pool wants p all = (others_bytes (others_of p) + bytes_of (kept (resumed p.entities builtin) (opened_trace at p pool wants)))
    + (weight_at (codes "version") all + (weight_at (codes "archived") all + opens_bytes p.unrecorded))
    ≡ bytes_of all + (row_bytes (Version versions.Second) + (row_bytes (Archive (others_of p).archive) + done_bytes (abandoned at p.unrecorded)))

split_weighs : (is : List Item) (at pool : ℕ) (wants : List Prewarm) → AreRows (map item_row is) → AllByRecursion (MayStand (map item_row is)) is → AreNotBuiltin (split is).entities → Weighs at pool wants (split is) (map item_row is)
split_weighs is at pool wants sorted each free =
    subst (λ (es : Entries). Weighs at pool wants (split is) es) (split_kept is sorted)
    (opening_weighs (split is) at pool wants (open_apart is sorted) (row_apart is sorted) (none_recorded is each) free)

weighs_of : (is : List Item) (all : Entries) (p : Parts) (at pool : ℕ) (wants : List Prewarm) → all ≡ map item_row is → p ≡ split is → AreRows all → AllByRecursion (MayStand all) is → AreNotBuiltin p.entities → Weighs at pool wants p all
weighs_of is all p at pool wants rows parts sorted each free =
    subst (λ (q : Parts). Weighs at pool wants q all) (sym parts)
    (subst (λ (es : Entries). Weighs at pool wants (split is) es) (sym rows)
    (split_weighs is at pool wants (subst AreRows rows sorted) (subst (λ (es : Entries). AllByRecursion (MayStand es) is) rows each) (subst (λ (q : Parts). AreNotBuiltin q.entities) parts free)))

pub openings_weigh : (all : Entries) (p : Parts) (at pool : ℕ) (wants : List Prewarm) → AreRows all → HoldsItems all p → AreNotBuiltin p.entities → Weighs at pool wants p all
openings_weigh all p at pool wants sorted holds free = weighs_of holds.items all p at pool wants holds.kept.rows holds.parts sorted holds.kept.each free
