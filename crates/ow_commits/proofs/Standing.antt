-- Once a commit is kept, what is known of the kept rows is true of what is kept after it.
use Rattle.std.proofs.Common.{◌≡◌, ◌+◌, ℕ, Bool, true, false, cond, List, [], ◌∷◌, ◌++◌, codes, filter, not, Option, refl, sym, ap, ◌∙◌, subst, arith}
use Rattle.std.specs.List.{flat_map}
use Rattle.ow_entity.specs.declared.rows.Row.{Row}
use Rattle.ow_entity.specs.Row.{kind_of, name_of}
use Rattle.ow_traits.specs.Changes.{changed}
use Rattle.ow_traits.specs.Rows.{AreRows}
use Rattle.ow_traits.specs.declared.prewarms.Prewarm.{Prewarm}
use Rattle.ow_traits.specs.declared.change_list.Change.{Change}
use Rattle.ow_floor.specs.Trace.{Trace, shown_records, drawn}
use Rattle.ow_row_text.specs.declared.item.Item.{Item}
use Rattle.ow_row_text.specs.declared.item.Item.TheVariants as items
use Rattle.ow_row_text.specs.declared.item.RowsVersion.TheVariants as versions
use Rattle.ow_row_text.specs.Bytes.{bytes_of, weight, weight_at}
use Rattle.ow_row_text.specs.Item.{entity_key, item_text}
use Rattle.ow_row_text.specs.Sorted.{Entries, rows_of}
use Rattle.ow_commits.specs.Commits.{end_changes, put_of, row_change, row_changes}
use Rattle.ow_commits.specs.Opening.{AreNotBuiltin, abandoned, opened_trace, opening_changes, opens_bytes, others_of}
use Rattle.ow_keep.specs.Split.{HoldsItems, Parts}
use Rattle.ow_commits.specs.declared.open_bytes.OpenBytes.{OpenBytes}
use Rattle.ow_commits.specs.Keeping.{FollowingView, KeepingView, StandsFollowing, StandsForKept, bytes_less, bytes_more, done_bytes, old_bytes, row_bytes}
use Rattle.ow_commits.specs.Kept.{OthersView, is_kept, kept, others_bytes, unrecorded}
use Rattle.ow_commits.proofs.Opening.{openings_weigh}
use Rattle.ow_commits.proofs.Resuming.{ids_known}
use Rattle.ow_commits.proofs.RowLaws.{rows_kept}
use Rattle.ow_commits.proofs.Sections.{entries_are, row_dropped, row_put, sections}
use Rattle.ow_commits.proofs.TableRows.{row_kept, row_left}
use Rattle.ow_commits.proofs.Weights.{drop_bytes, put_bytes, row_text, row_weighs}
use Rattle.ow_tables.specs.Builtin.{builtin, is_builtin}
use Rattle.ow_tables.specs.Contents.{Change as TableChange}
use Rattle.ow_tables.specs.Rows.{changed as rows_changed, found, resumed, with_row, without}

-- ---- a change of the rows

module _ (rs : List Row) (T : Trace) (r : Row) where
  abbrev Over : List Row → Entries
  Over xs = sections (drawn T) (filter is_kept xs) (unrecorded T) (shown_records T)

  bytes_over : (xs : List Row) → bytes_of (kept xs T) ≡ bytes_of (rows_of (Over xs))
  unfolding kept
  bytes_over xs = ap (λ es. bytes_of (rows_of es)) (entries_are xs T)

  there : is_kept r ≡ true → weight_at (entity_key r) (Over rs) ≡ old_bytes (found (kind_of r) (name_of r) rs)
  there here = ap (weight (entity_key r)) (row_text (drawn T) (filter is_kept rs) (unrecorded T) (shown_records T) r) ∙ row_weighs r rs here

  weighs_by : (removes b : Bool) → is_builtin r ≡ b → changed (row_changes (record { row = r; removes = removes })) (kept rs T) ≡ kept (rows_changed (record { row = r; removes = removes }) rs) T
      → bytes_of (kept (rows_changed (record { row = r; removes = removes }) rs) T) + cond b 0 (old_bytes (found (kind_of r) (name_of r) rs)) ≡ bytes_of (kept rs T) + cond b 0 (cond removes 0 (row_bytes (items.Row r)))
  weighs_by removes true e law =
      let same : kept rs T ≡ kept (rows_changed (record { row = r; removes = removes }) rs) T = subst (λ b. changed (cond b [] (row_change (record { row = r; removes = removes }) ∷ [])) (kept rs T) ≡ kept (rows_changed (record { row = r; removes = removes }) rs) T) e law in
      ap (λ es. bytes_of es + 0) (sym same)
  weighs_by true false e law =
      let here = there (ap not e) in
      let one = drop_bytes (entity_key r) (Over rs) (Over (without (kind_of r) (name_of r) rs)) (row_dropped r (drawn T) (filter is_kept rs) (filter is_kept (without (kind_of r) (name_of r) rs)) (unrecorded T) (shown_records T) (row_left r rs)) in
      let before = bytes_over rs in
      let after = bytes_over (without (kind_of r) (name_of r) rs) in
      omega (arith, one, before, after, here)
  weighs_by false false e law =
      let here = there (ap not e) in
      let one = put_bytes (entity_key r) (item_text (items.Row r)) (Over rs) (Over (with_row r rs)) (row_put r (drawn T) (filter is_kept rs) (filter is_kept (with_row r rs)) (unrecorded T) (shown_records T) (row_kept r rs (ap not e))) in
      let before = bytes_over rs in
      let after = bytes_over (with_row r rs) in
      omega (arith, one, before, after, here)

change_weighs : (t : TableChange) (rs : List Row) (T : Trace) → bytes_of (kept (rows_changed t rs) T) + bytes_less t (found (kind_of t.row) (name_of t.row) rs) ≡ bytes_of (kept rs T) + bytes_more t
change_weighs t rs T = weighs_by rs T t.row t.removes (is_builtin t.row) refl (rows_kept t rs T)

-- what follows, by what was gathered
abbrev made : List Change → ℕ → List OpenBytes → FollowingView
made cs n os = record { changes = cs; bytes = n; opens = os }

pub record IsFollowingChange (v : KeepingView) (t : TableChange) (old : Option Row) (c : FollowingView) : Type 0 where
  pub changes : c.changes ≡ row_changes t
  pub bytes : (o : OthersView) (rs : List Row) (T : Trace) → StandsForKept v o rs T → old ≡ found (kind_of t.row) (name_of t.row) rs → c.bytes ≡ others_bytes o + bytes_of (changed c.changes (kept rs T))
  pub stands : (o : OthersView) (rs : List Row) (T : Trace) → StandsForKept v o rs T → old ≡ found (kind_of t.row) (name_of t.row) rs → StandsFollowing c o (rows_changed t rs) T

pub following_change_done : (v : KeepingView) (t : TableChange) (old : Option Row) (c : FollowingView) (cs0 cs1 : List Change) (n0 n1 : ℕ) (os : List OpenBytes) → n0 ≡ v.bytes → cs0 ≡ [] → cs1 ≡ cs0 ++ row_changes t
    → n1 + bytes_less t old ≡ n0 + bytes_more t → os ≡ v.opens → c ≡ made cs1 n1 os → IsFollowingChange v t old c
following_change_done v t old c cs0 cs1 n0 n1 os start empty gathered sum copied is =
    let changes : c.changes ≡ row_changes t = ap (λ (x : FollowingView). x.changes) is ∙ (gathered ∙ ap (λ (cs : List Change). cs ++ row_changes t) empty) in
    let is_bytes : c.bytes ≡ n1 = ap (λ (x : FollowingView). x.bytes) is in
    let weighs : (o : OthersView) (rs : List Row) (T : Trace) → StandsForKept v o rs T → old ≡ found (kind_of t.row) (name_of t.row) rs → c.bytes ≡ others_bytes o + bytes_of (kept (rows_changed t rs) T)
    = λ o rs T stands same.
    let all = change_weighs t rs T in
    let less : bytes_less t old ≡ bytes_less t (found (kind_of t.row) (name_of t.row) rs) = ap (bytes_less t) same in
    let now = stands.bytes in
    omega (arith, all, less, sum, now, start, is_bytes) in
    record {
      changes = changes;
      bytes = λ o rs T stands same.
          weighs o rs T stands same ∙ (ap (λ es. others_bytes o + bytes_of es) (sym (rows_kept t rs T)) ∙ ap (λ (cs : List Change). others_bytes o + bytes_of (changed cs (kept rs T))) (sym changes));
      stands = λ o rs T stands same. record { bytes = weighs o rs T stands same; opens = ap (λ (x : FollowingView). x.opens) is ∙ (copied ∙ stands.opens); ids = stands.ids };
    }

-- a change that is added to others, over the row that is there after them, leaves what is known of the kept rows
pub added_stands : (t : TableChange) (old : Option Row) (n0 n1 : ℕ) (os : List OpenBytes) (o : OthersView) (rs : List Row) (T : Trace) → n1 + bytes_less t old ≡ n0 + bytes_more t
    → StandsForKept (record { bytes = n0; opens = os }) o rs T → old ≡ found (kind_of t.row) (name_of t.row) rs → StandsForKept (record { bytes = n1; opens = os }) o (rows_changed t rs) T
added_stands t old n0 n1 os o rs T sum stands same =
    let all = change_weighs t rs T in
    let less : bytes_less t old ≡ bytes_less t (found (kind_of t.row) (name_of t.row) rs) = ap (bytes_less t) same in
    let now : n0 ≡ others_bytes o + bytes_of (kept rs T) = stands.bytes in
    record { bytes = omega (arith, all, less, sum, now); opens = stands.opens; ids = stands.ids }

-- ---- an opening

abbrev version_item : Item
version_item = items.Version versions.Second

-- the archive that is put
abbrev archive_item : Parts → Item
archive_item p = items.Archive (others_of p).archive

abbrev ends_of : ℕ → Parts → List Change
ends_of at p = flat_map end_changes (abandoned at p.unrecorded)

pub record IsOpening (all : Entries) (p : Parts) (at : ℕ) (c : FollowingView) : Type 0 where
  pub changes : c.changes ≡ opening_changes at p
  pub stands : (pool : ℕ) (wants : List Prewarm) → HoldsItems all p → AreNotBuiltin p.entities → StandsFollowing c (others_of p) (resumed p.entities builtin) (opened_trace at p pool wants)

pub opening_done : (all : Entries) (p : Parts) (at : ℕ) (c : FollowingView) (cs0 cs1 cs2 cs3 : List Change) (n0 n1 n2 n3 : ℕ) (none : List OpenBytes) → AreRows all → n0 ≡ bytes_of all → cs0 ≡ []
    → cs1 ≡ cs0 ++ put_of version_item ∷ [] → n1 + weight_at (codes "version") all ≡ n0 + row_bytes version_item
    → cs2 ≡ cs1 ++ put_of (archive_item p) ∷ [] → n2 + weight_at (codes "archived") all ≡ n1 + row_bytes (archive_item p)
    → cs3 ≡ cs2 ++ ends_of at p → n3 + opens_bytes p.unrecorded ≡ n2 + done_bytes (abandoned at p.unrecorded) → none ≡ [] → c ≡ made cs3 n3 none
    → IsOpening all p at c
opening_done all p at c cs0 cs1 cs2 cs3 n0 n1 n2 n3 none sorted start empty version first archive second ended third nothing is =
    let changes : c.changes ≡ opening_changes at p
    = ap (λ (x : FollowingView). x.changes) is
    ∙ (ended ∙ ap (λ (cs : List Change). cs ++ ends_of at p) (archive ∙ ap (λ (cs : List Change). cs ++ put_of (archive_item p) ∷ []) (version ∙ ap (λ (cs : List Change). cs ++ put_of version_item ∷ []) empty))) in
    let bytes : c.bytes ≡ n3 = ap (λ (x : FollowingView). x.bytes) is in
    record {
      changes = changes;
      stands = λ pool wants holds free.
          let weighs = openings_weigh all p at pool wants sorted holds free in
          record { bytes = omega (arith, weighs, bytes, start, first, second, third); opens = ap (λ (x : FollowingView). x.opens) is ∙ nothing; ids = ids_known all p at pool wants holds };
    }
