-- What is committed of a change of the rows turns what was kept into what is kept of the rows after the change.
use Rattle.std.proofs.Common.{◌≡◌, List, [], ◌∷◌, Bool, true, false, cond, not, filter, refl, sym, ap, subst}
use Rattle.ow_entity.specs.declared.rows.Row.{Row}
use Rattle.ow_entity.specs.Row.{kind_of, name_of}
use Rattle.ow_traits.specs.declared.change_list.Change.{Change}
use Rattle.ow_traits.specs.declared.change_list.Change.TheVariants.{Drop as Dropped}
use Rattle.ow_floor.specs.Trace.{Trace, shown_records, drawn}
use Rattle.ow_row_text.specs.declared.item.Item.TheVariants as items
use Rattle.ow_row_text.specs.Item.{entity_key}
use Rattle.ow_row_text.specs.Sorted.{Entries, Makes}
use Rattle.ow_row_text.proofs.Extent.{changes_kept}
use Rattle.ow_commits.specs.Commits.{put_of, row_changes}
use Rattle.ow_commits.specs.Kept.{entries, is_kept, kept, unrecorded}
use Rattle.ow_commits.specs.Laws.{ChangesOfRowsAreKept}
use Rattle.ow_commits.proofs.Sections.{entries_are, row_dropped, row_put, sections}
use Rattle.ow_commits.proofs.TableRows.{row_kept, row_left, row_not_kept, row_not_left}
use Rattle.ow_records.specs.declared.ids.Id.{Id}
use Rattle.ow_records.specs.declared.record.Record.{Record}
use Rattle.ow_records.specs.declared.unrecorded.Unrecorded.{Unrecorded}
use Rattle.ow_tables.specs.Builtin.{is_builtin}
use Rattle.ow_tables.specs.Contents.{Change as TableChange}
use Rattle.ow_tables.specs.Rows.{changed as rows_changed, with_row, without}

pub made_so : (cs : List Change) (rs new : List Row) (T U : Trace)
    → Makes cs (sections (drawn T) (filter is_kept rs) (unrecorded T) (shown_records T)) (sections (drawn U) (filter is_kept new) (unrecorded U) (shown_records U)) → Makes cs (entries rs T) (entries new U)
made_so cs rs new T U h =
    subst (λ (a : Entries). Makes cs a (entries new U)) (sym (entries_are rs T))
    (subst (λ (b : Entries). Makes cs (sections (drawn T) (filter is_kept rs) (unrecorded T) (shown_records T)) b) (sym (entries_are new U)) h)

module _ (ids : List Id) (us : List Unrecorded) (ds : List Record) where
  abbrev Sections : List Row → Entries
  Sections rs = sections ids rs us ds

  same_made : (old new : List Row) → new ≡ old → Makes [] (Sections old) (Sections new)
  same_made old new e = subst (λ (rs : List Row). Makes [] (Sections old) (Sections rs)) (sym e) (record { each = λ q. refl })

  made_by : (r : Row) (rs : List Row) (removes b : Bool) → is_builtin r ≡ b
      → Makes (cond b [] (cond removes (Dropped (entity_key r)) (put_of (items.Row r)) ∷ [])) (Sections (filter is_kept rs)) (Sections (filter is_kept (cond removes (without (kind_of r) (name_of r) rs) (with_row r rs))))
  made_by r rs true true e = same_made (filter is_kept rs) (filter is_kept (without (kind_of r) (name_of r) rs)) (row_not_left r rs (ap not e))
  made_by r rs false true e = same_made (filter is_kept rs) (filter is_kept (with_row r rs)) (row_not_kept r rs (ap not e))
  made_by r rs true false e = row_dropped r ids (filter is_kept rs) (filter is_kept (without (kind_of r) (name_of r) rs)) us ds (row_left r rs)
  made_by r rs false false e = row_put r ids (filter is_kept rs) (filter is_kept (with_row r rs)) us ds (row_kept r rs (ap not e))

pub row_made : (c : TableChange) (rs : List Row) (T : Trace) → Makes (row_changes c) (entries rs T) (entries (rows_changed c rs) T)
row_made c rs T = made_so (row_changes c) rs (rows_changed c rs) T T (made_by (drawn T) (unrecorded T) (shown_records T) c.row rs c.removes (is_builtin c.row) refl)

pub rows_kept : ChangesOfRowsAreKept
unfolding kept
rows_kept c rs T = changes_kept (row_changes c) (entries rs T) (entries (rows_changed c rs) T) (row_made c rs T)
