-- What of a floor, of rows, of the archive and of notes is kept.
use Rattle.std.specs.Prelude.{ℕ, ◌++◌, Bool, not, List, [], ◌∷◌, filter, map}
use Rattle.ow_entity.specs.declared.rows.Row.{Row}
use Rattle.ow_floor.specs.Trace.{Trace, drawn, open_items, shown_records}
use Rattle.ow_row_text.specs.Bytes.{bytes_of}
use Rattle.ow_row_text.specs.declared.item.Archive.{Archive}
use Rattle.ow_row_text.specs.declared.item.Item.{Item}
use Rattle.ow_row_text.specs.declared.item.Item.TheVariants as items
use Rattle.ow_row_text.specs.declared.item.Note.{Note}
use Rattle.ow_row_text.specs.declared.item.RowsVersion.TheVariants as versions
use Rattle.ow_row_text.specs.Item.{item_row}
use Rattle.ow_row_text.specs.Sorted.{Entries, rows_of}
use Rattle.ow_records.specs.declared.ids.Id.{Id}
use Rattle.ow_records.specs.declared.unrecorded.Unrecorded.{Unrecorded}
use Rattle.ow_records.specs.Unrecorded.{unrecorded_of}
use Rattle.ow_tables.specs.Builtin.{is_builtin}

-- the last count of a namespace
abbrev pub count_item : Id → Item
count_item id = items.Count id.namespace id.count

-- a row is kept unless it is there from the start
abbrev pub is_kept : Row → Bool
is_kept r = not (is_builtin r)

-- what is kept of the activations that have not ended, by acceptance
abbrev pub unrecorded : Trace → List Unrecorded
unrecorded T = map (λ o. unrecorded_of o.task) (open_items T)

-- the version, the last counts, the rows, the activations that have not ended, and the records that are shown
abbrev pub kept_items : List Row → Trace → List Item
kept_items rs T = items.Version versions.Second
    ∷ (map count_item (drawn T)
    ++ (map items.Row (filter is_kept rs)
    ++ (map items.Open (unrecorded T)
    ++ map items.Done (shown_records T))))

abbrev pub entries : List Row → Trace → Entries
entries rs T = map item_row (kept_items rs T)

-- the rows of what is kept, in the order of their keys
unfoldable pub kept : List Row → Trace → Entries
kept rs T = rows_of (entries rs T)

-- ---- the archive and the notes

-- what was archived so far, and the notes
pub record OthersView : Type 0 where
  pub archive : Archive
  pub notes : List Note

-- nothing was archived
abbrev pub no_archive : Archive
no_archive = record { last = 0; number = 0 }

-- nor is there a note
abbrev pub no_others : OthersView
no_others = record { archive = no_archive; notes = [] }

abbrev pub note_row : Note → List ℕ × List ℕ
note_row n = item_row (items.Note n)

abbrev pub other_items : OthersView → List Item
other_items o = items.Archive o.archive ∷ map items.Note o.notes

-- the rows of the archive and of the notes, which no change of a row or of an activation names
abbrev pub other_entries : OthersView → Entries
other_entries o = item_row (items.Archive o.archive) ∷ map note_row o.notes

-- how many bytes they have
unfoldable pub others_bytes : OthersView → ℕ
others_bytes o = bytes_of (rows_of (other_entries o))

-- all that is kept, in the order of the keys
unfoldable pub kept_whole : OthersView → List Row → Trace → Entries
kept_whole o rs T = rows_of (other_entries o ++ entries rs T)
