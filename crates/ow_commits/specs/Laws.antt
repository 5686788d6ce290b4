-- Laws of what is kept.
use Rattle.std.specs.Prelude.{◌≡◌, ◌+◌, ◌++◌, ◌∷◌, ℕ, List, []}
use Rattle.std.specs.List.{AllByRecursion, flat_map}
use Rattle.ow_entity.specs.declared.rows.Row.{Row}
use Rattle.ow_floor.specs.Growth.{AreRight}
use Rattle.ow_floor.specs.Laws.{IsSound}
use Rattle.ow_floor.specs.Trace.{Trace, shown}
use Rattle.ow_floor.specs.Calls.{archive_items, due_in, moved}
use Rattle.ow_floor.specs.declared.moves.Moved.{Moved}
use Rattle.ow_commits.specs.Commits.{changes_of, put_of, row_changes}
use Rattle.ow_commits.specs.Keeping.{AreIds, AreOwn, IsKnownMove, KeepingView, StandsForKept}
use Rattle.ow_commits.specs.Kept.{OthersView, kept, kept_whole, others_bytes}
use Rattle.ow_commits.specs.Archiving.{archive_changes, others_with}
use Rattle.ow_commits.specs.Noting.{noting}
use Rattle.ow_row_text.specs.declared.item.Item.TheVariants as items
use Rattle.ow_row_text.specs.declared.item.Note.{Note}
use Rattle.ow_row_text.specs.Bytes.{bytes_of}
use Rattle.ow_tables.specs.Contents.{Change}
use Rattle.ow_tables.specs.Rows.{changed as rows_changed}
use Rattle.ow_traits.specs.Changes.{changed}

-- what is committed of a change of the rows turns what was kept into what is kept of the rows after the change
abbrev pub ChangesOfRowsAreKept : Type 0
ChangesOfRowsAreKept = (c : Change) (rs : List Row) (T : Trace) → changed (row_changes c) (kept rs T) ≡ kept (rows_changed c rs) T

-- what is committed of moves turns what was kept into what is kept after their items
abbrev pub MovesAreKept : Type 0
MovesAreKept = (rs : List Row) (T items : Trace) → IsSound T → AreIds T → AreRight items (shown T) → AreOwn items → AllByRecursion IsKnownMove (moved items)
    → changed (flat_map changes_of (moved items)) (kept rs T) ≡ kept rs (items ++ T)

-- where nothing moved, what was true of what is kept is still true of it after the items
abbrev pub ItemsWithoutMovesAreKept : Type 0
ItemsWithoutMovesAreKept = (v : KeepingView) (o : OthersView) (rs : List Row) (T items : Trace) → StandsForKept v o rs T → IsSound T → AreRight items (shown T) → AreOwn items → moved items ≡ []
    → StandsForKept v o rs (items ++ T)

-- what is committed of changes of the rows and of moves does beside the archive and the notes what it does without them
abbrev pub OthersStay : Type 0
OthersStay = (o : OthersView) (cs : List Change) (ms : List Moved) (rs ss : List Row) (T U : Trace) → changed (flat_map row_changes cs ++ flat_map changes_of ms) (kept rs T) ≡ kept ss U
    → changed (flat_map row_changes cs ++ flat_map changes_of ms) (kept_whole o rs T) ≡ kept_whole o ss U

-- and the bytes of all that is kept after it are those of the archive and the notes, with those of the rest
abbrev pub BytesBesideOthers : Type 0
BytesBesideOthers = (o : OthersView) (cs : List Change) (ms : List Moved) (rs : List Row) (T : Trace)
    → bytes_of (changed (flat_map row_changes cs ++ flat_map changes_of ms) (kept_whole o rs T)) ≡ others_bytes o + bytes_of (changed (flat_map row_changes cs ++ flat_map changes_of ms) (kept rs T))

-- what is committed of an archive up to a moment turns what was kept into what is kept after it
abbrev pub ArchivesAreKept : Type 0
ArchivesAreKept = (o : OthersView) (until : ℕ) (rs : List Row) (T : Trace) → IsSound T → AreIds T
    → changed (archive_changes o.archive (due_in until T)) (kept_whole o rs T) ≡ kept_whole (others_with o (due_in until T)) rs (archive_items until T ++ T)

-- what is committed of a note turns what was kept into what is kept with it
abbrev pub NotesAreKept : Type 0
NotesAreKept = (o : OthersView) (n : Note) (rs : List Row) (T : Trace) → changed (put_of (items.Note n) ∷ []) (kept_whole o rs T) ≡ kept_whole (noting n o) rs T
