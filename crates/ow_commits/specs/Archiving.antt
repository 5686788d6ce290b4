-- What is committed of an archive: the due records leave the rows for the old rows, and the row of the archive counts them.
use Rattle.std.specs.Prelude.{◌+◌, ◌++◌, ℕ, List, [], ◌∷◌, length, map, max}
use Rattle.ow_commits.specs.Commits.{put_of}
use Rattle.ow_commits.specs.Kept.{OthersView}
use Rattle.ow_records.specs.declared.record.Record.{Record}
use Rattle.ow_row_text.specs.Item.{item_key, item_text}
use Rattle.ow_row_text.specs.declared.item.Archive.{Archive}
use Rattle.ow_row_text.specs.declared.item.Item.TheVariants as items
use Rattle.ow_traits.specs.declared.change_list.Change.{Change}
use Rattle.ow_traits.specs.declared.change_list.Change.TheVariants.{Retire}

-- the row of a record leaves for the old rows, as it is
abbrev pub retire_of : Record → Change
retire_of r = Retire (item_key (items.Done r)) (item_text (items.Done r))

-- the greatest end of these records, or this moment, whichever is later
abbrev pub last_end : ℕ → List Record → ℕ
last_end last [] = last
last_end last (r ∷ rs) = last_end (max last r.span.end) rs

-- the archive with these records
abbrev pub archive_with : Archive → List Record → Archive
archive_with a rs = record { last = last_end a.last rs; number = a.number + length rs }

abbrev pub others_with : OthersView → List Record → OthersView
others_with o rs = record o { archive = archive_with o.archive rs }

-- what is committed where these records are archived
abbrev pub archive_changes : Archive → List Record → List Change
archive_changes a rs = map retire_of rs ++ put_of (items.Archive (archive_with a rs)) ∷ []
