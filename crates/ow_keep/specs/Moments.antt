-- The moments in items.
use Rattle.std.specs.Prelude.{ℕ, List, [], ◌∷◌, max, Option, Some, None}
use Rattle.ow_records.specs.declared.record.Record.{Record}
use Rattle.ow_records.specs.declared.unrecorded.Unrecorded.{Unrecorded}
use Rattle.ow_row_text.specs.declared.item.Archive.{Archive as KeptArchive}
use Rattle.ow_row_text.specs.declared.item.Item.{Item}
use Rattle.ow_row_text.specs.declared.item.Item.TheVariants.{Version, Archive, Count, Note, Row, Open, Done}
use Rattle.ow_row_text.specs.declared.item.Note.{Note as KeptNote}
use Rattle.ow_keep.specs.Split.{Parts}

-- the start or the end, whichever is later
abbrev pub record_moment : Record → ℕ
record_moment r = max r.span.start r.span.end

-- the greatest moment that the item has
abbrev pub item_moment : Item → ℕ
item_moment (Version v) = 0
item_moment (Archive a) = a.last
item_moment (Count namespace count) = 0
item_moment (Note n) = n.value
item_moment (Row r) = 0
item_moment (Open u) = u.at
item_moment (Done r) = record_moment r

-- the greatest that the items have, or 0
abbrev pub greatest_kept_moment : List Item → ℕ
greatest_kept_moment [] = 0
greatest_kept_moment (i ∷ is) = max (item_moment i) (greatest_kept_moment is)

-- ---- the same of each kind by itself

abbrev pub archive_moment : Option KeptArchive → ℕ
archive_moment None = 0
archive_moment (Some a) = a.last

abbrev pub greatest_note : List KeptNote → ℕ
greatest_note [] = 0
greatest_note (n ∷ ns) = max n.value (greatest_note ns)

abbrev pub greatest_acceptance : List Unrecorded → ℕ
greatest_acceptance [] = 0
greatest_acceptance (u ∷ us) = max u.at (greatest_acceptance us)

abbrev pub greatest_record_moment : List Record → ℕ
greatest_record_moment [] = 0
greatest_record_moment (r ∷ rs) = max (record_moment r) (greatest_record_moment rs)

abbrev pub parts_moment : Parts → ℕ
parts_moment p = max (max (archive_moment p.archive) (greatest_note p.notes)) (max (greatest_acceptance p.unrecorded) (greatest_record_moment p.records))
