-- The items of each kind by themselves.
use Rattle.std.specs.Prelude.{◌≡◌, ℕ, List, [], ◌∷◌, ◌++◌, map, Option, Some, None}
use Rattle.std.specs.List.{AllByRecursion}
use Rattle.std.specs.Option.{option_or}
use Rattle.ow_entity.specs.declared.rows.Row.{Row as EntityRow}
use Rattle.ow_records.specs.declared.ids.Id.{Id}
use Rattle.ow_records.specs.declared.record.Record.{Record}
use Rattle.ow_records.specs.declared.unrecorded.Unrecorded.{Unrecorded}
use Rattle.ow_row_text.specs.Item.{item_row}
use Rattle.ow_row_text.specs.Sorted.{Entries}
use Rattle.ow_row_text.specs.declared.item.Archive.{Archive as KeptArchive}
use Rattle.ow_row_text.specs.declared.item.Item.{Item}
use Rattle.ow_row_text.specs.declared.item.Item.TheVariants.{Version, Archive, Count, Note, Row, Open, Done}
use Rattle.ow_row_text.specs.declared.item.Note.{Note as KeptNote}
use Rattle.ow_row_text.specs.declared.item.RowsVersion.{RowsVersion}
use Rattle.ow_keep.specs.Kept.{AreKept}
use Rattle.ow_keep.specs.Known.{IsItem}
use Rattle.ow_keep.specs.declared.kept.Kept.{Kept}

pub record Parts : Type 0 where
  -- the version, where its row is there
  pub version : Option RowsVersion
  -- the archive, where its row is there
  pub archive : Option KeptArchive
  -- the last id of each namespace
  pub counts : List Id
  pub notes : List KeptNote
  pub unrecorded : List Unrecorded
  pub records : List Record
  pub entities : List EntityRow

abbrev pub no_parts : Parts
no_parts = record { version = None; archive = None; counts = []; notes = []; unrecorded = []; records = []; entities = [] }

abbrev pub with_item : Item → Parts → Parts
with_item (Version v) p = record p { version = Some v }
with_item (Archive a) p = record p { archive = Some a }
with_item (Count namespace count) p = record p { counts = (record { namespace = namespace; count = count }) ∷ p.counts }
with_item (Note n) p = record p { notes = n ∷ p.notes }
with_item (Row r) p = record p { entities = r ∷ p.entities }
with_item (Open u) p = record p { unrecorded = u ∷ p.unrecorded }
with_item (Done r) p = record p { records = r ∷ p.records }

-- each kind in the order of the items
abbrev pub split : List Item → Parts
split [] = no_parts
split (i ∷ is) = with_item i (split is)

-- the parts with the item added after the others of its kind, for private clauses
abbrev pub behind_parts : Parts → Item → Parts
behind_parts p (Version v) = record p { version = option_or p.version (Some v) }
behind_parts p (Archive a) = record p { archive = option_or p.archive (Some a) }
behind_parts p (Count namespace count) = record p { counts = p.counts ++ (record { namespace = namespace; count = count }) ∷ [] }
behind_parts p (Note n) = record p { notes = p.notes ++ n ∷ [] }
behind_parts p (Row r) = record p { entities = p.entities ++ r ∷ [] }
behind_parts p (Open u) = record p { unrecorded = p.unrecorded ++ u ∷ [] }
behind_parts p (Done r) = record p { records = p.records ++ r ∷ [] }

-- the parts of one list and of another after it, for lemmas
abbrev pub joined_parts : Parts → Parts → Parts
joined_parts p q = record {
  version = option_or p.version q.version;
  archive = option_or p.archive q.archive;
  counts = p.counts ++ q.counts;
  notes = p.notes ++ q.notes;
  unrecorded = p.unrecorded ++ q.unrecorded;
  records = p.records ++ q.records;
  entities = p.entities ++ q.entities;
}

-- ---- the entries of the parts

abbrev pub version_entries : Option RowsVersion → Entries
version_entries None = []
version_entries (Some v) = item_row (Version v) ∷ []

abbrev pub archive_entries : Option KeptArchive → Entries
archive_entries None = []
archive_entries (Some a) = item_row (Archive a) ∷ []

abbrev pub note_row : KeptNote → List ℕ × List ℕ
note_row n = item_row (Note n)

abbrev pub count_row : Id → List ℕ × List ℕ
count_row last = item_row (Count last.namespace last.count)

abbrev pub open_row : Unrecorded → List ℕ × List ℕ
open_row u = item_row (Open u)

abbrev pub done_row : Record → List ℕ × List ℕ
done_row r = item_row (Done r)

abbrev pub entity_row : EntityRow → List ℕ × List ℕ
entity_row r = item_row (Row r)

-- without the archive and the notes
abbrev pub main_entries : Parts → Entries
main_entries p =
    version_entries p.version
    ++ (map count_row p.counts
    ++ (map open_row p.unrecorded
    ++ (map done_row p.records
    ++ map entity_row p.entities)))

abbrev pub entries : Parts → Entries
entries p = archive_entries p.archive ++ (map note_row p.notes ++ main_entries p)

abbrev pub parts_of : Kept → Parts
parts_of k = record {
  version = k.version;
  archive = k.archive;
  counts = k.counts.items;
  notes = k.notes.items;
  unrecorded = k.unrecorded.items;
  records = k.records.items;
  entities = k.entities.items;
}

-- ---- what rows hold

-- the rows are those of some items, of which these are the parts
pub record HoldsItems (all : Entries) (p : Parts) : Type 0 where
  pub items : List Item
  pub kept : AreKept all items
  pub known : AllByRecursion IsItem items
  pub parts : p ≡ split items
