-- The row of an item.
use Rattle.std.specs.Prelude.{ℕ, pos, List, [], ◌∷◌, ◌++◌, codes, decimal, Option, Some, None}
use Rattle.ow_value.specs.Value.{V, Pairs, whole, text, object, members_of}
use Rattle.ow_value.specs.Text.{compact}
use Rattle.ow_names.specs.FullName.{full_text}
use Rattle.ow_names.specs.declared.full.FullName.{FullName}
use Rattle.ow_entity.specs.Row.{name_of}
use Rattle.ow_entity.specs.Written.{row_value, limits_value, shown_version}
use Rattle.ow_entity.specs.declared.rows.Row.{Row as EntityRow}
use Rattle.ow_entity.specs.declared.rows.Row.TheVariants as rows
use Rattle.ow_records.specs.Form.{form_text}
use Rattle.ow_records.specs.Id.{hex_16, id_text}
use Rattle.ow_records.specs.Notes.{kind_text}
use Rattle.ow_records.specs.Written.{record_value, cause_members}
use Rattle.ow_records.specs.WrittenNotes.{path_text}
use Rattle.ow_records.specs.declared.ids.Id.{Id}
use Rattle.ow_records.specs.declared.unrecorded.Unrecorded.{Unrecorded}
use Rattle.ow_row_text.specs.declared.item.Archive.{Archive as KeptArchive}
use Rattle.ow_row_text.specs.declared.item.Item.{Item}
use Rattle.ow_row_text.specs.declared.item.Item.TheVariants.{Version, Archive, Count, Note, Row, Open, Done}
use Rattle.ow_row_text.specs.declared.item.RowsVersion.{RowsVersion}
use Rattle.ow_row_text.specs.declared.item.RowsVersion.TheVariants as versions

-- ---- keys

abbrev pub count_key : ℕ → List ℕ
count_key namespace = codes "count/" ++ hex_16 namespace

-- of a note, by the note's key
abbrev pub note_key : List ℕ → List ℕ
note_key key = codes "note/" ++ key

abbrev pub row_kind : EntityRow → List ℕ
row_kind (rows.Action a) = codes "action"
row_kind (rows.Package p) = codes "package"
row_kind (rows.Rule r) = codes "rule"
row_kind (rows.Trigger t) = codes "trigger"

abbrev pub entity_key : EntityRow → List ℕ
entity_key r = codes "row/" ++ (row_kind r ++ full_text (name_of r))

abbrev pub open_key : Id → List ℕ
open_key id = codes "open/" ++ id_text id

abbrev pub done_key : Id → List ℕ
done_key id = codes "done/" ++ id_text id

abbrev pub item_key : Item → List ℕ
item_key (Version v) = codes "version"
item_key (Archive a) = codes "archived"
item_key (Count namespace count) = count_key namespace
item_key (Note n) = note_key n.key
item_key (Row r) = entity_key r
item_key (Open u) = open_key u.id
item_key (Done r) = done_key r.id

-- ---- texts

abbrev pub version_text : RowsVersion → List ℕ
version_text versions.First = codes "1"
version_text versions.Second = codes "2"

-- the greatest end of an archived record, and how many there are
abbrev pub archive_value : KeptArchive → V
archive_value a = object (members_of ((codes "last", whole (pos a.last)) ∷ (codes "number", whole (pos a.number)) ∷ []))

-- the binding, if there is one, before these
abbrev pub binding_members : Option FullName → Pairs → Pairs
binding_members None members = members
binding_members (Some bound) members = (codes "binding", text (full_text bound)) ∷ members

abbrev pub open_members : Option FullName → Option Id → Unrecorded → Pairs
open_members bound cause u =
    (codes "activationId", text (id_text u.id))
    ∷ (codes "at", whole (pos u.at))
    ∷ binding_members bound (cause_members cause (
    (codes "form", text (form_text u.form))
    ∷ (codes "kind", text (kind_text u.kind))
    ∷ (codes "limits", limits_value u.limits)
    ∷ (codes "namespace", text u.namespace)
    ∷ (codes "path", text (path_text u.path))
    ∷ (codes "subject", text u.subject)
    ∷ (codes "version", text (shown_version u.version))
    ∷ []))

-- an activation that has not ended
abbrev pub open_value : Unrecorded → V
open_value u = object (members_of (open_members u.binding u.cause u))

unfoldable pub item_text : Item → List ℕ
item_text (Version v) = version_text v
item_text (Archive a) = compact (archive_value a)
item_text (Count namespace count) = decimal count
item_text (Note n) = decimal n.value
item_text (Row r) = compact (row_value r)
item_text (Open u) = compact (open_value u)
item_text (Done r) = compact (record_value r)

-- ---- rows

abbrev pub item_row : Item → List ℕ × List ℕ
item_row i = (item_key i, item_text i)
