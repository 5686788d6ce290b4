-- Which items are allowed beside which rows, and the item of a row that is allowed.
use Rattle.std.specs.Prelude.{ℕ, ◌==◌, ◌&&◌, ◌||◌, List, [], ◌∷◌, Bool, true, false, codes, length, nat_le, nat_eq, is_some, not, if◌then◌else◌, option_and_then, Option, Some, None}
use Rattle.std.specs.List.{starts_with}
use Rattle.std.specs.Str.{bytes_eq}
use Rattle.ow_value.specs.Value.{depth}
use Rattle.ow_value.specs.Decimal.{digits_of}
use Rattle.ow_value.specs.Nesting.{most_nested, most_nested_record}
use Rattle.ow_names.specs.Path.{home}
use Rattle.ow_names.specs.declared.full.FullName.{FullName}
use Rattle.ow_entity.specs.Exec.{components_of}
use Rattle.ow_entity.specs.Written.{row_value}
use Rattle.ow_entity.specs.declared.rows.Row.{Row as EntityRow}
use Rattle.ow_entity.specs.declared.rows.Row.TheVariants as rows
use Rattle.ow_records.specs.Written.{record_value}
use Rattle.ow_records.specs.declared.ids.Id.{Id}
use Rattle.ow_records.specs.declared.forms.Form.{Form}
use Rattle.ow_records.specs.declared.forms.Form.TheVariants as forms
use Rattle.ow_records.specs.declared.notes.ExecKind.{ExecKind}
use Rattle.ow_records.specs.declared.notes.ExecKind.TheVariants as exec_kinds
use Rattle.ow_records.specs.declared.notes.Notes.{Notes}
use Rattle.ow_records.specs.declared.record.Record.{Record}
use Rattle.ow_records.specs.declared.unrecorded.Unrecorded.{Unrecorded}
use Rattle.ow_traits.specs.Rows.{text_of}
use Rattle.ow_tables.specs.Builtin.{is_builtin}
use Rattle.ow_tables.specs.declared.sequences.TheConstants.{MOST_COMPONENTS}
use Rattle.ow_row_text.specs.Item.{count_key, done_key, item_key, item_text, open_value}
use Rattle.ow_row_text.specs.Sorted.{Entries}
use Rattle.ow_row_text.specs.declared.item.Archive.{Archive as KeptArchive}
use Rattle.ow_row_text.specs.declared.item.Item.{Item}
use Rattle.ow_row_text.specs.declared.item.Item.TheVariants.{Version, Archive, Count, Note, Row, Open, Done}
use Rattle.ow_row_text.specs.declared.item.Note.{Note as KeptNote}
use Rattle.ow_row_text.specs.declared.item.RowsVersion.{RowsVersion}
use Rattle.ow_row_text.specs.declared.item.RowsVersion.TheVariants as versions
use Rattle.ow_keep.specs.ItemIn.{item_from}
use Rattle.ow_keep.specs.declared.allowed.TheConstants.{GREATEST_MOMENT, GREATEST_COUNT, LONGEST_NOTE_KEY}

-- no text of the item nests deeper than texts are read
abbrev pub is_shallow : Item → Bool
is_shallow (Version v) = true
is_shallow (Archive a) = true
is_shallow (Count namespace count) = true
is_shallow (Note n) = true
is_shallow (Row r) = nat_le (depth (row_value r)) most_nested
is_shallow (Open u) = nat_le (depth (open_value u)) most_nested
is_shallow (Done r) = nat_le (depth (record_value r)) most_nested_record

abbrev pub is_counted : Id → Option ℕ → Bool
is_counted id None = false
is_counted id (Some last) = nat_le 1 id.count && nat_le id.count last

-- the id was drawn: its namespace has a row of its last count, and the id's count is from 1 to that
abbrev pub is_drawn : Entries → Id → Bool
is_drawn all id = is_counted id (option_and_then digits_of (text_of (count_key id.namespace) all))

-- the activation has a record
abbrev pub has_record : Entries → Id → Bool
has_record all id = is_some (text_of (done_key id) all)

-- counts begin with 1
abbrev pub is_cause : Option Id → Bool
is_cause None = true
is_cause (Some id) = nat_le 1 id.count

abbrev pub is_moment : ℕ → Bool
is_moment moment = nat_le moment GREATEST_MOMENT

-- versions begin with 1
abbrev pub is_version : ℕ → Bool
is_version version = nat_le 1 version

-- the name is in a namespace, and in no package there
abbrev pub stands_alone : FullName → Bool
stands_alone name = not (is_some name.package)

-- an activation was called through no binding, or through one that is in no package
abbrev pub is_reached : Option FullName → Bool
is_reached None = true
is_reached (Some binding) = stands_alone binding

-- an activation's cause, version and binding are allowed
abbrev pub is_called : Option Id → ℕ → Option FullName → Bool
is_called cause version binding = is_cause cause && (is_version version && is_reached binding)

-- no longer than from the first moment to the greatest
abbrev pub is_duration : Option ℕ → Bool
is_duration None = true
is_duration (Some duration) = is_moment duration

abbrev pub are_durations : Notes → Bool
are_durations n = is_duration n.init_time && is_duration n.wait_time

-- the binding names a package, by what is written of it: its name, and its namespace, which is not written as `_`
abbrev pub is_binding : List ℕ → Option FullName → Bool
is_binding here None = true
is_binding here (Some bound) = stands_alone bound && bytes_eq (home here bound.namespace) bound.namespace

-- the name's text, read in this namespace, is the name again, which excludes the namespace `_`
abbrev pub is_written : List ℕ → FullName → Bool
is_written here n = bytes_eq (home here n.namespace) n.namespace

abbrev pub are_written : List ℕ → List FullName → Bool
are_written here [] = true
are_written here (n ∷ ns) = is_written here n && are_written here ns

-- no more components than a put allows
abbrev pub are_few : List FullName → Bool
are_few ns = nat_le (length ns) MOST_COMPONENTS

-- packages, rules and triggers lie in no package
abbrev pub is_entity : EntityRow → Bool
is_entity (rows.Action a) = is_version a.version && (are_few (components_of a.exec) && are_written a.name.namespace (components_of a.exec))
is_entity (rows.Package p) = is_version p.version && (stands_alone p.name && is_binding p.name.namespace p.binding)
is_entity (rows.Rule r) = is_version r.version && (stands_alone r.name && (is_written r.name.namespace r.trigger && is_written r.name.namespace r.action))
is_entity (rows.Trigger t) = is_version t.version && stands_alone t.name

-- the activation is that of a sequence exactly where its action is a sequence
abbrev pub is_formed : Form → ExecKind → Bool
is_formed forms.Sequence exec_kinds.Sequence = true
is_formed forms.Sequence kind = false
is_formed form exec_kinds.Sequence = false
is_formed form kind = true

-- what is required of an activation that has not ended, whatever the other rows are
abbrev pub is_fit_open : Unrecorded → Bool
is_fit_open u = is_moment u.at && (is_called u.cause u.version u.binding && is_formed u.form u.kind)

-- what is required of a record, whatever the other rows are
abbrev pub is_fit_record : Record → Bool
is_fit_record r = is_moment r.span.end && (is_called r.cause r.version r.notes.binding && are_durations r.notes)

-- the row of the archive is there
abbrev pub has_archive : Entries → Bool
has_archive all = is_some (text_of (codes "archived") all)

abbrev pub is_note_key : List ℕ → Bool
is_note_key key = starts_with nat_eq key (codes "note/")

-- a row of a note is there
abbrev pub has_note : Entries → Bool
has_note [] = false
has_note (e ∷ es) = is_note_key e.0 || has_note es

-- rows of the first version have no archive and no note, and those of the second have an archive
abbrev pub is_version_of : Entries → RowsVersion → Bool
is_version_of all versions.First = not (has_archive all) && not (has_note all)
is_version_of all versions.Second = has_archive all

-- where nothing was archived, no end is the greatest
abbrev pub is_archive : KeptArchive → Bool
is_archive a = is_moment a.last && (nat_le a.number GREATEST_COUNT && (nat_le 1 a.number || a.last == 0))

abbrev pub is_note : KeptNote → Bool
is_note n = is_moment n.value && (nat_le 1 (length n.key) && nat_le (length n.key) LONGEST_NOTE_KEY)

abbrev pub is_allowed : Entries → Item → Bool
is_allowed all (Version v) = is_version_of all v
is_allowed all (Archive a) = is_archive a
is_allowed all (Count namespace count) = nat_le 1 count && nat_le count GREATEST_COUNT
is_allowed all (Note n) = is_note n
is_allowed all (Row r) = is_entity r && not (is_builtin r)
is_allowed all (Open u) = (is_drawn all u.id && not (has_record all u.id)) && is_fit_open u
is_allowed all (Done r) = is_drawn all r.id && is_fit_record r

-- the item is written as this row, whose text nests no deeper than such texts are read
abbrev pub is_row_of : Item → List ℕ × List ℕ → Bool
is_row_of i r = bytes_eq (item_key i) r.0 && (bytes_eq (item_text i) r.1 && is_shallow i)

abbrev pub is_confirmed : Entries → List ℕ × List ℕ → Item → Bool
is_confirmed all r i = is_row_of i r && is_allowed all i

abbrev pub confirmed : Entries → List ℕ × List ℕ → Item → Option Item
confirmed all r i = if is_confirmed all r i then Some i else None

-- the item of a row that is allowed among the rows
unfoldable pub item_at : Entries → List ℕ × List ℕ → Option Item
item_at all r = option_and_then (confirmed all r) (item_from r.0 r.1)
