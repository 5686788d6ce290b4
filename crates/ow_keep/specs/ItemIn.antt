-- The item that a row is read as. Reading is lenient: the item may be written otherwise.
use Rattle.std.specs.Prelude.{ℕ, ◌==◌, List, [], ◌∷◌, codes, drop, if◌then◌else◌, option_map, option_and_then, Option, Some, None}
use Rattle.std.specs.Result.{result_ok}
use Rattle.std.specs.Str.{bytes_eq, is_utf8}
use Rattle.ow_value.specs.Value.{V}
use Rattle.ow_value.specs.Decimal.{digits_of}
use Rattle.ow_value.specs.Nesting.{most_nested, most_nested_record}
use Rattle.ow_value.specs.Read.{reading}
use Rattle.ow_names.specs.declared.full.FullName.{FullName}
use Rattle.ow_entity.specs.declared.kinds.EntityKind.{EntityKind}
use Rattle.ow_entity.specs.declared.kinds.EntityKind.TheVariants as kinds
use Rattle.ow_records.specs.FieldsIn.{number_in}
use Rattle.ow_records.specs.Id.{hex_number}
use Rattle.ow_records.specs.RecordIn.{record_from}
use Rattle.ow_row_text.specs.declared.item.Item.{Item}
use Rattle.ow_row_text.specs.declared.item.Item.TheVariants.{Version, Archive, Count, Note, Row, Open, Done}
use Rattle.ow_row_text.specs.declared.item.RowsVersion.{RowsVersion}
use Rattle.ow_row_text.specs.declared.item.RowsVersion.TheVariants as versions
use Rattle.ow_keep.specs.EntityIn.{entity_from}
use Rattle.ow_keep.specs.OpenIn.{full_name_of, open_from}

abbrev pub value_of : List ℕ → Option V
value_of s = result_ok (reading most_nested s)

-- of a record's text, which nests deeper
abbrev pub deep_value_of : List ℕ → Option V
deep_value_of s = result_ok (reading most_nested_record s)

-- the first version by its text; any other text is read as the second
abbrev pub version_from : List ℕ → RowsVersion
version_from s = if bytes_eq s (codes "1") then versions.First else versions.Second

abbrev pub archive_with : Option ℕ → Option ℕ → Option Item
archive_with last number = option_and_then (λ l. option_map (λ n. Archive (record { last = l; number = n })) number) last

abbrev pub archive_from : V → Option Item
archive_from v = archive_with (number_in (codes "last") v) (number_in (codes "number") v)

abbrev pub archive_of : List ℕ → Option Item
archive_of s = option_and_then archive_from (value_of s)

abbrev pub as_utf8 : List ℕ → Option (List ℕ)
as_utf8 s = if is_utf8 s then Some s else None

abbrev pub note_with : Option (List ℕ) → Option ℕ → Option Item
note_with key value = option_and_then (λ k. option_map (λ n. Note (record { key = k; value = n })) value) key

abbrev pub count_with : Option ℕ → Option ℕ → Option Item
count_with namespace count = option_and_then (λ n. option_map (Count n) count) namespace

abbrev pub entity_with : EntityKind → Option FullName → Option V → Option Item
entity_with kind name v = option_and_then (λ n. option_map Row (option_and_then (entity_from kind n) v)) name

abbrev pub open_of : List ℕ → Option Item
open_of s = option_map Open (option_and_then open_from (value_of s))

abbrev pub done_of : List ℕ → Option Item
done_of s = option_map Done (option_and_then record_from (deep_value_of s))

-- the item of an entity's row: the kind by its first byte, and the full name that follows the kind
abbrev pub entity_of : List ℕ → List ℕ → Option Item
entity_of [] s = None
entity_of (byte ∷ place) s =
    if byte == 97 then entity_with kinds.Action (full_name_of (drop 5 place)) (value_of s)
    else if byte == 112 then entity_with kinds.Package (full_name_of (drop 6 place)) (value_of s)
    else if byte == 114 then entity_with kinds.Rule (full_name_of (drop 3 place)) (value_of s)
    else if byte == 116 then entity_with kinds.Trigger (full_name_of (drop 6 place)) (value_of s)
    else None

-- the item by the first byte of the key, and by what follows the key's prefix
abbrev pub item_by : ℕ → List ℕ → List ℕ → Option Item
item_by byte key s =
    if byte == 97 then archive_of s
    else if byte == 99 then count_with (hex_number (drop 5 key)) (digits_of s)
    else if byte == 100 then done_of s
    else if byte == 110 then note_with (as_utf8 (drop 4 key)) (digits_of s)
    else if byte == 111 then open_of s
    else if byte == 114 then entity_of (drop 3 key) s
    else if byte == 118 then Some (Version (version_from s))
    else None

abbrev pub item_from : List ℕ → List ℕ → Option Item
item_from [] s = None
item_from (byte ∷ key) s = item_by byte key s
