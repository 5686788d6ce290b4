-- No moment in kept rows is after the greatest.
use Rattle.std.proofs.Common.{◌≡◌, ◌≤◌, ◌==◌, ◌&&◌, ◌||◌, ℕ, List, [], ◌∷◌, Bool, true, false, cond, length, nat_le, not, drop, codes, is_some, IfSome, IfOk, Option, Some, None, option_and_then, option_map, Result, Ok, Err, refl, subst, arith}
use Rattle.std.specs.List.{AllByRecursion}
use Rattle.std.proofs.Math.Nat.{max-le}
use Rattle.std.proofs.lemmas.Bool.{and_parts}
use Rattle.std.proofs.lemmas.Bool.Decides.{nat_tests}
use Rattle.ow_value.specs.Value.{V}
use Rattle.ow_value.specs.Decimal.{digits_of}
use Rattle.ow_value.specs.Field.{field}
use Rattle.ow_names.specs.declared.full.FullName.{FullName}
use Rattle.ow_entity.specs.declared.kinds.EntityKind.{EntityKind}
use Rattle.ow_entity.specs.declared.kinds.EntityKind.TheVariants as kinds
use Rattle.ow_entity.specs.declared.rows.Row.{Row as EntityRow}
use Rattle.ow_records.specs.Id.{hex_number}
use Rattle.ow_records.specs.FieldsIn.{as_lines, cause_in, id_in, name_in, number_in, text_in, version_in}
use Rattle.ow_records.specs.NotesIn.{as_notes}
use Rattle.ow_records.specs.RecordIn.{as_response, head_with, record_from, record_with, span_in, span_with, texts_with, told_with}
use Rattle.ow_records.specs.Response.{ResponseView}
use Rattle.ow_records.specs.declared.notes.Notes.{Notes}
use Rattle.ow_records.specs.Span.{SpanView}
use Rattle.ow_records.specs.declared.ids.Id.{Id}
use Rattle.ow_records.specs.declared.unrecorded.Unrecorded.{Unrecorded}
use Rattle.ow_traits.specs.Rows.{text_of}
use Rattle.ow_row_text.specs.Sorted.{Entries}
use Rattle.ow_row_text.specs.declared.item.Item.{Item}
use Rattle.ow_row_text.specs.declared.item.Archive.{Archive as KeptArchive}
use Rattle.ow_row_text.specs.declared.item.Item.TheVariants.{Version, Archive, Count, Note, Row, Open, Done}
use Rattle.ow_row_text.specs.declared.item.Note.{Note as KeptNote}
use Rattle.ow_keep.specs.Allowed.{are_durations, confirmed, has_record, is_archive, is_called, is_confirmed, is_drawn, is_formed, is_moment, is_note, item_at}
use Rattle.ow_keep.specs.EntityIn.{entity_from}
use Rattle.ow_keep.specs.ItemIn.{archive_from, archive_with, as_utf8, count_with, deep_value_of, entity_of, entity_with, item_from, note_with, value_of}
use Rattle.ow_keep.specs.Judged.{gathered, judged, or_key, versioned}
use Rattle.ow_keep.specs.Kept.{MayStand}
use Rattle.ow_keep.specs.Known.{IsItem}
use Rattle.ow_keep.specs.Moments.{greatest_kept_moment, item_moment}
use Rattle.ow_keep.specs.OpenIn.{full_name_of, open_from}
use Rattle.ow_keep.specs.declared.allowed.TheConstants.{GREATEST_COUNT, GREATEST_MOMENT, LONGEST_NOTE_KEY}
use Rattle.ow_keep.proofs.Whole.{judged-sound}

-- a record ends no earlier than it starts
abbrev IsInOrder : Item → Type 0
IsInOrder (Version v) = Unit {0}
IsInOrder (Archive a) = Unit {0}
IsInOrder (Count namespace count) = Unit {0}
IsInOrder (Note n) = Unit {0}
IsInOrder (Row r) = Unit {0}
IsInOrder (Open u) = Unit {0}
IsInOrder (Done r) = r.span.start ≤ r.span.end

small_at : (moment : ℕ) → is_moment moment ≡ true → moment ≤ GREATEST_MOMENT
small_at moment e = grind (arith, nat_tests)

archive_small : (a : KeptArchive) → is_archive a ≡ true → a.last ≤ GREATEST_MOMENT
archive_small a e = small_at a.last (and_parts (is_moment a.last) (nat_le a.number GREATEST_COUNT && (nat_le 1 a.number || a.last == 0)) e).0

note_small : (n : KeptNote) → is_note n ≡ true → n.value ≤ GREATEST_MOMENT
note_small n e = small_at n.value (and_parts (is_moment n.value) (nat_le 1 (length n.key) && nat_le (length n.key) LONGEST_NOTE_KEY) e).0

item_small : (all : Entries) (i : Item) → MayStand all i → IsInOrder i → item_moment i ≤ GREATEST_MOMENT
item_small all (Version v) may order = omega arith
item_small all (Archive a) may order = archive_small a may.allowed
item_small all (Count namespace count) may order = omega arith
item_small all (Note n) may order = note_small n may.allowed
item_small all (Row r) may order = omega arith
item_small all (Open u) may order =
    let called = is_called u.cause u.version u.binding && is_formed u.form u.kind in
    small_at u.at (and_parts (is_moment u.at) called (and_parts (is_drawn all u.id && not (has_record all u.id)) (is_moment u.at && called) may.allowed).1).0
item_small all (Done r) may order =
    let end = small_at r.span.end (and_parts (is_moment r.span.end) (is_called r.cause r.version r.notes.binding && are_durations r.notes) (and_parts (is_drawn all r.id) (is_moment r.span.end && (is_called r.cause r.version r.notes.binding && are_durations r.notes)) may.allowed).1).0 in
    max-le (omega (arith, order, end)) end

items_small : (all : Entries) (is : List Item) → AllByRecursion (MayStand all) is → AllByRecursion IsInOrder is → greatest_kept_moment is ≤ GREATEST_MOMENT
items_small all [] each order = omega arith
items_small all (i ∷ is) each order = max-le (item_small all i each.0 order.0) (items_small all is each.1 order.1)

-- ---- of items that are known

known_order : (i : Item) → IsItem i → IsInOrder i
known_order (Version v) known = tt
known_order (Archive a) known = tt
known_order (Count namespace count) known = tt
known_order (Note n) known = tt
known_order (Row r) known = tt
known_order (Open u) known = tt
known_order (Done r) known = known.span.order

all_known : (is : List Item) → AllByRecursion IsItem is → AllByRecursion IsInOrder is
all_known [] known = tt
all_known (i ∷ is) known = (known_order i known.0, all_known is known.1)

pub moments_small : (all : Entries) (is : List Item) → AllByRecursion (MayStand all) is → AllByRecursion IsItem is → greatest_kept_moment is ≤ GREATEST_MOMENT
moments_small all is each known = items_small all is each (all_known is known)

-- ---- of items that rows are judged to be

abbrev MayOrder : Option Item → Type 0
MayOrder o = IfSome o IsInOrder

by_test : (b : Bool) (x y : Option Item) → MayOrder x → MayOrder y → MayOrder (cond b x y)
by_test true x y h k = h
by_test false x y h k = k

archives_order : (last number : Option ℕ) → MayOrder (archive_with last number)
archives_order None number = tt
archives_order (Some l) None = tt
archives_order (Some l) (Some n) = tt

archive_order : (o : Option V) → MayOrder (option_and_then archive_from o)
archive_order None = tt
archive_order (Some v) = archives_order (number_in (codes "last") v) (number_in (codes "number") v)

notes_order : (key : Option (List ℕ)) (value : Option ℕ) → MayOrder (note_with key value)
notes_order None value = tt
notes_order (Some k) None = tt
notes_order (Some k) (Some n) = tt

counts_order : (namespace count : Option ℕ) → MayOrder (count_with namespace count)
counts_order None count = tt
counts_order (Some n) None = tt
counts_order (Some n) (Some k) = tt

rows_order : (o : Option EntityRow) → MayOrder (option_map Row o)
rows_order None = tt
rows_order (Some r) = tt

entities_order : (kind : EntityKind) (name : Option FullName) (v : Option V) → MayOrder (entity_with kind name v)
entities_order kind None v = tt
entities_order kind (Some n) v = rows_order (option_and_then (entity_from kind n) v)

opens_order : (o : Option Unrecorded) → MayOrder (option_map Open o)
opens_order None = tt
opens_order (Some u) = tt

entity_order : (place s : List ℕ) → MayOrder (entity_of place s)
entity_order [] s = tt
entity_order (byte ∷ place) s =
    by_test (byte == 97) _ _ (entities_order kinds.Action (full_name_of (drop 5 place)) (value_of s))
    (by_test (byte == 112) _ _ (entities_order kinds.Package (full_name_of (drop 6 place)) (value_of s))
    (by_test (byte == 114) _ _ (entities_order kinds.Rule (full_name_of (drop 3 place)) (value_of s))
    (by_test (byte == 116) _ _ (entities_order kinds.Trigger (full_name_of (drop 6 place)) (value_of s)) tt)))

span_order : (start end : ℕ) (b : Bool) → nat_le start end ≡ b → IfSome (cond b (Some (record { start = start; end = end })) None) (λ (s : SpanView). s.start ≤ s.end)
span_order start end true e = grind (arith, nat_tests)
span_order start end false e = tt

spans_order : (start end : Option ℕ) → IfSome (span_with start end) (λ (s : SpanView). s.start ≤ s.end)
spans_order None end = tt
spans_order (Some start) None = tt
spans_order (Some start) (Some end) = span_order start end (nat_le start end) refl

-- of a record that is read of these fields
fields_order : (id : Option Id) (cause : Option (Option Id)) (span : Option SpanView) (version : Option ℕ) (name namespace subject : Option (List ℕ)) (notes : Option Notes) (logs : Option (List (List ℕ))) (response : Option ResponseView)
    → IfSome span (λ (s : SpanView). s.start ≤ s.end)
    → MayOrder (option_map Done (record_with (head_with id cause span version) (texts_with name namespace subject) (told_with notes logs response)))
fields_order None cause span version name namespace subject notes logs response order = tt
fields_order (Some i) None span version name namespace subject notes logs response order = tt
fields_order (Some i) (Some c) None version name namespace subject notes logs response order = tt
fields_order (Some i) (Some c) (Some s) None name namespace subject notes logs response order = tt
fields_order (Some i) (Some c) (Some s) (Some v) None namespace subject notes logs response order = tt
fields_order (Some i) (Some c) (Some s) (Some v) (Some n) None subject notes logs response order = tt
fields_order (Some i) (Some c) (Some s) (Some v) (Some n) (Some m) None notes logs response order = tt
fields_order (Some i) (Some c) (Some s) (Some v) (Some n) (Some m) (Some t) None logs response order = tt
fields_order (Some i) (Some c) (Some s) (Some v) (Some n) (Some m) (Some t) (Some a) None response order = tt
fields_order (Some i) (Some c) (Some s) (Some v) (Some n) (Some m) (Some t) (Some a) (Some l) None order = tt
fields_order (Some i) (Some c) (Some s) (Some v) (Some n) (Some m) (Some t) (Some a) (Some l) (Some r) order = order

records_order : (v : Option V) → MayOrder (option_map Done (option_and_then record_from v))
unfolding record_from
records_order None = tt
records_order (Some v) = fields_order
    (id_in (codes "activationId") v) (cause_in v) (span_in v) (version_in (codes "version") v)
    (name_in (codes "name") v) (name_in (codes "namespace") v) (text_in (codes "subject") v)
    (option_and_then as_notes (field (codes "annotations") v)) (option_and_then as_lines (field (codes "logs") v)) (option_and_then as_response (field (codes "response") v))
    (spans_order (number_in (codes "start") v) (number_in (codes "end") v))

item_order : (key s : List ℕ) → MayOrder (item_from key s)
item_order [] s = tt
item_order (byte ∷ key) s =
    by_test (byte == 97) _ _ (archive_order (value_of s))
    (by_test (byte == 99) _ _ (counts_order (hex_number (drop 5 key)) (digits_of s))
    (by_test (byte == 100) _ _ (records_order (deep_value_of s))
    (by_test (byte == 110) _ _ (notes_order (as_utf8 (drop 4 key)) (digits_of s))
    (by_test (byte == 111) _ _ (opens_order (option_and_then open_from (value_of s)))
    (by_test (byte == 114) _ _ (entity_order (drop 3 key) s)
    (by_test (byte == 118) _ _ tt tt))))))

confirmed_order : (all : Entries) (r : List ℕ × List ℕ) (o : Option Item) → MayOrder o → MayOrder (option_and_then (confirmed all r) o)
confirmed_order all r None order = tt
confirmed_order all r (Some i) order = by_test (is_confirmed all r i) (Some i) None order tt

at_order : (all : Entries) (r : List ℕ × List ℕ) → MayOrder (item_at all r)
unfolding item_at
at_order all r = confirmed_order all r (item_from r.0 r.1) (item_order r.0 r.1)

abbrev AreOrdered : Result (List Item) (List ℕ) → Type 0
AreOrdered r = IfOk r (AllByRecursion IsInOrder)

or_ordered : (key : List ℕ) (o : Option Item) (rest : Result (List Item) (List ℕ)) → MayOrder o → AreOrdered rest → AreOrdered (or_key key o rest)
or_ordered key None rest h k = tt
or_ordered key (Some i) (Ok is) h k = (h, k)
or_ordered key (Some i) (Err x) h k = tt

gathered_ordered : (all rows : Entries) → AreOrdered (gathered all rows)
gathered_ordered all [] = tt
gathered_ordered all (r ∷ rs) = or_ordered r.0 (item_at all r) (gathered all rs) (at_order all r) (gathered_ordered all rs)

ordered_if : (b : Bool) (is : List Item) (key : List ℕ) → AllByRecursion IsInOrder is → AreOrdered (cond b (Ok is) (Err key))
ordered_if true is key h = h
ordered_if false is key h = tt

versioned_ordered : (all : Entries) (r : Result (List Item) (List ℕ)) → AreOrdered r → AreOrdered (versioned all r)
versioned_ordered all (Err key) h = tt
versioned_ordered all (Ok is) h = ordered_if (is_some (text_of (codes "version") all)) is (codes "version") h

judged_ordered : (all : Entries) → AreOrdered (judged all)
judged_ordered [] = tt
judged_ordered (r ∷ rs) = versioned_ordered (r ∷ rs) (gathered (r ∷ rs) (r ∷ rs)) (gathered_ordered (r ∷ rs) (r ∷ rs))

pub judged_small : (all : Entries) (is : List Item) → judged all ≡ Ok is → greatest_kept_moment is ≤ GREATEST_MOMENT
judged_small all is e = items_small all is (judged-sound all is e).each (subst AreOrdered e (judged_ordered all))
