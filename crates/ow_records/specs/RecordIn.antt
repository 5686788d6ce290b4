-- The record that a value is.
use Rattle.std.specs.Prelude.{ℕ, Bool, List, codes, nat_le, if◌then◌else◌, option_map, option_and_then, Option, Some, None}
use Rattle.ow_value.specs.Value.{V, Pairs}
use Rattle.ow_value.specs.Field.{field}
use Rattle.ow_value.specs.SameValue.{same_value}
use Rattle.ow_records.specs.FieldsIn.{as_lines, as_object, cause_in, id_in, name_in, number_in, text_in, version_in}
use Rattle.ow_records.specs.NotesIn.{as_notes}
use Rattle.ow_records.specs.Response.{ResponseView}
use Rattle.ow_records.specs.Span.{SpanView}
use Rattle.ow_records.specs.Written.{record_value}
use Rattle.ow_records.specs.declared.ids.Id.{Id}
use Rattle.ow_records.specs.declared.notes.Notes.{Notes}
use Rattle.ow_records.specs.declared.record.Record.{Record}
use Rattle.ow_records.specs.declared.record_in.Head.{Head}
use Rattle.ow_records.specs.declared.record_in.Texts.{Texts}
use Rattle.ow_records.specs.declared.record_in.Told.{Told}

abbrev pub code_with : Pairs → ℕ → Option ResponseView
code_with result code = if nat_le code 3 then Some (record { code = code; result = result }) else None

abbrev pub response_with : Option Pairs → Option ℕ → Option ResponseView
response_with result code = option_and_then (λ ps. option_and_then (code_with ps) code) result

abbrev pub as_response : V → Option ResponseView
as_response v = response_with (option_and_then as_object (field (codes "result") v)) (number_in (codes "statusCode") v)

abbrev pub span_between : ℕ → ℕ → Option SpanView
span_between start end = if nat_le start end then Some (record { start = start; end = end }) else None

abbrev pub span_with : Option ℕ → Option ℕ → Option SpanView
span_with start end = option_and_then (λ s. option_and_then (span_between s) end) start

abbrev pub span_in : V → Option SpanView
span_in v = span_with (number_in (codes "start") v) (number_in (codes "end") v)

-- ---- the fields

abbrev pub head_with : Option Id → Option (Option Id) → Option SpanView → Option ℕ → Option Head
head_with id cause span version =
    option_and_then (λ i. option_and_then (λ c. option_and_then (λ s. option_map (λ v. record { id = i; cause = c; span = s; version = v }) version) span) cause) id

abbrev pub head_in : V → Option Head
head_in v = head_with (id_in (codes "activationId") v) (cause_in v) (span_in v) (version_in (codes "version") v)

abbrev pub texts_with : Option (List ℕ) → Option (List ℕ) → Option (List ℕ) → Option Texts
texts_with name namespace subject =
    option_and_then (λ n. option_and_then (λ ns. option_map (λ s. record { name = n; namespace = ns; subject = s }) subject) namespace) name

abbrev pub texts_in : V → Option Texts
texts_in v = texts_with (name_in (codes "name") v) (name_in (codes "namespace") v) (text_in (codes "subject") v)

abbrev pub told_with : Option Notes → Option (List (List ℕ)) → Option ResponseView → Option Told
told_with notes logs response =
    option_and_then (λ n. option_and_then (λ l. option_map (λ r. record { notes = n; logs = l; response = r }) response) logs) notes

abbrev pub told_in : V → Option Told
told_in v = told_with
    (option_and_then as_notes (field (codes "annotations") v))
    (option_and_then as_lines (field (codes "logs") v))
    (option_and_then as_response (field (codes "response") v))

abbrev pub joined : Head → Texts → Told → Record
joined h t d = record {
  id = h.id;
  name = t.name;
  namespace = t.namespace;
  subject = t.subject;
  version = h.version;
  cause = h.cause;
  span = h.span;
  notes = d.notes;
  logs = d.logs;
  response = d.response;
}

abbrev pub record_with : Option Head → Option Texts → Option Told → Option Record
record_with head texts told = option_and_then (λ h. option_and_then (λ t. option_map (joined h t) told) texts) head

-- what is read of the fields of a value; it may be written otherwise
unfoldable pub record_from : V → Option Record
record_from v = record_with (head_in v) (texts_in v) (told_in v)

-- whether the record is written as the value
unfoldable pub is_written_as : Record → V → Bool
is_written_as r v = same_value (record_value r) v

-- the record, where it is written as the value
abbrev pub confirmed : V → Record → Option Record
confirmed v r = if is_written_as r v then Some r else None

-- the record that is written as the value
unfoldable pub record_in : V → Option Record
record_in v = option_and_then (confirmed v) (record_from v)
