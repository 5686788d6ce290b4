-- The tokens of parts of rows. For private clauses.
use Rattle.std.specs.Prelude.{ℕ, pos, ◌-◌, ◌==◌, List, [], ◌∷◌, ◌++◌, codes, Option, Some, None}
use Rattle.json.specs.Token.{Token, key}
use Rattle.ow_value.specs.Value.{V, Pairs, boolean, whole, text}
use Rattle.ow_value.specs.Text.{value_tokens}
use Rattle.ow_entity.specs.Written.{limits_value, shown_version}
use Rattle.ow_names.specs.FullName.{full_text}
use Rattle.ow_names.specs.declared.full.FullName.{FullName}
use Rattle.ow_records.specs.Form.{form_text}
use Rattle.ow_records.specs.Id.{id_text}
use Rattle.ow_records.specs.Notes.{kind_text}
use Rattle.ow_records.specs.Written.{cause_members, lines_value, response_value, status_text}
use Rattle.ow_records.specs.WrittenNotes.{notes_value, path_text}
use Rattle.ow_records.specs.declared.ids.Id.{Id}
use Rattle.ow_records.specs.declared.record.Record.{Record}
use Rattle.ow_records.specs.declared.unrecorded.Unrecorded.{Unrecorded}
use Rattle.ow_row_text.specs.Item.{binding_members}

-- the tokens of values one after the other
abbrev pub values_tokens : List V → List Token
values_tokens [] = []
values_tokens (v ∷ vs) = value_tokens v ++ values_tokens vs

abbrev pub cause_tokens : Option Id → List Token
cause_tokens None = []
cause_tokens (Some cause) = key (codes "cause") ∷ value_tokens (text (id_text cause))

abbrev pub binding_tokens : Option FullName → List Token
binding_tokens None = []
binding_tokens (Some bound) = key (codes "binding") ∷ value_tokens (text (full_text bound))

-- ---- the members of a record, from one of them on

abbrev pub from_start : Record → Pairs
from_start r =
    (codes "start", whole (pos r.span.start))
    ∷ (codes "subject", text r.subject)
    ∷ (codes "version", text (shown_version r.version))
    ∷ []

abbrev pub from_logs : Record → Pairs
from_logs r =
    (codes "logs", lines_value r.logs)
    ∷ (codes "name", text r.name)
    ∷ (codes "namespace", text r.namespace)
    ∷ (codes "response", response_value r.response)
    ∷ from_start r

abbrev pub from_duration : Record → Pairs
from_duration r = (codes "duration", whole (pos (r.span.end - r.span.start))) ∷ (codes "end", whole (pos r.span.end)) ∷ from_logs r

abbrev pub from_notes : Record → Pairs
from_notes r = (codes "annotations", notes_value r.notes) ∷ cause_members r.cause (from_duration r)

-- ---- the members of an activation that has not ended, from one of them on

abbrev pub from_subject : Unrecorded → Pairs
from_subject u = (codes "subject", text u.subject) ∷ (codes "version", text (shown_version u.version)) ∷ []

abbrev pub from_path : Unrecorded → Pairs
from_path u = (codes "path", text (path_text u.path)) ∷ from_subject u

abbrev pub from_limits : Unrecorded → Pairs
from_limits u = (codes "limits", limits_value u.limits) ∷ (codes "namespace", text u.namespace) ∷ from_path u

abbrev pub from_form : Unrecorded → Pairs
from_form u = (codes "form", text (form_text u.form)) ∷ (codes "kind", text (kind_text u.kind)) ∷ from_limits u

abbrev pub from_cause : Unrecorded → Pairs
from_cause u = cause_members u.cause (from_form u)

abbrev pub from_at : Unrecorded → Pairs
from_at u = (codes "at", whole (pos u.at)) ∷ binding_members u.binding (from_cause u)

-- ---- the members of a response, from its status on

abbrev pub from_status : ℕ → Pairs
from_status code = (codes "status", text (status_text code)) ∷ (codes "statusCode", whole (pos code)) ∷ (codes "success", boolean (code == 0)) ∷ []
