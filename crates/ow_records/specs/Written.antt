-- How records are shown.
use Rattle.std.specs.Prelude.{ℕ, zero, suc, pos, ◌-◌, ◌==◌, List, [], ◌∷◌, codes, map, Option, Some, None}
use Rattle.ow_value.specs.Value.{V, Pairs, boolean, whole, text, list, object, items_of, members_of}
use Rattle.ow_entity.specs.Written.{shown_version}
use Rattle.ow_records.specs.declared.ids.Id.{Id}
use Rattle.ow_records.specs.declared.record.Record.{Record}
use Rattle.ow_records.specs.Id.{id_text}
use Rattle.ow_records.specs.Response.{ResponseView}
use Rattle.ow_records.specs.WrittenNotes.{notes_value}

-- what a code is called
abbrev pub status_text : ℕ → List ℕ
status_text zero = codes "success"
status_text (suc zero) = codes "application error"
status_text (suc (suc zero)) = codes "action developer error"
status_text (suc (suc (suc n))) = codes "whisk internal error"

abbrev pub response_value : ResponseView → V
response_value r = object (members_of (
    (codes "result", object (members_of r.result))
    ∷ (codes "status", text (status_text r.code))
    ∷ (codes "statusCode", whole (pos r.code))
    ∷ (codes "success", boolean (r.code == 0))
    ∷ []))

abbrev pub lines_value : List (List ℕ) → V
lines_value lines = list (items_of (map text lines))

abbrev pub logs_value : Record → V
logs_value r = object (members_of ((codes "logs", lines_value r.logs) ∷ []))

-- the cause, if there is one, before these
abbrev pub cause_members : Option Id → Pairs → Pairs
cause_members None members = members
cause_members (Some cause) members = (codes "cause", text (id_text cause)) ∷ members

abbrev pub record_members : Option Id → Record → Pairs
record_members cause r =
    (codes "activationId", text (id_text r.id))
    ∷ (codes "annotations", notes_value r.notes)
    ∷ cause_members cause (
    (codes "duration", whole (pos (r.span.end - r.span.start)))
    ∷ (codes "end", whole (pos r.span.end))
    ∷ (codes "logs", lines_value r.logs)
    ∷ (codes "name", text r.name)
    ∷ (codes "namespace", text r.namespace)
    ∷ (codes "response", response_value r.response)
    ∷ (codes "start", whole (pos r.span.start))
    ∷ (codes "subject", text r.subject)
    ∷ (codes "version", text (shown_version r.version))
    ∷ [])

abbrev pub record_value : Record → V
record_value r = object (members_of (record_members r.cause r))

-- one entry of a list of activations
abbrev pub summary_value : Record → V
summary_value r = object (members_of (
    (codes "activationId", text (id_text r.id))
    ∷ (codes "duration", whole (pos (r.span.end - r.span.start)))
    ∷ (codes "end", whole (pos r.span.end))
    ∷ (codes "name", text r.name)
    ∷ (codes "namespace", text r.namespace)
    ∷ (codes "start", whole (pos r.span.start))
    ∷ (codes "statusCode", whole (pos r.response.code))
    ∷ (codes "version", text (shown_version r.version))
    ∷ []))
