-- The status of a rule: how it is written, and what a body says of it.
use Rattle.std.specs.Prelude.{ℕ, List, Bool, true, false, codes, if◌then◌else◌, Result, Ok, Err}
use Rattle.std.specs.Str.{bytes_eq}
use Rattle.ow_value.specs.Value.{V, object}
use Rattle.ow_entity.specs.Body.{text_field}
use Rattle.ow_entity.specs.Chain.{and_then}
use Rattle.ow_entity.specs.declared.field_name.FieldName.TheVariants as fields
use Rattle.ow_entity.specs.declared.refusal.EntityRefusal.{EntityRefusal}
use Rattle.ow_entity.specs.declared.refusal.EntityRefusal.TheVariants.{WrongType, OutOfRange}

-- whether a fire of the trigger invokes the action
abbrev pub status_text : Bool → List ℕ
status_text true = codes "active"
status_text false = codes "inactive"

abbrev pub status_of : List ℕ → Result Bool EntityRefusal
status_of s =
    if bytes_eq s (codes "active") then Ok true
    else if bytes_eq s (codes "inactive") then Ok false
    else Err (OutOfRange fields.Status)

-- the status that a body sets, which must be there
abbrev pub status_in : V → Result Bool EntityRefusal
status_in (object ps) = and_then (text_field fields.Status (object ps)) status_of
status_in v = Err (WrongType fields.Body)
