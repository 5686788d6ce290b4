-- The activation that a value is read as, which has not ended. Reading is lenient: the activation may be written otherwise.
use Rattle.std.specs.Prelude.{ℕ, List, codes, option_map, option_and_then, Option, Some, None}
use Rattle.ow_value.specs.Value.{V}
use Rattle.ow_value.specs.Field.{field}
use Rattle.ow_names.specs.Path.{of_full_text}
use Rattle.ow_names.specs.declared.full.FullName.{FullName}
use Rattle.ow_entity.specs.declared.bounds.Limits.{Limits}
use Rattle.std.specs.Result.{result_ok}
use Rattle.ow_records.specs.FieldsIn.{as_text, cause_in, id_in, name_in, number_in, path_in, text_in, version_in}
use Rattle.ow_records.specs.Form.{as_form}
use Rattle.ow_records.specs.NotesIn.{as_kind, as_limits}
use Rattle.ow_records.specs.declared.forms.Form.{Form}
use Rattle.ow_records.specs.declared.ids.Id.{Id}
use Rattle.ow_records.specs.declared.notes.ExecKind.{ExecKind}
use Rattle.ow_records.specs.declared.unrecorded.Unrecorded.{Unrecorded}

abbrev pub full_name_of : List ℕ → Option FullName
full_name_of s = result_ok (of_full_text s)

abbrev pub as_full_name : V → Option FullName
as_full_name v = option_and_then full_name_of (as_text v)

abbrev pub binding_given : Option V → Option (Option FullName)
binding_given None = Some None
binding_given (Some v) = option_map Some (as_full_name v)

-- a full name, or that none is there
abbrev pub binding_in : V → Option (Option FullName)
binding_in v = binding_given (field (codes "binding") v)

abbrev pub open_with : Option Id → Option ℕ → Option (Option FullName) → Option (Option Id) → Option Form → Option ExecKind → Option Limits → Option (List ℕ) → Option FullName → Option (List ℕ) → Option ℕ → Option Unrecorded
open_with id at bound cause form kind limits namespace path subject version =
    option_and_then (λ i.
    option_and_then (λ t.
    option_and_then (λ b.
    option_and_then (λ c.
    option_and_then (λ f.
    option_and_then (λ k.
    option_and_then (λ l.
    option_and_then (λ n.
    option_and_then (λ p.
    option_and_then (λ s.
    option_map (λ v. record { id = i; at = t; binding = b; cause = c; form = f; kind = k; limits = l; namespace = n; path = p; subject = s; version = v }) version)
    subject) path) namespace) limits) kind) form) cause) bound) at) id

unfoldable pub open_from : V → Option Unrecorded
open_from v = open_with
    (id_in (codes "activationId") v)
    (number_in (codes "at") v)
    (binding_in v)
    (cause_in v)
    (option_and_then as_form (field (codes "form") v))
    (option_and_then as_kind (field (codes "kind") v))
    (option_and_then as_limits (field (codes "limits") v))
    (name_in (codes "namespace") v)
    (path_in (codes "path") v)
    (text_in (codes "subject") v)
    (version_in (codes "version") v)
