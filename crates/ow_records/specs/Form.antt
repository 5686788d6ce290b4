-- The kinds of activations: what runs code, and what calls other activations.
use Rattle.std.specs.Prelude.{ℕ, Bool, true, false, List, codes, if◌then◌else◌, option_and_then, Option, Some, None}
use Rattle.std.specs.Str.{bytes_eq}
use Rattle.ow_value.specs.Value.{V}
use Rattle.ow_records.specs.FieldsIn.{as_text}
use Rattle.ow_records.specs.declared.forms.Form.{Form}
use Rattle.ow_records.specs.declared.forms.Form.TheVariants.{Leaf, Sequence, Conductor}
use Rattle.ow_records.specs.declared.ids.Id.{Id}

-- a sequence or a conductor, which calls other activations
abbrev pub is_composite : Form → Bool
is_composite Leaf = false
is_composite Sequence = true
is_composite Conductor = true

-- a composite that no other activation caused
abbrev pub is_topmost : Form → Option Id → Bool
is_topmost form None = is_composite form
is_topmost form (Some cause) = false

abbrev pub form_text : Form → List ℕ
form_text Leaf = codes "leaf"
form_text Sequence = codes "sequence"
form_text Conductor = codes "conductor"

-- ---- the same way back

abbrev pub form_named : List ℕ → Option Form
form_named s =
    if bytes_eq s (codes "leaf") then Some Leaf
    else if bytes_eq s (codes "sequence") then Some Sequence
    else if bytes_eq s (codes "conductor") then Some Conductor
    else None

abbrev pub as_form : V → Option Form
as_form v = option_and_then form_named (as_text v)
