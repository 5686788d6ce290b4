-- What the words of a call of the day result in: their first refusal, or the action and its parameters.
use Rattle.std.specs.Prelude.{ℕ, Bool, List, Option, Some, None, Result, Ok, Err, if◌then◌else◌}
use Rattle.percent_encoding.specs.Percent.{percent_decode}
use Rattle.ow_value.specs.Value.{V, Pairs}
use Rattle.ow_value.specs.Read.{reading}
use Rattle.ow_value.specs.declared.reader.ValueRefusal.{ValueRefusal}
use Rattle.ow_names.specs.Path.{of_full_text}
use Rattle.ow_names.specs.declared.full.FullName.{FullName}
use Rattle.ow_names.specs.declared.refusal.NameRefusal.{NameRefusal}
use Rattle.ow_entity.specs.declared.field_name.FieldName.TheVariants.{Body}
use Rattle.ow_entity.specs.declared.refusal.EntityRefusal.TheVariants.{WrongType}
use Rattle.ow_records.specs.FieldsIn.{as_object}
use Rattle.ow_http.specs.declared.call_refusal.CallRefusal.TheVariants.{BadName, BadValue, BadEntity}
use Rattle.ow_http.specs.declared.reason.Reason.{Reason}
use Rattle.ow_http.specs.declared.reason.Reason.TheVariants as reasons
use Rattle.ow_http.specs.declared.service_refusal.ServiceRefusal.TheVariants.{BookFull}
use Rattle.ow_day.specs.declared.call_words.CallWords.{CallWords}
use Rattle.ow_day.specs.declared.call_words.CallWords.TheVariants.{Refused, Calls}

-- ---- NAME

-- the percent-encoded full text of a name, whose namespace is taken as it is
unfoldable pub full_name : List ℕ → Result FullName NameRefusal
full_name name = of_full_text (percent_decode name)

-- ---- TEXT

abbrev pub or_wrong : Option Pairs → Result Pairs Reason
or_wrong (Some params) = Ok params
or_wrong None = Err (reasons.Call (BadEntity (WrongType Body)))

-- the parameters that a value is
abbrev pub params_in : Result V ValueRefusal → Result Pairs Reason
params_in (Ok v) = or_wrong (as_object v)
params_in (Err e) = Err (reasons.Call (BadValue e))

-- ---- the call

abbrev pub with_params : FullName → Result Pairs Reason → CallWords
with_params name (Ok params) = Calls name params
with_params name (Err reason) = Refused reason

abbrev pub with_name : List ℕ → Result FullName NameRefusal → CallWords
with_name text (Ok name) = with_params name (params_in (reading 100 text))
with_name text (Err e) = Refused (reasons.Call (BadName e))

-- the book has room for it, then its name, and then its text
abbrev pub called : Bool → List ℕ → List ℕ → CallWords
called full name text = if full then Refused (reasons.Service BookFull) else with_name text (full_name name)
