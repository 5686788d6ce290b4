-- The numbers of refusals, and what the service answers for each.
use Rattle.std.specs.Prelude.{ℕ}
use Rattle.ow_value.specs.Refusal as values
use Rattle.ow_entity.specs.declared.field_name.FieldName.TheVariants as fields
use Rattle.ow_entity.specs.declared.refusal.EntityRefusal.TheVariants.{WrongType}
use Rattle.ow_http.specs.declared.call_refusal.CallRefusal.TheVariants as calls
use Rattle.ow_http.specs.declared.reason.Reason.{Reason}
use Rattle.ow_http.specs.declared.reason.Reason.TheVariants as reasons
use Rattle.ow_http.specs.declared.service_refusal.ServiceRefusal.TheVariants as services
use Rattle.ow_web.specs.declared.refusal.WebRefusal.{WebRefusal}
use Rattle.ow_web.specs.declared.refusal.WebRefusal.TheVariants.{NotExported, BadExtension, NeedsAuth, BadValue, NoObject, NoText, Reserved, BadWebResult, NoMemory}

abbrev pub web_number : WebRefusal → ℕ
web_number NoMemory = 0
web_number NotExported = 41
web_number BadExtension = 42
web_number NeedsAuth = 44
web_number (BadValue e) = values.refusal_number e
web_number NoObject = 10
web_number NoText = 10
web_number (Reserved name) = 43
web_number BadWebResult = 45

-- the reason that clients receive. Only a result is refused by `BadWebResult`, which `web_answer` reports
abbrev pub web_reason : WebRefusal → Reason
web_reason NoMemory = reasons.Call calls.NoMemory
web_reason NotExported = reasons.Service services.NotExported
web_reason BadExtension = reasons.Service services.BadExtension
web_reason NeedsAuth = reasons.Service services.NeedsAuth
web_reason (BadValue e) = reasons.Call (calls.BadValue e)
web_reason NoObject = reasons.Call (calls.BadEntity (WrongType fields.Body))
web_reason NoText = reasons.Service services.NotText
web_reason (Reserved name) = reasons.Reserved name
web_reason BadWebResult = reasons.Call calls.NoMemory
