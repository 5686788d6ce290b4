-- By what number clients know each refusal.
use Rattle.std.specs.Prelude.{ℕ}
use Rattle.ow_value.specs.Refusal as values
use Rattle.ow_names.specs.Refusal as names
use Rattle.ow_entity.specs.Refusal as entities
use Rattle.ow_http.specs.declared.call_refusal.CallRefusal.{CallRefusal}
use Rattle.ow_http.specs.declared.call_refusal.CallRefusal.TheVariants as calls
use Rattle.ow_http.specs.declared.http_refusal.HttpRefusal.{HttpRefusal}
use Rattle.ow_http.specs.declared.http_refusal.HttpRefusal.TheVariants as https
use Rattle.ow_http.specs.declared.reason.Reason.{Reason}
use Rattle.ow_http.specs.declared.reason.Reason.TheVariants as reasons
use Rattle.ow_http.specs.declared.service_refusal.ServiceRefusal.{ServiceRefusal}
use Rattle.ow_http.specs.declared.service_refusal.ServiceRefusal.TheVariants.{NotFound, BindsABinding, Exists, SequenceTooLong, SequenceLoops, NotEmpty, UnknownKey, NotGranted, MinuteLimit, ConcurrentLimit, FireLimit, StoreFault, Draining, BookFull, KeptFull, NotExported, BadExtension, NeedsAuth, NotText, OfficeBusy}

abbrev pub http_number : HttpRefusal → ℕ
http_number https.NoMemory = 0
http_number https.BadHead = 35
http_number https.NoRoute = 36
http_number https.BadMethod = 37
http_number https.BodyTooLarge = 38
http_number https.CutShort = 40

abbrev pub call_number : CallRefusal → ℕ
call_number calls.NoMemory = 0
call_number (calls.BadQuery name) = 39
call_number (calls.BadName e) = names.refusal_number e
call_number (calls.BadValue e) = values.refusal_number e
call_number (calls.BadEntity e) = entities.refusal_number e

abbrev pub service_number : ServiceRefusal → ℕ
service_number NotFound = 14
service_number BindsABinding = 15
service_number Exists = 17
service_number SequenceTooLong = 19
service_number SequenceLoops = 20
service_number NotEmpty = 21
service_number UnknownKey = 23
service_number NotGranted = 24
service_number (MinuteLimit count allowed) = 25
service_number (ConcurrentLimit count allowed) = 26
service_number (FireLimit count allowed) = 27
service_number StoreFault = 31
service_number Draining = 32
service_number BookFull = 33
service_number KeptFull = 34
service_number NotExported = 41
service_number BadExtension = 42
service_number NeedsAuth = 44
service_number NotText = 10
service_number OfficeBusy = 46

abbrev pub number_of : Reason → ℕ
number_of (reasons.Http e) = http_number e
number_of (reasons.Call e) = call_number e
number_of (reasons.Service e) = service_number e
number_of (reasons.Fixed name) = 16
number_of (reasons.Reserved name) = 43
