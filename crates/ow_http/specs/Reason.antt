-- What clients receive for each refusal: a status and a text.
use Rattle.std.specs.Prelude.{ℕ, List, ◌++◌, codes, decimal}
use Rattle.ow_value.specs.declared.reader.ValueRefusal.{ValueRefusal}
use Rattle.ow_value.specs.declared.reader.ValueRefusal.TheVariants as values
use Rattle.ow_names.specs.declared.refusal.NameRefusal.{NameRefusal}
use Rattle.ow_names.specs.declared.refusal.NameRefusal.TheVariants as names
use Rattle.ow_entity.specs.FieldName.{field_name}
use Rattle.ow_entity.specs.declared.field_name.FieldName.{FieldName}
use Rattle.ow_entity.specs.declared.refusal.EntityRefusal.{EntityRefusal}
use Rattle.ow_entity.specs.declared.refusal.EntityRefusal.TheVariants as entities
use Rattle.ow_http.specs.declared.call_refusal.CallRefusal.{CallRefusal}
use Rattle.ow_http.specs.declared.call_refusal.CallRefusal.TheVariants as calls
use Rattle.ow_http.specs.declared.http_refusal.HttpRefusal.{HttpRefusal}
use Rattle.ow_http.specs.declared.http_refusal.HttpRefusal.TheVariants as https
use Rattle.ow_http.specs.declared.reason.Reason.{Reason}
use Rattle.ow_http.specs.declared.reason.Reason.TheVariants as reasons
use Rattle.ow_http.specs.declared.service_refusal.ServiceRefusal.{ServiceRefusal}
use Rattle.ow_http.specs.declared.service_refusal.ServiceRefusal.TheVariants.{NotFound, BindsABinding, Exists, SequenceTooLong, SequenceLoops, NotEmpty, UnknownKey, NotGranted, MinuteLimit, ConcurrentLimit, FireLimit, StoreFault, Draining, BookFull, KeptFull, NotExported, BadExtension, NeedsAuth, NotText, OfficeBusy}
use Rattle.ow_http.specs.declared.notice.Notice.{Notice}

abbrev pub row : ℕ → List ℕ → Notice
row status words = record { status = status; text = words }

abbrev pub no_memory : Notice
no_memory = row 500 (codes "No memory.")

-- bytes that are no request
unfoldable pub http_notice : HttpRefusal → Notice
http_notice https.NoMemory = no_memory
http_notice https.BadHead = row 400 (codes "The request head is malformed.")
http_notice https.NoRoute = row 404 (codes "There is no such route.")
http_notice https.BadMethod = row 405 (codes "The method is not allowed.")
http_notice https.BodyTooLarge = row 413 (codes "The body has too many bytes.")
http_notice https.CutShort = row 400 (codes "The request is cut short.")

-- bytes that are no name
unfoldable pub name_notice : NameRefusal → Notice
name_notice names.NoMemory = no_memory
name_notice names.Empty = row 400 (codes "A name is empty.")
name_notice names.TooLong = row 400 (codes "A name has more than 256 bytes.")
name_notice (names.BadChar place) = row 400 (codes "A name has a wrong byte at " ++ decimal place ++ codes ".")
name_notice names.EndsInSpace = row 400 (codes "A name ends in a space.")
name_notice names.BadPath = row 400 (codes "The path names no entity.")

-- a text that is no value
unfoldable pub value_notice : ValueRefusal → Notice
value_notice values.NoMemory = no_memory
value_notice values.NotJson = row 400 (codes "The text is no JSON.")
value_notice values.NotWhole = row 400 (codes "A number is not a whole number of 64 bits.")
value_notice values.TooDeep = row 400 (codes "The value is nested deeper than 100.")

abbrev pub field_row : FieldName → List ℕ → Notice
field_row name words = row 400 (codes "The field " ++ field_name name ++ words)

-- a body that gives no entity
unfoldable pub entity_notice : EntityRefusal → Notice
entity_notice entities.NoMemory = no_memory
entity_notice (entities.MissingField name) = field_row name (codes " is missing.")
entity_notice (entities.WrongType name) = field_row name (codes " has a wrong type.")
entity_notice (entities.OutOfRange name) = field_row name (codes " is out of range.")
entity_notice entities.UnknownKind = row 400 (codes "The kind is unknown.")
entity_notice entities.TooLarge = row 413 (codes "The value has too many bytes.")
entity_notice (entities.BadName e) = name_notice e
entity_notice entities.LastVersion = row 400 (codes "The version cannot be raised.")

-- a request that is no call
unfoldable pub call_notice : CallRefusal → Notice
call_notice calls.NoMemory = no_memory
call_notice (calls.BadQuery name) = row 400 (codes "The query value " ++ name ++ codes " is wrong.")
call_notice (calls.BadName e) = name_notice e
call_notice (calls.BadValue e) = value_notice e
call_notice (calls.BadEntity e) = entity_notice e

abbrev pub limit_row : List ℕ → ℕ → ℕ → Notice
limit_row words count allowed = row 429 (words ++ decimal count ++ codes " of " ++ decimal allowed ++ codes ".")

-- what the service refuses
unfoldable pub service_notice : ServiceRefusal → Notice
service_notice NotFound = row 404 (codes "The resource does not exist.")
service_notice BindsABinding = row 400 (codes "The package is a binding.")
service_notice Exists = row 409 (codes "The resource exists.")
service_notice SequenceTooLong = row 400 (codes "The sequence has more than 50 actions.")
service_notice SequenceLoops = row 400 (codes "The sequence contains itself.")
service_notice NotEmpty = row 409 (codes "The package holds actions.")
service_notice UnknownKey = row 401 (codes "The key is unknown.")
service_notice NotGranted = row 403 (codes "The namespace is not granted.")
service_notice (MinuteLimit count allowed) = limit_row (codes "Too many invocations in the last minute: ") count allowed
service_notice (ConcurrentLimit count allowed) = limit_row (codes "Too many concurrent activations: ") count allowed
service_notice (FireLimit count allowed) = limit_row (codes "Too many fires in the last minute: ") count allowed
service_notice StoreFault = row 503 (codes "The store failed.")
service_notice Draining = row 503 (codes "The office is draining.")
service_notice BookFull = row 503 (codes "The book is full.")
service_notice KeptFull = row 503 (codes "The store is full.")
service_notice NotExported = row 404 (codes "The resource does not exist.")
service_notice BadExtension = row 400 (codes "The extension is unknown.")
service_notice NeedsAuth = row 401 (codes "Authentication is needed.")
service_notice NotText = row 400 (codes "The field __ow_body has a wrong type.")
service_notice OfficeBusy = row 503 (codes "The office is busy.")

-- what clients receive for a reason
unfoldable pub notice_of : Reason → Notice
notice_of (reasons.Http e) = http_notice e
notice_of (reasons.Call e) = call_notice e
notice_of (reasons.Service e) = service_notice e
notice_of (reasons.Fixed name) = row 400 (codes "The parameter " ++ name ++ codes " is fixed.")
notice_of (reasons.Reserved name) = row 400 (codes "The parameter " ++ name ++ codes " is reserved.")

-- the text of a refusal
abbrev pub text_of : Reason → List ℕ
text_of r = (notice_of r).text
