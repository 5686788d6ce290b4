-- The answer that the result of a web action is.
use Rattle.std.specs.Prelude.{ℕ, zero, pos, List, [], ◌∷◌, ◌++◌, Bool, true, false, not, ◌&&◌, ◌||◌, ◌==◌, nat_le, map, filter, codes, if◌then◌else◌, Option, Some, None, option_map, option_and_then, Result, Ok, Err, ok_or}
use Rattle.std.specs.List.{list_all}
use Rattle.std.specs.Option.{option_or}
use Rattle.httparse.specs.Grammar.{is_token}
use Rattle.ow_value.specs.Value.{V, Pairs, null, boolean, whole, text, list, object, Members, no_members, member, members_of}
use Rattle.ow_value.specs.Decimal.{if_within}
use Rattle.ow_value.specs.Field.{pairs_in}
use Rattle.ow_value.specs.Find.{find}
use Rattle.ow_value.specs.Text.{compact}
use Rattle.ow_records.specs.Response.{ResponseView}
use Rattle.ow_http.specs.declared.answer.Answer.{Answer}
use Rattle.ow_http.specs.Headers.{is_named, last_named}
use Rattle.ow_http.specs.Pair.{Pair}
use Rattle.ow_web.specs.declared.refusal.WebRefusal.{WebRefusal}
use Rattle.ow_web.specs.declared.refusal.WebRefusal.TheVariants.{BadWebResult}
use Rattle.ow_web.specs.declared.target.Extension.{Extension}
use Rattle.ow_web.specs.declared.target.Extension.TheVariants.{Json, Http, Text}
use Rattle.ow_web.specs.Shown.{shown_text, is_scalar}

-- the type, where it isn't that of JSON, which the writer of replies sets by itself
abbrev pub typed : Option (List ℕ) → List Pair
typed None = []
typed (Some kind) = (codes "Content-Type", kind) ∷ []

-- a whole result as JSON
abbrev pub json_answer : ℕ → Pairs → Answer
json_answer status result = record { status = status; headers = []; body = compact (object (members_of result)) }

-- ---- the extension `text`

abbrev pub plain_answer : List ℕ → Answer
plain_answer body = record { status = 200; headers = typed (Some (codes "text/plain")); body = body }

-- the member `text`, which is a text, a number or a boolean
abbrev pub text_answer : Option V → Option Answer
text_answer None = None
text_answer (Some v) = if is_scalar v then Some (plain_answer (shown_text v)) else None

-- ---- the extension `http`

-- null is no body
abbrev pub has_body : Option V → Bool
has_body None = false
has_body (Some null) = false
has_body (Some v) = true

abbrev pub body_of : Option V → List ℕ
body_of None = []
body_of (Some null) = []
body_of (Some v) = shown_text v

-- a text is HTML
abbrev pub body_type : Option V → Option (List ℕ)
body_type None = None
body_type (Some (text s)) = Some (codes "text/html")
body_type (Some v) = None

-- the member `statusCode`, from 200 to 599
abbrev pub status_of : Option V → Option V → Option ℕ
status_of None body = Some (if has_body body then 200 else 204)
status_of (Some (whole (pos n))) body = if_within 200 599 n
status_of (Some v) body = None

-- ASCII without control characters
abbrev pub is_printable : ℕ → Bool
is_printable b = nat_le 32 b && nat_le b 126

-- a name and a value that a reply may have as a header
abbrev pub is_header : Pair → Bool
is_header h = is_token h.0 && list_all is_printable h.1

abbrev pub as_header : List ℕ × V → Pair
as_header p = (p.0, shown_text p.1)

-- each value is a text, a number or a boolean, and each header may be sent
abbrev pub headers_in : Pairs → Option (List Pair)
headers_in ps = if list_all (λ p. is_scalar p.1) ps && list_all is_header (map as_header ps) then Some (map as_header ps) else None

-- the member `headers`, an object
abbrev pub headers_of : Option V → Option (List Pair)
headers_of None = Some []
headers_of (Some (object ps)) = headers_in (pairs_in ps)
headers_of (Some v) = None

-- the header says where the reply ends, which only the writer of replies does
abbrev pub is_framing : Pair → Bool
is_framing h = is_named (codes "content-length") h || (is_named (codes "transfer-encoding") h || is_named (codes "connection") h)

-- the type is sent separately
abbrev pub is_sent : Pair → Bool
is_sent h = not (is_framing h || is_named (codes "content-type") h)

-- the type that the last such header gives, or that of the body, and the other headers
abbrev pub sent_headers : Option (List ℕ) → List Pair → List Pair
sent_headers kind headers = typed (option_or (last_named (codes "content-type") headers) kind) ++ filter is_sent headers

abbrev pub made_answer : Option V → ℕ → List Pair → Answer
made_answer body status headers = record { status = status; headers = sent_headers (body_type body) headers; body = body_of body }

-- the members `statusCode`, `headers` and `body`
abbrev pub http_answer : Pairs → Option Answer
http_answer result =
    option_and_then (λ status.
    option_map (made_answer (find (codes "body") result) status) (headers_of (find (codes "headers") result)))
    (status_of (find (codes "statusCode") result) (find (codes "body") result))

-- ---- all of it

abbrev pub result_answer : Extension → Pairs → Option Answer
result_answer Json result = Some (json_answer 200 result)
result_answer Text result = text_answer (find (codes "text") result)
result_answer Http result = http_answer result

-- the answer to one who waited, unless the result of a success is no web response
abbrev pub web_out : Extension → ResponseView → Result Answer WebRefusal
web_out extension r = if r.code == 0 then ok_or (result_answer extension r.result) BadWebResult else Ok (json_answer 502 r.result)

-- `{"code":45,"error":TEXT,"result":RESULT}`
abbrev pub bad_result : Pairs → V
bad_result result = object (
    member (codes "code") (whole (pos 45)) (
    member (codes "error") (text (codes "The result is no web response.")) (
    member (codes "result") (object (members_of result)) no_members)))

abbrev pub or_bad_result : Pairs → Result Answer WebRefusal → Answer
or_bad_result result (Ok a) = a
or_bad_result result (Err e) = record { status = 502; headers = []; body = compact (bad_result result) }

-- what is sent to one who waited
abbrev pub sent_answer : Extension → ResponseView → Answer
sent_answer extension r = or_bad_result r.result (web_out extension r)
