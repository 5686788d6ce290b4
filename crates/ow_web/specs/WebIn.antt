-- The parameters that a request gives a web action, or its first refusal.
use Rattle.std.specs.Prelude.{ℕ, zero, pos, List, [], ◌∷◌, Bool, true, false, not, ◌||◌, is_some, codes, if◌then◌else◌, Option, Some, None, Result, Ok, Err}
use Rattle.std.specs.Str.{bytes_eq, is_utf8}
use Rattle.ow_value.specs.Value.{V, Pairs, null, boolean, whole, text, list, object, members_of}
use Rattle.ow_value.specs.Field.{pairs_in}
use Rattle.ow_value.specs.Find.{find, merge}
use Rattle.ow_value.specs.Nesting.{most_nested}
use Rattle.ow_value.specs.Read.{reading}
use Rattle.ow_value.specs.Text.{compact}
use Rattle.ow_value.specs.declared.reader.ValueRefusal.{ValueRefusal}
use Rattle.ow_entity.specs.Annotations.{is_set}
use Rattle.ow_packages.specs.declared.effective_action.Effective.{Effective}
use Rattle.ow_http.specs.declared.route.Route.{Route}
use Rattle.ow_http.specs.declared.route.Route.TheVariants as route
use Rattle.ow_http.specs.declared.verb.Verb.{Verb}
use Rattle.ow_http.specs.declared.verb.Verb.TheVariants.{Get, Put, Post, Delete, Patch, Options}
use Rattle.ow_http.specs.Headers.{last_named}
use Rattle.ow_http.specs.Pair.{Pair}
use Rattle.ow_http.specs.Parts.{Parts}
use Rattle.ow_http.specs.Query.{pairs_of}
use Rattle.ow_http.specs.Steps.{◌>>=◌}
use Rattle.ow_web.specs.declared.media.Media.{Media}
use Rattle.ow_web.specs.declared.media.Media.TheVariants as media
use Rattle.ow_web.specs.declared.refusal.WebRefusal.{WebRefusal}
use Rattle.ow_web.specs.declared.refusal.WebRefusal.TheVariants.{NotExported, BadExtension, NeedsAuth, BadValue, NoObject, NoText}
use Rattle.ow_web.specs.Media.{media_of}
use Rattle.ow_web.specs.Params.{texts_of, seen_headers, unreserved}
use Rattle.ow_web.specs.Target.{extension_of}

-- ---- whether the action is called at all

abbrev pub checked : Bool → WebRefusal → Result (Unit {0}) WebRefusal
checked true e = Ok tt
checked false e = Err e

-- a header has the text that is demanded
abbrev pub is_told : List ℕ → Option (List ℕ) → Bool
is_told demand None = false
is_told demand (Some value) = bytes_eq value demand

-- the annotation `require-whisk-auth` demands a known key, or its own text as the last value of `X-Require-Whisk-Auth`
abbrev pub is_let_in : Option V → List Pair → Bool → Bool
is_let_in None headers known = true
is_let_in (Some null) headers known = true
is_let_in (Some (boolean b)) headers known = not b || known
is_let_in (Some (whole (pos zero))) headers known = true
is_let_in (Some (whole z)) headers known = is_told (compact (whole z)) (last_named (codes "x-require-whisk-auth") headers)
is_let_in (Some (text s)) headers known = is_told s (last_named (codes "x-require-whisk-auth") headers)
is_let_in (Some (list vs)) headers known = true
is_let_in (Some (object ps)) headers known = true

-- ---- the body

-- the body as a text
abbrev pub text_of : List ℕ → Result (List ℕ) WebRefusal
text_of body = if is_utf8 body then Ok body else Err NoText

abbrev pub members_in : V → Result Pairs WebRefusal
members_in null = Err NoObject
members_in (boolean b) = Err NoObject
members_in (whole z) = Err NoObject
members_in (text s) = Err NoObject
members_in (list vs) = Err NoObject
members_in (object ps) = Ok (pairs_in ps)

abbrev pub members_read : Result V ValueRefusal → Result Pairs WebRefusal
members_read (Ok v) = members_in v
members_read (Err e) = Err (BadValue e)

-- the members of the object that the body is
abbrev pub object_of : List ℕ → Result Pairs WebRefusal
object_of body = members_read (reading most_nested body)

-- the parameter that a body is which is neither a form nor JSON
abbrev pub body_param : List ℕ → Pairs
body_param body = (codes "__ow_body", text body) ∷ []

-- the query's parameters, overlaid with the body's
abbrev pub given_by : Media → Pairs → List ℕ → Result Pairs WebRefusal
given_by media.Form query body = unreserved (merge query (texts_of (pairs_of body)))
given_by media.Json query body = do
  body ← object_of body
  unreserved (merge query body)
given_by media.Other query body = do
  body ← text_of body
  given ← unreserved query
  Ok (merge given (body_param body))

-- an empty body has no parameters
abbrev pub given_as : Media → Pairs → List ℕ → Result Pairs WebRefusal
given_as kind query [] = unreserved query
given_as kind query (b ∷ bs) = given_by kind query (b ∷ bs)

-- query and body as they came
abbrev pub raw_given : List ℕ → List ℕ → Result Pairs WebRefusal
raw_given query body = do
  body ← text_of body
  Ok ((codes "__ow_body", text body) ∷ (codes "__ow_query", text query) ∷ [])

abbrev pub given_of : Bool → Parts → Result Pairs WebRefusal
given_of true p = raw_given p.raw_query p.body
given_of false p = given_as (media_of (last_named (codes "content-type") p.headers)) (texts_of p.query) p.body

-- ---- what the service adds

abbrev pub method_text : Verb → List ℕ
method_text Get = codes "get"
method_text Put = codes "put"
method_text Post = codes "post"
method_text Delete = codes "delete"
method_text Patch = codes "patch"
method_text Options = codes "options"

-- with the slash before it, unless it is empty
abbrev pub slashed : List ℕ → List ℕ
slashed [] = []
slashed (b ∷ bs) = 47 ∷ b ∷ bs

-- what follows the action's name
abbrev pub path_after : Route → List ℕ
path_after (route.Web namespace inside name rest) = slashed rest
path_after other = []

abbrev pub added_of : Parts → Pairs
added_of p =
    (codes "__ow_headers", object (members_of (texts_of (seen_headers p.headers))))
    ∷ (codes "__ow_method", text (method_text p.method))
    ∷ (codes "__ow_path", text (path_after p.route))
    ∷ []

-- ---- all of it

-- the action is open to the web, the extension is known, and the caller is let in
abbrev pub called : Pairs → Parts → Bool → Result (Unit {0}) WebRefusal
called notes p known = do
  exported ← checked (is_set notes (codes "web-export")) NotExported
  extended ← checked (is_some (extension_of p.route)) BadExtension
  checked (is_let_in (find (codes "require-whisk-auth") notes) p.headers known) NeedsAuth

-- what the request gives, and over it what the service adds
abbrev pub web_in : Parts → Effective → Bool → Result Pairs WebRefusal
web_in p e known = do
  entered ← called e.action.notes p known
  given ← given_of (is_set e.action.notes (codes "raw-http")) p
  Ok (merge given (added_of p))
