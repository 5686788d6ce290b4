-- What a whole head requests, or why it is refused. Of several faults the one that is defined first here counts.
use Rattle.std.specs.Prelude.{ℕ, ◌+◌, ◌||◌, not, nat_lt, if◌then◌else◌, List, length, take, codes, map, Result, Ok, Err, ok_or}
use Rattle.std.specs.List.{list_all}
use Rattle.std.specs.Str.{is_utf8}
use Rattle.httparse.specs.Grammar.{RequestHead, print_request}
use Rattle.httparse.specs.Spans.{name_and_value}
use Rattle.ow_http.specs.declared.http_refusal.HttpRefusal.{HttpRefusal}
use Rattle.ow_http.specs.declared.http_refusal.HttpRefusal.TheVariants.{BadHead, NoRoute, BadMethod, BodyTooLarge, CutShort}
use Rattle.ow_http.specs.declared.read.Asked as code
use Rattle.ow_http.specs.declared.read.TheConstants.{MAX_BODY}
use Rattle.ow_http.specs.declared.route.Route.{Route}
use Rattle.ow_http.specs.declared.verb.Verb.{Verb}
use Rattle.ow_http.specs.Headers.{is_text, body_length, closes, last_named}
use Rattle.ow_http.specs.Pair.{Pair}
use Rattle.ow_http.specs.Parts.{Parts}
use Rattle.ow_http.specs.PlaceOf.{place_of}
use Rattle.ow_http.specs.Query.{path_of, query_of, pairs_of}
use Rattle.ow_http.specs.CallKind.{takes}
use Rattle.ow_http.specs.RouteAt.{route_at}
use Rattle.ow_http.specs.Steps.{◌>>=◌}
use Rattle.ow_http.specs.Verb.{verb_of}

-- a head's parts, how many bytes it has, and the bytes after it
pub record Asked : Type 0 where
  pub method : List ℕ
  pub target : List ℕ
  pub minor : ℕ
  pub fields : List Pair
  pub head : ℕ
  pub rest : List ℕ

abbrev pub asked_of : RequestHead → List ℕ → Asked
asked_of h rest = record {
  method = h.method;
  target = h.target;
  minor = h.minor;
  fields = map name_and_value h.fields;
  head = length (print_request h);
  rest = rest;
}

-- the same, of the code, for private clauses
abbrev pub as_asked : code.Asked → Asked
as_asked a = record {
  method = a.method.now;
  target = a.target.now;
  minor = a.minor;
  fields = a.fields;
  head = a.head;
  rest = a.rest.now;
}

-- the body isn't too long, and is whole
unfoldable pub judged_body : Verb → Route → ℕ → Asked → Result Parts HttpRefusal
judged_body method route n a =
    if nat_lt MAX_BODY n then Err BodyTooLarge
    else if nat_lt (length a.rest) n then Err CutShort
    else Ok (record {
      route = route;
      method = method;
      key = last_named (codes "x-whisk-key") a.fields;
      query = pairs_of (query_of a.target);
      raw_query = query_of a.target;
      headers = a.fields;
      body = take n a.rest;
      size = a.head + n;
      close = closes a.minor a.fields;
    })

-- the route takes the method
abbrev pub judged_method : Route → ℕ → Asked → Result Parts HttpRefusal
judged_method route n a = do
  method ← ok_or (verb_of a.method) BadMethod
  if takes route method then judged_body method route n a else Err BadMethod

-- the headers give a length, none of them is one that isn't served, and the path has a route
abbrev pub judged_head : Asked → Result Parts HttpRefusal
judged_head a = do
  n ← ok_or (body_length a.fields) BadHead
  place ← ok_or (place_of (path_of a.target)) NoRoute
  judged_method (route_at place (path_of a.target)) n a

-- target and headers are text
unfoldable pub judged : Asked → Result Parts HttpRefusal
judged a =
    if not (list_all is_text a.fields) || not (is_utf8 a.target) then Err BadHead else judged_head a
