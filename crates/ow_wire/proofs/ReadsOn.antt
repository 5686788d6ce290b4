-- Bytes that begin with a request begin with it too where more follow.
use Rattle.std.proofs.Common.{◌≡◌, ◌≤◌, ◌+◌, ◌++◌, ℕ, List, [], Bool, true, false, Option, Some, None, Result, Ok, Err, nat_lt, length, take, if◌then◌else◌, arith, refl, ap, ◌∙◌}
use Rattle.std.specs.Prelude.{ok_or}
use Rattle.std.proofs.lemmas.Bool.Decides.{nat_tests}
use Rattle.std.proofs.lemmas.List.{take-append-le}
use Rattle.httparse.specs.Grammar.{print_request}
use Rattle.httparse.proofs.GrammarLemmas.{ReadsRequest-append}
use Rattle.std.specs.List.{list_all}
use Rattle.std.specs.Str.{is_utf8}
use Rattle.std.proofs.lemmas.List.{length-append}
use Rattle.ow_http.specs.CallKind.{takes}
use Rattle.ow_http.specs.Headers.{body_length, is_text}
use Rattle.ow_http.specs.PlaceOf.{place_of}
use Rattle.ow_http.specs.Query.{path_of}
use Rattle.ow_http.specs.Request.{parts_of}
use Rattle.ow_http.specs.RouteAt.{route_at}
use Rattle.ow_http.specs.Verb.{verb_of}
use Rattle.ow_http.specs.declared.http_refusal.HttpRefusal.TheVariants.{BadHead, NoRoute, BadMethod}
use Rattle.ow_http.specs.Judged.{Asked, asked_of, judged, judged_body, judged_head, judged_method}
use Rattle.ow_http.specs.declared.place.Place.{Place}
use Rattle.ow_http.specs.Parts.{Parts}
use Rattle.ow_http.specs.Read.{IsRead}
use Rattle.ow_http.specs.Steps.{◌>>=◌}
use Rattle.ow_http.specs.declared.http_refusal.HttpRefusal.{HttpRefusal}
use Rattle.ow_http.specs.declared.request.Request.{Request}
use Rattle.ow_http.specs.declared.route.Route.{Route}
use Rattle.ow_http.specs.declared.verb.Verb.{Verb}

abbrev pub behind : Asked → List ℕ → Asked
behind a more = record a { rest = a.rest ++ more }

-- with more bytes after it, a head is judged the same, and its request lies in the bytes that were there
abbrev Stays : (Asked → Result Parts HttpRefusal) → Asked → List ℕ → Parts → Type 0
Stays judge a more p = (judge (behind a more) ≡ Ok p) × (p.size ≤ a.head + length a.rest)

no_ok : {A E : Type 0} (e : E) (x : A) → (let r : Result A E = Err e in r) ≡ Ok x → ⊥
no_ok e x h = cc

same_size : (q p : Parts) → (let r : Result Parts HttpRefusal = Ok q in r) ≡ Ok p → p.size ≡ q.size
same_size q p h = cc

body_by : (b c : Bool) (method : Verb) (route : Route) (n : ℕ) (a : Asked) (more : List ℕ) (p : Parts) → nat_lt 4194304 n ≡ b → nat_lt (length a.rest) n ≡ c
    → judged_body method route n a ≡ Ok p → Stays (judged_body method route n) a more p
unfolding judged_body
body_by true c method route n a more p e f h = absurd (no_ok _ _ (rw e at h))
body_by false true method route n a more p e f h = absurd (no_ok _ _ (rw (e, f) at h))
body_by false false method route n a more p e f h =
    let room : n ≤ length a.rest = grind (arith, nat_tests, f) in
    let still : nat_lt (length (a.rest ++ more)) n ≡ false = grind (arith, nat_tests, room, length-append a.rest more) in
    let same : take n (a.rest ++ more) ≡ take n a.rest = take-append-le n a.rest more room in
    let is = rw (e, f) at h in
    let size = same_size _ p is in
    (rw (e, still, same) is, omega (arith, room, size))

taken_by : (b : Bool) (method : Verb) (route : Route) (n : ℕ) (a : Asked) (more : List ℕ) (p : Parts)
    → (if b then judged_body method route n a else Err BadMethod) ≡ Ok p → ((if b then judged_body method route n (behind a more) else Err BadMethod) ≡ Ok p) × (p.size ≤ a.head + length a.rest)
taken_by true method route n a more p h = body_by _ _ method route n a more p refl refl h
taken_by false method route n a more p h = absurd (no_ok _ _ h)

method_by : (v : Option Verb) (route : Route) (n : ℕ) (a : Asked) (more : List ℕ) (p : Parts) → verb_of a.method ≡ v
    → judged_method route n a ≡ Ok p → Stays (judged_method route n) a more p
method_by None route n a more p e h = absurd (no_ok BadMethod p (rw e at h))
method_by (Some method) route n a more p e h = rw e (taken_by (takes route method) method route n a more p (rw e at h))

place_by : (place : Option Place) (n : ℕ) (a : Asked) (more : List ℕ) (p : Parts)
    → (ok_or place NoRoute >>= λ at. judged_method (route_at at (path_of a.target)) n a) ≡ Ok p
    → ((ok_or place NoRoute >>= λ at. judged_method (route_at at (path_of a.target)) n (behind a more)) ≡ Ok p) × (p.size ≤ a.head + length a.rest)
place_by None n a more p h = absurd (no_ok NoRoute p h)
place_by (Some at) n a more p h = method_by _ (route_at at (path_of a.target)) n a more p refl h

length_by : (size : Option ℕ) (a : Asked) (more : List ℕ) (p : Parts) → body_length a.fields ≡ size → judged_head a ≡ Ok p → Stays judged_head a more p
length_by None a more p e h = absurd (no_ok BadHead p (rw e at h))
length_by (Some n) a more p e h = rw e (place_by (place_of (path_of a.target)) n a more p (rw e at h))

text_by : (b c : Bool) (a : Asked) (more : List ℕ) (p : Parts) → list_all is_text a.fields ≡ b → is_utf8 a.target ≡ c → judged a ≡ Ok p → Stays judged a more p
unfolding judged
text_by false c a more p e f h = absurd (no_ok BadHead p (rw e at h))
text_by true false a more p e f h = absurd (no_ok BadHead p (rw (e, f) at h))
text_by true true a more p e f h = rw (e, f) (length_by _ a more p refl (rw (e, f) at h))

judged_on : (a : Asked) (more : List ℕ) (p : Parts) → judged a ≡ Ok p → Stays judged a more p
judged_on a more p h = text_by _ _ a more p refl refl h

-- where more bytes follow, the request is the same
pub reads_on : (bytes more : List ℕ) (request : Request) → IsRead bytes (Ok request) → IsRead (bytes ++ more) (Ok request)
reads_on bytes more request x = (
  x.0,
  x.1 ++ more,
  record { reads = ReadsRequest-append bytes x.0 x.1 more x.2.reads; few = x.2.few; short = x.2.short },
  (judged_on (asked_of x.0 x.1) more (parts_of request) x.3).0,
)

-- it lies in the bytes
pub within : (bytes : List ℕ) (request : Request) → IsRead bytes (Ok request) → request.size ≤ length bytes
within bytes request x =
    let small = (judged_on (asked_of x.0 x.1) [] (parts_of request) x.3).1 in
    let whole : length bytes ≡ length (print_request x.0) + length x.1 = ap length x.2.reads.1 ∙ length-append (print_request x.0) x.1 in
    omega (arith, small, whole)
