-- Bytes that are cut short, and which longer ones are so too.
use Rattle.std.proofs.Common.{◌≡◌, ◌≢◌, ◌≤◌, ◌<◌, ◌+◌, ◌++◌, ℕ, List, [], Bool, true, false, Option, Some, None, Result, Err, nat_lt, length, map, if◌then◌else◌, arith, refl, ap, sym, subst, ◌∙◌, inr, ⊎_elim, append-nil}
use Rattle.std.specs.Prelude.{◌||◌, codes, count_by, find, ok_or}
use Rattle.std.proofs.lemmas.Bool.Decides.{nat_tests}
use Rattle.std.proofs.lemmas.List.{length-append}
use Rattle.std.specs.List.{list_all, list_any}
use Rattle.std.specs.Str.{is_utf8, str_eq_ignore_ascii_case}
use Rattle.httparse.specs.Grammar.{HasNoRequest, MayBecomeRequest, ReadsRequest, RequestHead, print_request}
use Rattle.httparse.specs.Spans.{name_and_value}
use Rattle.httparse.proofs.GrammarLemmas.{ReadsRequest-append, request_prefix_free}
use Rattle.ow_http.specs.CallKind.{takes}
use Rattle.ow_http.specs.Head.{HasHead}
use Rattle.ow_http.specs.Headers.{body_length, is_length, is_refused, is_text, told_length}
use Rattle.ow_http.specs.Judged.{Asked, asked_of, judged, judged_body, judged_head, judged_method}
use Rattle.ow_http.specs.Pair.{Pair}
use Rattle.ow_http.specs.Parts.{Parts}
use Rattle.ow_http.specs.PlaceOf.{place_of}
use Rattle.ow_http.specs.Query.{path_of}
use Rattle.ow_http.specs.Read.{IsRead, ReadsAs}
use Rattle.ow_http.specs.RouteAt.{route_at}
use Rattle.ow_http.specs.Steps.{◌>>=◌}
use Rattle.ow_http.specs.Verb.{verb_of}
use Rattle.ow_http.specs.declared.http_refusal.HttpRefusal.{HttpRefusal}
use Rattle.ow_http.specs.declared.http_refusal.HttpRefusal.TheVariants.{BadHead, BadMethod, BodyTooLarge, CutShort, NoMemory, NoRoute}
use Rattle.ow_http.specs.declared.place.Place.{Place}
use Rattle.ow_http.specs.declared.route.Route.{Route}
use Rattle.ow_http.specs.declared.verb.Verb.{Verb}
use Rattle.ow_wire.specs.Arrivals.{IsCutBelow}
use Rattle.ow_wire.proofs.ReadsOn.{behind}

same_error : (d e : HttpRefusal) → (let r : Result Parts HttpRefusal = Err d in r) ≡ Err e → d ≡ e
same_error d e h = cc

-- it is judged as cut short, also with these bytes after it
abbrev StaysCut : (Asked → Result Parts HttpRefusal) → Asked → List ℕ → Type 0
StaysCut judge a more = judge a ≡ Err CutShort → judge (behind a more) ≡ Err CutShort

body_cut : (b : Bool) (method : Verb) (route : Route) (n : ℕ) (a : Asked) (more : List ℕ) → nat_lt 4194304 n ≡ b → length (a.rest ++ more) < n → StaysCut (judged_body method route n) a more
unfolding judged_body
body_cut true method route n a more e few h = absurd (let d : BodyTooLarge ≡ CutShort = same_error _ _ (rw e at h) in cc)
body_cut false method route n a more e few h =
    let short : nat_lt (length (a.rest ++ more)) n ≡ true = grind (arith, nat_tests, few) in
    rw (e, short) refl

taken_cut : (b : Bool) (method : Verb) (route : Route) (n : ℕ) (a : Asked) (more : List ℕ) → length (a.rest ++ more) < n
    → (if b then judged_body method route n a else Err BadMethod) ≡ Err CutShort → (if b then judged_body method route n (behind a more) else Err BadMethod) ≡ Err CutShort
taken_cut true method route n a more few h = body_cut _ method route n a more refl few h
taken_cut false method route n a more few h = absurd (let d : BadMethod ≡ CutShort = same_error _ _ h in cc)

method_cut : (v : Option Verb) (route : Route) (n : ℕ) (a : Asked) (more : List ℕ) → verb_of a.method ≡ v → length (a.rest ++ more) < n → StaysCut (judged_method route n) a more
method_cut None route n a more e few h = absurd (let d : BadMethod ≡ CutShort = same_error _ _ (rw e at h) in cc)
method_cut (Some method) route n a more e few h = rw e (taken_cut (takes route method) method route n a more few (rw e at h))

place_cut : (place : Option Place) (n : ℕ) (a : Asked) (more : List ℕ) → length (a.rest ++ more) < n
    → (ok_or place NoRoute >>= λ at. judged_method (route_at at (path_of a.target)) n a) ≡ Err CutShort
    → (ok_or place NoRoute >>= λ at. judged_method (route_at at (path_of a.target)) n (behind a more)) ≡ Err CutShort
place_cut None n a more few h = absurd (let d : NoRoute ≡ CutShort = same_error _ _ h in cc)
place_cut (Some at) n a more few h = method_cut _ (route_at at (path_of a.target)) n a more refl few h

length_cut : (size : Option ℕ) (a : Asked) (more : List ℕ) → body_length a.fields ≡ size → ((n : ℕ) → size ≡ Some n → length (a.rest ++ more) < n) → StaysCut judged_head a more
length_cut None a more e few h = absurd (let d : BadHead ≡ CutShort = same_error _ _ (rw e at h) in cc)
length_cut (Some n) a more e few h = rw e (place_cut (place_of (path_of a.target)) n a more (few n refl) (rw e at h))

text_cut : (b c : Bool) (a : Asked) (more : List ℕ) → list_all is_text a.fields ≡ b → is_utf8 a.target ≡ c → ((n : ℕ) → body_length a.fields ≡ Some n → length (a.rest ++ more) < n) → StaysCut judged a more
unfolding judged
text_cut false c a more e f few h = absurd (let d : BadHead ≡ CutShort = same_error _ _ (rw e at h) in cc)
text_cut true false a more e f few h = absurd (let d : BadHead ≡ CutShort = same_error _ _ (rw (e, f) at h) in cc)
text_cut true true a more e f few h = rw (e, f) (length_cut _ a more refl few (rw (e, f) at h))

-- the header of this name gives the length of the body
pub named_length : (name value : List ℕ) → is_length (name, value) ≡ str_eq_ignore_ascii_case name (codes "content-length")
unfolding is_length
named_length name value = refl

-- that length is the body's
told_by : (b : Bool) (fields : List Pair) (m n : ℕ) → (list_any is_refused fields || nat_lt 1 (count_by is_length fields)) ≡ b
    → told_length (find is_length fields) ≡ Some m → body_length fields ≡ Some n → m ≡ n
unfolding body_length
told_by true fields m n e told is = absurd (let none : (let o : Option ℕ = None in o) ≡ Some n = rw e at is in cc)
told_by false fields m n e told is = let given : told_length (find is_length fields) ≡ Some n = rw e at is in cc

judged_cut : (a : Asked) (more : List ℕ) (m : ℕ) → told_length (find is_length a.fields) ≡ Some m → length (a.rest ++ more) < m → StaysCut judged a more
judged_cut a more m told few = text_cut _ _ a more refl refl (λ n is. subst (λ k. length (a.rest ++ more) < k) (told_by _ a.fields m n refl told is) few)

-- bytes with a whole head, up to the end of the body
module _ (bytes : List ℕ) (h : RequestHead) (rest : List ℕ) (m : ℕ) (reads : ReadsRequest bytes h rest) (told : told_length (find is_length (map name_and_value h.fields)) ≡ Some m)
    (cut : IsRead bytes (Err CutShort)) (more : List ℕ) where
  headed_cut : length (rest ++ more) < m → (k : RequestHead) (q : List ℕ) → HasHead (bytes ++ more) k q → judged (asked_of k q) ≡ Err CutShort
  headed_cut few k q has =
      let same = request_prefix_free bytes more h k rest q reads has.reads in
      let there : HasHead bytes h rest = record {
        reads = reads;
        few = subst (λ x. length x.fields ≤ 100) (sym same.0) has.few;
        short = subst (λ x. length (print_request x) ≤ 65536) (sym same.0) has.short;
      } in
      let judged_so = judged_cut (asked_of h rest) more m told few (cut.0 h rest there) in
      subst (λ x. judged (asked_of x q) ≡ Err CutShort) same.0 (subst (λ z. judged (asked_of h z) ≡ Err CutShort) same.1 judged_so)

  headless_not : ((k : RequestHead) (q : List ℕ) → HasHead (bytes ++ more) k q → ⊥) → ⊥
  headless_not none = ⊎_elim (λ bad. let d : CutShort ≡ BadHead = bad.0 in cc) (λ c. c.1.none h rest reads)
      (cut.1 (λ k q has. none k (q ++ more) (record { reads = ReadsRequest-append bytes k q more has.reads; few = has.few; short = has.short })))

  cut_so : length (bytes ++ more) < length (print_request h) + m → IsRead (bytes ++ more) (Err CutShort)
  cut_so few =
      let whole : length bytes ≡ length (print_request h) + length rest = ap length reads.1 ∙ length-append (print_request h) rest in
      let fewer : length (rest ++ more) < m = omega (arith, few, whole, length-append bytes more, length-append rest more) in
      (headed_cut fewer, λ none. absurd (headless_not none))

pub cut_below : (bytes : List ℕ) (h : RequestHead) (rest : List ℕ) (m needed : ℕ) → ReadsRequest bytes h rest → told_length (find is_length (map name_and_value h.fields)) ≡ Some m
    → needed ≤ length (print_request h) + m → IsRead bytes (Err CutShort) → IsCutBelow needed bytes
cut_below bytes h rest m needed reads told fits cut more few = cut_so bytes h rest m reads told cut more (omega (arith, few, fits))

pub cut_below_none : (bytes : List ℕ) → IsCutBelow 0 bytes
cut_below_none bytes more few = absurd (omega (arith, few))

-- bytes that are read as cut short
pub cut_read : (bytes : List ℕ) (e : HttpRefusal) → ReadsAs bytes (Err e) → e ≡ CutShort → IsRead bytes (Err CutShort)
cut_read bytes e reads is = subst (λ r. r ≢ NoMemory → IsRead bytes (Err r)) is reads (λ none. cc)

pub cut_now : (bytes : List ℕ) (needed : ℕ) → IsCutBelow needed bytes → length bytes < needed → IsRead bytes (Err CutShort)
cut_now bytes needed cut few =
    subst (λ b. IsRead b (Err CutShort)) (append-nil bytes) (cut [] (subst (λ b. length b < needed) (sym (append-nil bytes)) few))

-- bytes that end inside a head
pub cut_head : (bytes : List ℕ) → HasNoRequest bytes → MayBecomeRequest bytes → length bytes ≤ 65536 → IsRead bytes (Err CutShort)
cut_head bytes none begun short =
    ((λ h rest has. absurd (none h rest has.reads)), λ headless. inr (refl, record { none = none; begun = begun; short = short }))
