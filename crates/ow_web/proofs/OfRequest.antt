-- No request is refused for a bad result.
use Rattle.std.proofs.Common.{◌≡◌, ℕ, zero, suc, pos, negsuc, List, [], ◌∷◌, Bool, true, false, Option, Some, None, Result, Ok, Err, subst, sym, ap, ◌∙◌, MatchResult, IfErr}
use Rattle.std.specs.Prelude.{cond, find, ◌≢◌, is_some, codes}
use Rattle.std.specs.Map.{keys_of}
use Rattle.std.specs.Str.{is_utf8}
use Rattle.ow_entity.specs.Annotations.{is_set}
use Rattle.ow_value.specs.Value.{V, Pairs, null, boolean, whole, text, list, object}
use Rattle.ow_value.specs.Find.{find as value_at, merge}
use Rattle.ow_value.specs.Nesting.{most_nested}
use Rattle.ow_value.specs.Read.{reading}
use Rattle.ow_value.specs.declared.reader.ValueRefusal.{ValueRefusal}
use Rattle.ow_packages.specs.declared.effective_action.Effective.{Effective}
use Rattle.ow_http.specs.Headers.{last_named}
use Rattle.ow_http.specs.Parts.{Parts}
use Rattle.ow_http.specs.Query.{pairs_of}
use Rattle.ow_http.specs.Steps.{◌>>=◌}
use Rattle.ow_web.specs.declared.media.Media.{Media}
use Rattle.ow_web.specs.declared.media.Media.TheVariants as media
use Rattle.ow_web.specs.declared.refusal.WebRefusal.{WebRefusal}
use Rattle.ow_web.specs.declared.refusal.WebRefusal.TheVariants.{NotExported, BadExtension, NeedsAuth, BadValue, NoObject, NoText, Reserved, BadWebResult, NoMemory}
use Rattle.ow_web.specs.Media.{media_of}
use Rattle.ow_web.specs.Params.{is_reserved, texts_of, unless_reserved, unreserved}
use Rattle.ow_web.specs.Target.{extension_of}
use Rattle.ow_web.specs.WebIn.{added_of, body_param, called, checked, given_as, given_by, given_of, is_let_in, members_in, members_read, object_of, raw_given, text_of, web_in}

-- the refusal is that of a request
abbrev IsOfRequest : WebRefusal → Type 0
IsOfRequest BadWebResult = ⊥
IsOfRequest e = Unit {0}

abbrev RefusesRequests : {A : Type 0} → Result A WebRefusal → Type 0
RefusesRequests (Ok x) = Unit {0}
RefusesRequests (Err e) = IsOfRequest e

called_by : (a b c : Bool) → RefusesRequests (checked a NotExported >>= (λ (u : Unit {0}). checked b BadExtension >>= (λ (v : Unit {0}). checked c NeedsAuth)))
called_by false b c = tt
called_by true false c = tt
called_by true true false = tt
called_by true true true = tt

called_so : (notes : Pairs) (p : Parts) (known : Bool) → RefusesRequests (called notes p known)
called_so notes p known = called_by (is_set notes (codes "web-export")) (is_some (extension_of p.route)) (is_let_in (value_at (codes "require-whisk-auth") notes) p.headers known)

unless_so : (o : Option (List ℕ)) (ps : Pairs) → RefusesRequests (unless_reserved o ps)
unless_so None ps = tt
unless_so (Some name) ps = tt

unreserved_so : (ps : Pairs) → RefusesRequests (unreserved ps)
unreserved_so ps = unless_so (find is_reserved (keys_of ps)) ps

text_so : (body : List ℕ) → RefusesRequests (text_of body)
text_so body = by (is_utf8 body)
  where
    by : (b : Bool) → RefusesRequests {A = List ℕ} (cond b (Ok body) (Err NoText))
    by true = tt
    by false = tt

members_so : (v : V) → RefusesRequests (members_in v)
members_so null = tt
members_so (boolean b) = tt
members_so (whole z) = tt
members_so (text s) = tt
members_so (list vs) = tt
members_so (object ps) = tt

read_so : (r : Result V ValueRefusal) → RefusesRequests (members_read r)
read_so (Ok v) = members_so v
read_so (Err e) = tt

-- what is given once nothing is refused
abbrev body_over : Pairs → List ℕ → Result Pairs WebRefusal
body_over given body = Ok (merge given (body_param body))

abbrev raw_pairs : List ℕ → List ℕ → Result Pairs WebRefusal
raw_pairs query body = Ok ((codes "__ow_body", text body) ∷ (codes "__ow_query", text query) ∷ [])

abbrev over_given : Pairs → Pairs → Result Pairs WebRefusal
over_given added given = Ok (merge given added)

json_so : (query : Pairs) (r : Result Pairs WebRefusal) → RefusesRequests r → RefusesRequests (r >>= (λ (body : Pairs). unreserved (merge query body)))
json_so query (Ok ps) h = unreserved_so (merge query ps)
json_so query (Err e) h = h

other_so : (r : Result (List ℕ) WebRefusal) (g : Result Pairs WebRefusal) → RefusesRequests r → RefusesRequests g
    → RefusesRequests (r >>= (λ (body : List ℕ). g >>= (λ (given : Pairs). body_over given body)))
other_so (Ok s) (Ok ps) h k = tt
other_so (Ok s) (Err e) h k = k
other_so (Err e) g h k = h

given_by_so : (kind : Media) (query : Pairs) (body : List ℕ) → RefusesRequests (given_by kind query body)
given_by_so media.Form query body = unreserved_so (merge query (texts_of (pairs_of body)))
given_by_so media.Json query body = json_so query (object_of body) (read_so (reading most_nested body))
given_by_so media.Other query body = other_so (text_of body) (unreserved query) (text_so body) (unreserved_so query)

given_as_so : (kind : Media) (query : Pairs) (body : List ℕ) → RefusesRequests (given_as kind query body)
given_as_so kind query [] = unreserved_so query
given_as_so kind query (b ∷ bs) = given_by_so kind query (b ∷ bs)

raw_so : (query : List ℕ) (r : Result (List ℕ) WebRefusal) → RefusesRequests r → RefusesRequests (r >>= (λ (body : List ℕ). raw_pairs query body))
raw_so query (Ok s) h = tt
raw_so query (Err e) h = h

given_so : (raw : Bool) (p : Parts) → RefusesRequests (given_of raw p)
given_so true p = raw_so p.raw_query (text_of p.body) (text_so p.body)
given_so false p = given_as_so (media_of (last_named (codes "content-type") p.headers)) (texts_of p.query) p.body

both_so : (u : Result (Unit {0}) WebRefusal) (g : Result Pairs WebRefusal) (added : Pairs) → RefusesRequests u → RefusesRequests g
    → RefusesRequests (u >>= (λ (entered : Unit {0}). g >>= (λ (given : Pairs). over_given added given)))
both_so (Ok u) (Ok ps) added h k = tt
both_so (Ok u) (Err e) added h k = k
both_so (Err e) g added h k = h

web_so : (p : Parts) (e : Effective) (known : Bool) → RefusesRequests (web_in p e known)
web_so p e known = both_so (called e.action.notes p known) (given_of (is_set e.action.notes (codes "raw-http")) p) (added_of p) (called_so e.action.notes p known) (given_so (is_set e.action.notes (codes "raw-http")) p)

never_bad_result : (p : Parts) (e : Effective) (known : Bool) → web_in p e known ≡ Err BadWebResult → ⊥
never_bad_result p e known h = let P : Result Pairs WebRefusal → Type 0 = λ r. RefusesRequests r in subst P h (web_so p e known)

not_so : (p : Parts) (e : Effective) (known : Bool) (r : WebRefusal) → (r ≢ NoMemory → web_in p e known ≡ Err r) → r ≢ BadWebResult
not_so p e known r h is = never_bad_result p e known (h (λ no. out_of_memory (sym is ∙ no)) ∙ ap Err is)
  where
    out_of_memory : BadWebResult ≡ NoMemory → ⊥
    out_of_memory e = cc

-- what a request is refused with is no bad result
pub answered_of_request : (p : Parts) (e : Effective) (known : Bool) (r : Result Pairs WebRefusal)
    → MatchResult r (λ ps. web_in p e known ≡ Ok ps) (λ x. x ≢ NoMemory → web_in p e known ≡ Err x) → IfErr r (λ x. x ≢ BadWebResult)
answered_of_request p e known (Ok ps) h = tt
answered_of_request p e known (Err x) h = not_so p e known x h
