-- Each web answer can be sent.
use Rattle.std.proofs.Common.{◌≡◌, ℕ, zero, suc, pos, negsuc, ◌≤◌, List, [], ◌∷◌, ◌++◌, Bool, true, false, Option, Some, None, Result, Ok, Err, refl, ap, sym, ◌∙◌, subst, arith, inl, inr}
use Rattle.std.specs.Prelude.{not, ◌&&◌, ◌||◌, ◌==◌, nat_le, nat_lt, cond, length, filter, map, codes, find, ok_or, option_map, option_and_then}
use Rattle.std.specs.List.{list_all, AllPass, All}
use Rattle.std.specs.Option.{option_or}
use Rattle.std.proofs.lemmas.Bool.{and_parts, and_from, false≢true, leb-true, ne_eqb, not_from_false, or_from}
use Rattle.std.proofs.lemmas.List.Elements.{All-append, All-cons, All-filter, All-nil, All-weaker, All-head, All-tail}
use Rattle.std.proofs.lemmas.List.Sums.{AllPass-from_list_all, list_all-from_AllPass}
use Rattle.httparse.specs.Grammar.{is_token, is_token_byte}
use Rattle.ow_value.specs.Decimal.{if_within}
use Rattle.ow_value.specs.Field.{pairs_in}
use Rattle.ow_value.specs.Find.{find as value_at}
use Rattle.ow_value.specs.Value.{V, Pairs, null, boolean, whole, text, list, object}
use Rattle.ow_records.specs.Response.{ResponseView}
use Rattle.ow_http.specs.declared.answer.Answer.{Answer}
use Rattle.ow_http.specs.Headers.{is_named, last_named, last_or}
use Rattle.ow_http.specs.Pair.{Pair}
use Rattle.ow_web.specs.declared.refusal.WebRefusal.{WebRefusal}
use Rattle.ow_web.specs.declared.refusal.WebRefusal.TheVariants.{BadWebResult}
use Rattle.ow_web.specs.declared.target.Extension.{Extension}
use Rattle.ow_web.specs.declared.target.Extension.TheVariants.{Json, Http, Text}
use Rattle.ow_web.specs.Laws.{AnswersAreSendable, IsSendable, RepliesAreSendable, is_clean, is_one_line}
use Rattle.ow_web.specs.Shown.{is_scalar, shown_text}
use Rattle.ow_web.specs.WebOut.{as_header, body_type, has_body, headers_in, headers_of, http_answer, is_framing, is_header, is_printable, is_sent, json_answer, made_answer, or_bad_result, plain_answer, result_answer, sent_answer, sent_headers, status_of, text_answer, typed, web_out}

-- ---- bytes and texts

abbrev is_no_end : ℕ → Bool
is_no_end b = not (b == 13 || b == 10)

no_end_from : (b : ℕ) → (b ≡ 13 → ⊥) → (b ≡ 10 → ⊥) → is_no_end b ≡ true
no_end_from b n m = not_from_false (b == 13 || b == 10) (or_from (b == 13) (b == 10) (ne_eqb b 13 n) (ne_eqb b 10 m))

printable_so : (b : ℕ) → is_printable b ≡ true → is_no_end b ≡ true
printable_so b h =
    let least = leb-true 32 b (and_parts (nat_le 32 b) (nat_le b 126) h).0 in
    no_end_from b (λ e. omega (arith, least, e)) (λ e. omega (arith, least, e))

token_so : (b : ℕ) → is_token_byte b ≡ true → is_no_end b ≡ true
unfolding is_token_byte
token_so b h =
    let P : ℕ → Type 0 = λ n. is_token_byte n ≡ true in
    no_end_from b (λ e. false≢true (subst P e h)) (λ e. false≢true (subst P e h))

all_so : (p q : ℕ → Bool) → ((b : ℕ) → p b ≡ true → q b ≡ true) → (bs : List ℕ) → list_all p bs ≡ true → list_all q bs ≡ true
all_so p q f [] h = refl
all_so p q f (b ∷ bs) h = let parts = and_parts (p b) (list_all p bs) h in and_from (q b) (list_all q bs) (f b parts.0) (all_so p q f bs parts.1)

-- ---- headers

name_so : (name : List ℕ) → is_token name ≡ true → is_one_line name ≡ true
name_so name h = all_so is_token_byte is_no_end token_so name (and_parts (nat_lt 0 (length name)) (list_all is_token_byte name) h).1

header_so : (h : Pair) → is_header h ≡ true → is_clean h ≡ true
header_so h good =
    let parts = and_parts (is_token h.0) (list_all is_printable h.1) good in
    and_from (is_one_line h.0) (is_one_line h.1) (name_so h.0 parts.0) (all_so is_printable is_no_end printable_so h.1 parts.1)

headers_so : (hs : List Pair) → list_all is_header hs ≡ true → AllPass is_clean hs
headers_so hs h = All-weaker (λ x. is_header x ≡ true) (λ x. is_clean x ≡ true) header_so hs (AllPass-from_list_all is_header hs h)

-- a text in one line, where there is one
abbrev IsOneLine : Option (List ℕ) → Type 0
IsOneLine None = Unit {0}
IsOneLine (Some s) = is_one_line s ≡ true

either_so : (h : Pair) (before : Option (List ℕ)) (b : Bool) → is_header h ≡ true → IsOneLine before → IsOneLine (cond b (Some h.1) before)
either_so h before true good one = (and_parts (is_one_line h.0) (is_one_line h.1) (header_so h good)).1
either_so h before false good one = one

last_so : (name : List ℕ) (before : Option (List ℕ)) (hs : List Pair) → IsOneLine before → list_all is_header hs ≡ true → IsOneLine (last_or before name hs)
last_so name before [] one h = one
last_so name before (x ∷ xs) one h =
    let parts = and_parts (is_header x) (list_all is_header xs) h in
    last_so name (cond (is_named name x) (Some x.1) before) xs (either_so x before (is_named name x) parts.0 one) parts.1

or_so : (a b : Option (List ℕ)) → IsOneLine a → IsOneLine b → IsOneLine (option_or a b)
or_so None b one two = two
or_so (Some s) b one two = one

typed_clean : (o : Option (List ℕ)) → IsOneLine o → AllPass is_clean (typed o)
typed_clean None one = All-nil (λ x. is_clean x ≡ true)
typed_clean (Some s) one = All-cons (λ x. is_clean x ≡ true) (codes "Content-Type", s) [] (and_from (is_one_line (codes "Content-Type")) (is_one_line s) refl one) (All-nil (λ x. is_clean x ≡ true))

typed_unframed : (o : Option (List ℕ)) → AllPass (λ h. not (is_framing h)) (typed o)
typed_unframed None = All-nil (λ x. not (is_framing x) ≡ true)
typed_unframed (Some s) = All-cons (λ x. not (is_framing x) ≡ true) (codes "Content-Type", s) [] refl (All-nil (λ x. not (is_framing x) ≡ true))

-- ---- the headers that are sent

sent_clean : (kind : Option (List ℕ)) (hs : List Pair) → IsOneLine kind → list_all is_header hs ≡ true → AllPass is_clean (sent_headers kind hs)
sent_clean kind hs one h =
    All-append (λ x. is_clean x ≡ true) (typed (option_or (last_named (codes "content-type") hs) kind)) (filter is_sent hs)
    (typed_clean (option_or (last_named (codes "content-type") hs) kind) (or_so (last_named (codes "content-type") hs) kind (last_so (codes "content-type") None hs tt h) one))
    (All-filter is_sent (λ x. is_clean x ≡ true) hs (headers_so hs h))

sent_unframed : (x : Pair) → is_sent x ≡ true → not (is_framing x) ≡ true
sent_unframed x h = by (is_framing x) (is_named (codes "content-type") x) h
  where
    by : (a b : Bool) → not (a || b) ≡ true → not a ≡ true
    by true b h = h
    by false b h = refl

filtered_so : (hs : List Pair) → AllPass is_sent (filter is_sent hs)
filtered_so [] = All-nil (λ x. is_sent x ≡ true)
filtered_so (x ∷ xs) = by (filtered_so xs) (is_sent x) refl
  where
    by : AllPass is_sent (filter is_sent xs) → (b : Bool) → is_sent x ≡ b → AllPass is_sent (cond b (x ∷ filter is_sent xs) (filter is_sent xs))
    by rest true e = All-cons (λ y. is_sent y ≡ true) x (filter is_sent xs) e rest
    by rest false e = rest

all_unframed : (kind : Option (List ℕ)) (hs : List Pair) → AllPass (λ h. not (is_framing h)) (sent_headers kind hs)
all_unframed kind hs =
    All-append (λ x. not (is_framing x) ≡ true) (typed (option_or (last_named (codes "content-type") hs) kind)) (filter is_sent hs)
    (typed_unframed (option_or (last_named (codes "content-type") hs) kind))
    (All-weaker (λ x. is_sent x ≡ true) (λ x. not (is_framing x) ≡ true) sent_unframed (filter is_sent hs) (filtered_so hs))

-- ---- answers

bare_so : (status : ℕ) (body : List ℕ) → 200 ≤ status → status ≤ 599 → IsSendable (record { status = status; headers = []; body = body })
bare_so status body least most = record { lines = All-nil (λ x. is_clean x ≡ true); framing = All-nil (λ x. not (is_framing x) ≡ true); least = least; most = most }

plain_so : (body : List ℕ) → IsSendable (plain_answer body)
plain_so body = record { lines = typed_clean (Some (codes "text/plain")) refl; framing = typed_unframed (Some (codes "text/plain")); least = omega arith; most = omega arith }

body_type_so : (body : Option V) → IsOneLine (body_type body)
body_type_so None = tt
body_type_so (Some null) = tt
body_type_so (Some (boolean b)) = tt
body_type_so (Some (whole z)) = tt
body_type_so (Some (text s)) = refl
body_type_so (Some (list vs)) = tt
body_type_so (Some (object ps)) = tt

made_so : (body : Option V) (status : ℕ) (hs : List Pair) → 200 ≤ status → status ≤ 599 → list_all is_header hs ≡ true → IsSendable (made_answer body status hs)
made_so body status hs least most h = record { lines = sent_clean (body_type body) hs (body_type_so body) h; framing = all_unframed (body_type body) hs; least = least; most = most }

-- ---- the parts of a result

abbrev IsStatus : Option ℕ → Type 0
IsStatus None = Unit {0}
IsStatus (Some n) = (200 ≤ n) × (n ≤ 599)

default_so : (b : Bool) → IsStatus (Some (cond b 200 204))
default_so true = (omega arith, omega arith)
default_so false = (omega arith, omega arith)

within_so : (n : ℕ) (b : Bool) → (nat_le 200 n && nat_le n 599) ≡ b → IsStatus (cond b (Some n) None)
within_so n true e = let parts = and_parts (nat_le 200 n) (nat_le n 599) e in (leb-true 200 n parts.0, leb-true n 599 parts.1)
within_so n false e = tt

status_so : (o body : Option V) → IsStatus (status_of o body)
status_so None body = default_so (has_body body)
status_so (Some (whole (pos n))) body = within_so n (nat_le 200 n && nat_le n 599) refl
status_so (Some (whole (negsuc n))) body = tt
status_so (Some null) body = tt
status_so (Some (boolean b)) body = tt
status_so (Some (text s)) body = tt
status_so (Some (list vs)) body = tt
status_so (Some (object ps)) body = tt

abbrev AreHeaders : Option (List Pair) → Type 0
AreHeaders None = Unit {0}
AreHeaders (Some hs) = list_all is_header hs ≡ true

in_so : (ps : Pairs) (b : Bool) → (list_all (λ p. is_scalar p.1) ps && list_all is_header (map as_header ps)) ≡ b → AreHeaders (cond b (Some (map as_header ps)) None)
in_so ps true e = (and_parts (list_all (λ p. is_scalar p.1) ps) (list_all is_header (map as_header ps)) e).1
in_so ps false e = tt

headers_of_so : (o : Option V) → AreHeaders (headers_of o)
headers_of_so None = refl
headers_of_so (Some (object ps)) = in_so (pairs_in ps) (list_all (λ p. is_scalar p.1) (pairs_in ps) && list_all is_header (map as_header (pairs_in ps))) refl
headers_of_so (Some null) = tt
headers_of_so (Some (boolean b)) = tt
headers_of_so (Some (whole z)) = tt
headers_of_so (Some (text s)) = tt
headers_of_so (Some (list vs)) = tt

-- ---- the answer of a result

abbrev MaySend : Option Answer → Type 0
MaySend None = Unit {0}
MaySend (Some a) = IsSendable a

text_so : (o : Option V) → MaySend (text_answer o)
text_so None = tt
text_so (Some v) = by (is_scalar v)
  where
    by : (b : Bool) → MaySend (cond b (Some (plain_answer (shown_text v))) None)
    by true = plain_so (shown_text v)
    by false = tt

joined_so : (body : Option V) (status : Option ℕ) (hs : Option (List Pair)) → IsStatus status → AreHeaders hs
    → MaySend (option_and_then (λ s. option_map (made_answer body s) hs) status)
joined_so body None hs one two = tt
joined_so body (Some s) None one two = tt
joined_so body (Some s) (Some hs) one two = made_so body s hs one.0 one.1 two

http_so : (ps : Pairs) → MaySend (http_answer ps)
http_so ps = joined_so (value_at (codes "body") ps) (status_of (value_at (codes "statusCode") ps) (value_at (codes "body") ps)) (headers_of (value_at (codes "headers") ps))
    (status_so (value_at (codes "statusCode") ps) (value_at (codes "body") ps)) (headers_of_so (value_at (codes "headers") ps))

result_so : (extension : Extension) (ps : Pairs) → MaySend (result_answer extension ps)
result_so Json ps = bare_so 200 (json_answer 200 ps).body (omega arith) (omega arith)
result_so Text ps = text_so (value_at (codes "text") ps)
result_so Http ps = http_so ps

-- ---- all answers

abbrev MayReply : Result Answer WebRefusal → Type 0
MayReply (Ok a) = IsSendable a
MayReply (Err e) = Unit {0}

some_so : (o : Option Answer) → MaySend o → MayReply (ok_or o BadWebResult)
some_so None h = tt
some_so (Some a) h = h

out_so : (extension : Extension) (r : ResponseView) → MayReply (web_out extension r)
out_so extension r = by (r.code == 0)
  where
    by : (b : Bool) → MayReply (cond b (ok_or (result_answer extension r.result) BadWebResult) (Ok (json_answer 502 r.result)))
    by true = some_so (result_answer extension r.result) (result_so extension r.result)
    by false = bare_so 502 (json_answer 502 r.result).body (omega arith) (omega arith)

pub replies_sendable : RepliesAreSendable
replies_sendable extension r a h = let P : Result Answer WebRefusal → Type 0 = λ x. MayReply x in subst P h (out_so extension r)

or_bad_so : (ps : Pairs) (x : Result Answer WebRefusal) → MayReply x → IsSendable (or_bad_result ps x)
or_bad_so ps (Ok a) h = h
or_bad_so ps (Err e) h = bare_so 502 (or_bad_result ps (Err e)).body (omega arith) (omega arith)

pub answers_sendable : AnswersAreSendable
answers_sendable extension r = or_bad_so r.result (web_out extension r) (out_so extension r)
