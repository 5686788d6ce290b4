-- The record of a fire lasts: the parameters of a trigger and of a request nest no deeper than a result may, and neither do the two merged.
use Rattle.std.proofs.Common.{◌≡◌, ◌≤◌, ◌&&◌, ℕ, List, [], ◌∷◌, true, nat_le, IfOk, IfSome, Option, Some, None, refl, sym, ap, ◌∙◌, subst, arith}
use Rattle.std.proofs.lemmas.Bool.{and_from, and_parts, le-leb, leb-true}
use Rattle.ow_value.specs.Field.{pairs_in}
use Rattle.ow_value.specs.Find.{merge}
use Rattle.ow_value.specs.Nesting.{most_nested}
use Rattle.ow_value.specs.Value.{V, Pairs, null, boolean, whole, text, list, object, Members, no_members, member, depth, members_depth, members_of}
use Rattle.ow_names.specs.declared.full.FullName.{FullName}
use Rattle.ow_entity.specs.Written.{row_value, trigger_value}
use Rattle.ow_entity.specs.declared.kinds.EntityKind.TheVariants as kinds
use Rattle.ow_entity.specs.declared.rows.Row.{Row}
use Rattle.ow_entity.specs.declared.rows.Row.TheVariants as rows
use Rattle.ow_entity.specs.declared.triggers.Trigger.{Trigger}
use Rattle.ow_http.specs.CallOf.{active_of, as_call, bare_call, body_params, body_value, call_of_kind, checked_query, draft_of, filled_call, members_in, name_of as path_name, params_of}
use Rattle.ow_http.specs.CallKind.{kind_of as call_kind}
use Rattle.ow_http.specs.Pair.{Pair}
use Rattle.ow_http.specs.Parts.{Parts}
use Rattle.ow_http.specs.declared.call.Call.{Call}
use Rattle.ow_http.specs.declared.call_kind.CallKind.{CallKind}
use Rattle.ow_http.specs.declared.call_kind.CallKind.TheVariants.{ListEntities, ListActivations, PutEntity, Invoke, Fire as FireCall}
use Rattle.ow_http.specs.declared.call_refusal.CallRefusal.TheVariants.{BadValue}
use Rattle.ow_row_text.specs.declared.item.Item.TheVariants as items
use Rattle.ow_keep.specs.Allowed.{is_called, is_moment, is_version, stands_alone}
use Rattle.ow_keep.specs.declared.allowed.TheConstants.{GREATEST_MOMENT}
use Rattle.ow_commits.proofs.Shallow.{fires_shallow}
use Rattle.ow_records.specs.Fire.{trigger_record}
use Rattle.ow_records.specs.declared.fires.Fire.{Fire}
use Rattle.ow_tables.specs.Rows.{found, is_row}
use Rattle.ow_restart_laws.specs.Lasting.{AreWritable, IsLasting, IsLastingRow}
use Rattle.ow_restart_laws.proofs.Callees.{found_lasts}
use Rattle.ow_restart_laws.proofs.Names.{after, after_any}
use Rattle.ow_restart_laws.proofs.RowsLaws.{body_within, called}
use Rattle.ow_restart_laws.proofs.Writable.{AreWithin, most_within, trigger_read, with_within}

-- ---- how deep merged parameters nest

-- the values of parameters nest one less deep than the object of them, which is a result
abbrev pub most_given : ℕ
most_given = 99

members_within : (n : ℕ) (ps : Pairs) → AreWithin n ps → members_depth (members_of ps) ≤ n
members_within n [] h = omega arith
members_within n (p ∷ ps) h =
    let first : depth p.1 ≤ n = h.0 in
    let rest : members_depth (members_of ps) ≤ n = members_within n ps h.1 in
    omega (arith, first, rest)

within_members : (n : ℕ) (ps : Pairs) → members_depth (members_of ps) ≤ n → AreWithin n ps
within_members n [] h = tt
within_members n (p ∷ ps) h = (omega arith, within_members n ps (omega arith))

wider : (m n : ℕ) (ps : Pairs) → m ≤ n → AreWithin m ps → AreWithin n ps
wider m n [] k h = tt
wider m n (p ∷ ps) k h =
    let first : depth p.1 ≤ m = h.0 in
    (omega (arith, first, k), wider m n ps k h.1)

-- those of one nest no deeper than those of both
merge_within : (n : ℕ) (a b : Pairs) → AreWithin n a → AreWithin n b → AreWithin n (merge a b)
merge_within n a [] h k = h
merge_within n a (p ∷ ps) h k = with_within n (merge a ps) p.0 p.1 (merge_within n a ps h k.1) k.0

-- an object of parameters that nests no deeper than a result may
abbrev pub IsShallowGiven : Pairs → Type 0
IsShallowGiven ps = depth (object (members_of ps)) ≤ most_nested

pub given_within : (ps : Pairs) → IsShallowGiven ps → AreWithin most_given ps
given_within ps h = within_members most_given ps (omega (arith, h))

shallow_given : (ps : Pairs) → AreWithin most_given ps → IsShallowGiven ps
shallow_given ps h = let within : members_depth (members_of ps) ≤ most_given = members_within most_given ps h in omega (arith, within)

merged_shallow : (own given : Pairs) → AreWithin most_within own → IsShallowGiven given → IsShallowGiven (merge own given)
merged_shallow own given h k = shallow_given (merge own given) (merge_within most_given own given (wider most_within most_given own (omega arith) h) (given_within given k))

-- ---- what a request gives

pub members_back : (ms : Members) → members_of (pairs_in ms) ≡ ms
members_back no_members = refl
members_back (member k v ms) = ap (member k v) (members_back ms)

members_given : (v : V) → depth v ≤ most_nested → IfOk (members_in v) IsShallowGiven
members_given null h = tt
members_given (boolean b) h = tt
members_given (whole z) h = tt
members_given (text s) h = tt
members_given (list vs) h = tt
members_given (object ms) h = subst (λ (x : Members). depth (object x) ≤ most_nested) (sym (members_back ms)) h

body_shallow : (body : List ℕ) → IfOk (body_params body) IsShallowGiven
body_shallow body =
    after (λ (v : V). depth v ≤ most_nested) IsShallowGiven (as_call (λ (v : V). v) BadValue (body_value body)) members_in
    (called (λ (v : V). depth v ≤ most_nested) (λ (v : V). depth v ≤ most_nested) (λ (v : V). v) BadValue (body_value body) (λ v h. h) (body_within body))
    members_given

params_shallow : (kind : CallKind) (body : List ℕ) → IfOk (params_of kind body) IsShallowGiven
params_shallow Invoke body = body_shallow body
params_shallow FireCall body = body_shallow body
params_shallow kind body = omega arith

abbrev pub IsShallowCall : Call → Type 0
IsShallowCall c = IsShallowGiven c.params

filled_shallow : (kind : CallKind) (query : List Pair) (c : Call) → IsShallowCall c → IsShallowCall (filled_call kind query c)
filled_shallow (ListEntities kind) query c h = h
filled_shallow ListActivations query c h = h
filled_shallow (PutEntity kind) query c h = h
filled_shallow Invoke query c h = h
filled_shallow kind query c h = h

pub call_shallow : (here : List ℕ) (p : Parts) → IfOk (call_of_kind here (call_kind p.route p.method) p) IsShallowCall
call_shallow here p =
    let kind = call_kind p.route p.method in
    after_any IsShallowCall (checked_query kind p.query) _ (λ right.
    after_any IsShallowCall (path_name here p.route) _ (λ name.
    after_any IsShallowCall (draft_of kind name p.body) _ (λ draft.
    after IsShallowGiven IsShallowCall (params_of kind p.body) _ (params_shallow kind p.body) (λ params shallow.
    after_any IsShallowCall (active_of kind p.body) _ (λ active. filled_shallow kind p.query (bare_call kind name draft params active) shallow)))))

-- ---- the record

pub trigger_good : (name : FullName) (t : Trigger) (rs : List Row) → AreWritable rs → found kinds.Trigger name rs ≡ Some (rows.Trigger t) → IsLastingRow (rows.Trigger t)
trigger_good name t rs all is = subst (λ (o : Option Row). IfSome o IsLastingRow) is (found_lasts (is_row kinds.Trigger name) rs all)

own_within : (t : Trigger) → IsLastingRow (rows.Trigger t) → AreWithin most_within t.params
unfolding row_value
own_within t h = (trigger_read t (leb-true (depth (trigger_value t)) most_nested h.lasts.shallow)).0

-- a fire of a trigger that lasts, with parameters of a request, at a moment that may be kept
module _ (t : Trigger) (given : Pairs) (f : Fire) (lines : List (List ℕ)) (good : IsLastingRow (rows.Trigger t)) (shallow : IsShallowGiven given)
    (version : f.version ≡ t.version) (params : f.params ≡ merge t.params given) (small : f.at ≤ GREATEST_MOMENT) (counted : 1 ≤ f.id.count) where
  params_so : IsShallowGiven f.params
  params_so = subst IsShallowGiven (sym params) (merged_shallow t.params given (own_within t good) shallow)

  version_so : is_version f.version ≡ true
  version_so = ap is_version version ∙ (and_parts (is_version t.version) (stands_alone t.name) good.lasts.fit).0

  pub fire_lasts : IsLasting (items.Done (trigger_record f lines))
  fire_lasts = record {
    shallow = fires_shallow f lines params_so;
    fit = and_from (nat_le 1 f.id.count) (is_moment f.at && (is_called None f.version None && true)) (le-leb 1 f.id.count counted)
        (and_from (is_moment f.at) (is_called None f.version None && true) (le-leb f.at GREATEST_MOMENT small)
        (and_from (is_called None f.version None) true (and_from (is_version f.version) true version_so refl) refl));
  }
