-- What a request calls for, or why it is no call.
use Rattle.std.specs.Prelude.{ℕ, List, [], ◌∷◌, Bool, false, codes, Option, Some, None, Result, Ok, Err}
use Rattle.ow_value.specs.Value.{V, Pairs, object, no_members}
use Rattle.ow_value.specs.Field.{pairs_in}
use Rattle.ow_value.specs.Nesting.{most_nested}
use Rattle.ow_value.specs.Read.{reading}
use Rattle.ow_value.specs.declared.reader.ValueRefusal.{ValueRefusal}
use Rattle.ow_names.specs.Name.{first_fault}
use Rattle.ow_names.specs.Path.{named_in}
use Rattle.ow_names.specs.declared.full.FullName.{FullName}
use Rattle.ow_entity.specs.Body.{entity_of}
use Rattle.ow_entity.specs.Status.{status_in}
use Rattle.ow_entity.specs.declared.field_name.FieldName.TheVariants as fields
use Rattle.ow_entity.specs.declared.kinds.EntityKind.{EntityKind}
use Rattle.ow_entity.specs.declared.kinds.EntityKind.TheVariants as kinds
use Rattle.ow_entity.specs.declared.refusal.EntityRefusal.TheVariants.{WrongType}
use Rattle.ow_entity.specs.declared.rows.Draft.{Draft}
use Rattle.ow_http.specs.declared.call.Call.{Call}
use Rattle.ow_http.specs.declared.call_kind.CallKind.{CallKind}
use Rattle.ow_http.specs.declared.call_kind.CallKind.TheVariants.{ListEntities, ListActivations, PutEntity, Invoke, Fire, SetRule}
use Rattle.ow_http.specs.declared.call_refusal.CallRefusal.{CallRefusal}
use Rattle.ow_http.specs.declared.call_refusal.CallRefusal.TheVariants.{BadQuery, BadName, BadValue, BadEntity}
use Rattle.ow_http.specs.declared.route.Route.{Route}
use Rattle.ow_http.specs.declared.route.Route.TheVariants as route
use Rattle.ow_http.specs.CallKind.{kind_of}
use Rattle.ow_http.specs.Pair.{Pair}
use Rattle.ow_http.specs.Parts.{Parts}
use Rattle.ow_http.specs.Steps.{◌>>=◌}
use Rattle.ow_http.specs.Values.{first_wrong, first_named, flag_of, number_or, limit_of}

-- what a reading gives, or its refusal as one of a call
abbrev pub as_call : {A B E : Type 0} → (A → B) → (E → CallRefusal) → Result A E → Result B CallRefusal
as_call ok err (Ok x) = Ok (ok x)
as_call ok err (Err e) = Err (err e)

-- the refusal of a fault, where there is one
abbrev pub checked : {A : Type 0} → (A → CallRefusal) → Option A → Result (Unit {0}) CallRefusal
checked refusal None = Ok tt
checked refusal (Some fault) = Err (refusal fault)

-- no value of the query that counts is wrong
abbrev pub checked_query : CallKind → List Pair → Result (Unit {0}) CallRefusal
checked_query kind query = checked (λ pair. BadQuery pair.0) (first_wrong kind query)

-- ---- the names of the path

-- a list has no name of its own, but its namespace is looked at
abbrev pub list_name : List ℕ → Result (Option FullName) CallRefusal
list_name namespace = do
  right ← checked BadName (first_fault namespace)
  Ok None

-- the package that the path names; only actions lie in packages
abbrev pub package_for : EntityKind → Option (List ℕ) → Option (List ℕ)
package_for kinds.Action inside = inside
package_for kinds.Package inside = None
package_for kinds.Rule inside = None
package_for kinds.Trigger inside = None

-- the full name of what the path names
abbrev pub name_of : List ℕ → Route → Result (Option FullName) CallRefusal
name_of home (route.Entity namespace kind inside name) = as_call Some BadName (named_in home namespace (package_for kind inside) name)
name_of home (route.List namespace kind) = list_name namespace
name_of home (route.Activations namespace) = list_name namespace
name_of home other = Ok None

-- ---- the body

-- an empty body is an object without members
abbrev pub body_value : List ℕ → Result V ValueRefusal
body_value [] = Ok (object no_members)
body_value (b ∷ bs) = reading most_nested (b ∷ bs)

-- the entity of this kind and name that a body gives
abbrev pub body_draft : EntityKind → FullName → List ℕ → Result (Option Draft) CallRefusal
body_draft kind name body = do
  value ← as_call (λ v. v) BadValue (body_value body)
  as_call Some BadEntity (entity_of kind name value)

-- the entity that is put
abbrev pub draft_of : CallKind → Option FullName → List ℕ → Result (Option Draft) CallRefusal
draft_of (PutEntity kind) (Some name) body = body_draft kind name body
draft_of kind name body = Ok None

-- the members of an object
abbrev pub members_in : V → Result Pairs CallRefusal
members_in (object ps) = Ok (pairs_in ps)
members_in v = Err (BadEntity (WrongType fields.Body))

-- the parameters that a body gives, which is to be an object
abbrev pub body_params : List ℕ → Result Pairs CallRefusal
body_params body = do
  value ← as_call (λ v. v) BadValue (body_value body)
  members_in value

-- the parameters of an invocation or a fire
abbrev pub params_of : CallKind → List ℕ → Result Pairs CallRefusal
params_of Invoke body = body_params body
params_of Fire body = body_params body
params_of kind body = Ok []

-- whether the rule is to be active
abbrev pub body_status : List ℕ → Result (Option Bool) CallRefusal
body_status body = do
  value ← as_call (λ v. v) BadValue (body_value body)
  as_call Some BadEntity (status_in value)

-- the status to which a rule is set
abbrev pub active_of : CallKind → List ℕ → Result (Option Bool) CallRefusal
active_of SetRule body = body_status body
active_of kind body = Ok None

-- ---- the call

-- what is called for, without the values of the query
abbrev pub bare_call : CallKind → Option FullName → Option Draft → Pairs → Option Bool → Call
bare_call kind name draft params active = record {
  kind = kind;
  name = name;
  overwrite = false;
  blocking = false;
  result_only = false;
  skip = 0;
  limit = 0;
  draft = draft;
  params = params;
  active = active;
}

abbrev pub paged_call : List Pair → Call → Call
paged_call query c = record c { skip = number_or 0 (first_named (codes "skip") query); limit = limit_of query }

-- with the values of the query that count
abbrev pub filled_call : CallKind → List Pair → Call → Call
filled_call (ListEntities kind) query c = paged_call query c
filled_call ListActivations query c = paged_call query c
filled_call (PutEntity kind) query c = record c { overwrite = flag_of (codes "overwrite") query }
filled_call Invoke query c = record c { blocking = flag_of (codes "blocking") query; result_only = flag_of (codes "result") query }
filled_call other query c = c

abbrev pub call_of_kind : List ℕ → CallKind → Parts → Result Call CallRefusal
call_of_kind home kind p = do
  right ← checked_query kind p.query
  name ← name_of home p.route
  draft ← draft_of kind name p.body
  params ← params_of kind p.body
  active ← active_of kind p.body
  Ok (filled_call kind p.query (bare_call kind name draft params active))

-- the query is looked at first, then the names of the path, then the body
abbrev pub call_of : List ℕ → Parts → Result Call CallRefusal
call_of home p = call_of_kind home (kind_of p.route p.method) p
