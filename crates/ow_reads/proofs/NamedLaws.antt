-- The namespace of a path that is listed is a name.
use Rattle.std.proofs.Common.{◌≡◌, ◌||◌, ℕ, Bool, true, false, List, Option, Some, None, Ok, refl}
use Rattle.ow_entity.specs.declared.kinds.EntityKind.{EntityKind}
use Rattle.ow_entity.specs.declared.kinds.EntityKind.TheVariants as kinds
use Rattle.ow_entity.specs.declared.rows.Row.{Row}
use Rattle.ow_names.specs.Name.{first_fault}
use Rattle.ow_names.specs.declared.full.FullName.{FullName}
use Rattle.ow_names.specs.declared.refusal.NameRefusal.{NameRefusal}
use Rattle.ow_http.specs.CallKind.{kind_of}
use Rattle.ow_http.specs.CallOf.{call_of, checked, checked_query, name_of as name_of_path}
use Rattle.ow_http.specs.Parts.{Parts}
use Rattle.ow_http.specs.Steps.{◌>>=◌}
use Rattle.ow_http.specs.declared.call.Call.{Call}
use Rattle.ow_http.specs.declared.call_refusal.CallRefusal.TheVariants.{BadName}
use Rattle.ow_http.specs.declared.route.Route.{Route}
use Rattle.ow_http.specs.declared.route.Route.TheVariants as route
use Rattle.ow_http.specs.declared.verb.Verb.{Verb}
use Rattle.ow_http.specs.declared.verb.Verb.TheVariants as verbs
use Rattle.ow_tenant.specs.declared.entries.Holder.{Holder}
use Rattle.ow_tenant.specs.declared.rights.Right.TheVariants.{Read}
use Rattle.ow_reads.specs.Acts.{act_of, call_for, granted_call}
use Rattle.ow_reads.specs.Reading.{namespace_of}
use Rattle.ow_reads.specs.Tenants.{may}
use Rattle.ow_reads.specs.declared.acts.Act.TheVariants.{Reads}
use Rattle.ow_reads.specs.declared.acts.Reading.{Reading}
use Rattle.ow_reads.specs.declared.acts.Reading.TheVariants.{Namespaces, Rows, Row as OneRow, Activations, Activation}
use Rattle.ow_reads.proofs.ReadLaws.{or_ok, then_by, then_granted}

-- rows or records of a namespace are listed
abbrev lists : Reading → Bool
lists Namespaces = false
lists (Rows kind) = true
lists (OneRow kind) = false
lists Activations = true
lists (Activation part) = false

fault_none_of : (f : Option NameRefusal) (o : Option FullName) → (checked BadName f >>= (λ (u : Unit {0}). Ok None)) ≡ Ok o → f ≡ None
fault_none_of None o is = refl
fault_none_of (Some e) o is = cc

-- a path of one entity lists nothing
lists_no_entity : (namespace : List ℕ) (kind : EntityKind) (inside : Option (List ℕ)) (name : List ℕ) (m : Verb) (reading : Reading) → lists reading ≡ true
    → act_of (route.Entity namespace kind inside name) m ≡ Some (Reads reading) → ⊥
lists_no_entity namespace kinds.Action inside name verbs.Get reading lists_it act = cc
lists_no_entity namespace kinds.Action inside name verbs.Put reading lists_it act = cc
lists_no_entity namespace kinds.Action inside name verbs.Post reading lists_it act = cc
lists_no_entity namespace kinds.Action inside name verbs.Delete reading lists_it act = cc
lists_no_entity namespace kinds.Action inside name verbs.Patch reading lists_it act = cc
lists_no_entity namespace kinds.Action inside name verbs.Options reading lists_it act = cc
lists_no_entity namespace kinds.Package inside name verbs.Get reading lists_it act = cc
lists_no_entity namespace kinds.Package inside name verbs.Put reading lists_it act = cc
lists_no_entity namespace kinds.Package inside name verbs.Post reading lists_it act = cc
lists_no_entity namespace kinds.Package inside name verbs.Delete reading lists_it act = cc
lists_no_entity namespace kinds.Package inside name verbs.Patch reading lists_it act = cc
lists_no_entity namespace kinds.Package inside name verbs.Options reading lists_it act = cc
lists_no_entity namespace kinds.Trigger inside name verbs.Get reading lists_it act = cc
lists_no_entity namespace kinds.Trigger inside name verbs.Put reading lists_it act = cc
lists_no_entity namespace kinds.Trigger inside name verbs.Post reading lists_it act = cc
lists_no_entity namespace kinds.Trigger inside name verbs.Delete reading lists_it act = cc
lists_no_entity namespace kinds.Trigger inside name verbs.Patch reading lists_it act = cc
lists_no_entity namespace kinds.Trigger inside name verbs.Options reading lists_it act = cc
lists_no_entity namespace kinds.Rule inside name verbs.Get reading lists_it act = cc
lists_no_entity namespace kinds.Rule inside name verbs.Put reading lists_it act = cc
lists_no_entity namespace kinds.Rule inside name verbs.Post reading lists_it act = cc
lists_no_entity namespace kinds.Rule inside name verbs.Delete reading lists_it act = cc
lists_no_entity namespace kinds.Rule inside name verbs.Patch reading lists_it act = cc
lists_no_entity namespace kinds.Rule inside name verbs.Options reading lists_it act = cc

named_list : (here : List ℕ) (r : Route) (m : Verb) (reading : Reading) (o : Option FullName) → lists reading ≡ true → act_of r m ≡ Some (Reads reading) → name_of_path here r ≡ Ok o → first_fault (namespace_of r) ≡ None
named_list here (route.List namespace k) m reading o lists_it act named = fault_none_of (first_fault namespace) o named
named_list here (route.Activations namespace) m reading o lists_it act named = fault_none_of (first_fault namespace) o named
named_list here route.Namespaces verbs.Get reading o lists_it act named = cc
named_list here route.Namespaces verbs.Put reading o lists_it act named = cc
named_list here route.Namespaces verbs.Post reading o lists_it act named = cc
named_list here route.Namespaces verbs.Delete reading o lists_it act named = cc
named_list here route.Namespaces verbs.Patch reading o lists_it act named = cc
named_list here route.Namespaces verbs.Options reading o lists_it act named = cc
named_list here (route.Activation namespace id part) verbs.Get reading o lists_it act named = cc
named_list here (route.Activation namespace id part) verbs.Put reading o lists_it act named = cc
named_list here (route.Activation namespace id part) verbs.Post reading o lists_it act named = cc
named_list here (route.Activation namespace id part) verbs.Delete reading o lists_it act named = cc
named_list here (route.Activation namespace id part) verbs.Patch reading o lists_it act named = cc
named_list here (route.Activation namespace id part) verbs.Options reading o lists_it act named = cc
named_list here (route.Entity namespace kind inside name) m reading o lists_it act named = absurd (lists_no_entity namespace kind inside name m reading lists_it act)
named_list here (route.Web namespace inside name rest) verbs.Get reading o lists_it act named = cc
named_list here (route.Web namespace inside name rest) verbs.Put reading o lists_it act named = cc
named_list here (route.Web namespace inside name rest) verbs.Post reading o lists_it act named = cc
named_list here (route.Web namespace inside name rest) verbs.Delete reading o lists_it act named = cc
named_list here (route.Web namespace inside name rest) verbs.Patch reading o lists_it act named = cc
named_list here (route.Web namespace inside name rest) verbs.Options reading o lists_it act named = cc

called_named : (h : Holder) (reading : Reading) (p : Parts) (c : Call) → lists reading ≡ true → act_of p.route p.method ≡ Some (Reads reading) → call_of h.home p ≡ Ok c → first_fault (namespace_of p.route) ≡ None
called_named h reading p c lists_it act is =
    let q = then_by (checked_query (kind_of p.route p.method) p.query) _ c is in
    let m = then_by (name_of_path h.home p.route) _ c q.2 in
    named_list h.home p.route p.method reading m.0 lists_it act m.1

pub rows_named : (h : Holder) (rs : List Row) (kind : EntityKind) (p : Parts) (c : Call) → act_of p.route p.method ≡ Some (Reads (Rows kind)) → granted_call h rs (Reads (Rows kind)) p ≡ Ok c → first_fault (namespace_of p.route) ≡ None
rows_named h rs kind p c act granted =
    let g = then_granted (may h Read (namespace_of p.route) || false) (call_for h p) c granted in
    called_named h (Rows kind) p c refl act (or_ok _ c g.1)

pub records_named : (h : Holder) (rs : List Row) (p : Parts) (c : Call) → act_of p.route p.method ≡ Some (Reads Activations) → granted_call h rs (Reads Activations) p ≡ Ok c → first_fault (namespace_of p.route) ≡ None
records_named h rs p c act granted =
    let g = then_granted (may h Read (namespace_of p.route) || false) (call_for h p) c granted in
    called_named h Activations p c refl act (or_ok _ c g.1)
