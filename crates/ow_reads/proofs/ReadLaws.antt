-- What the caller sees, where the read is granted.
use Rattle.std.proofs.Common.{◌≡◌, ◌∙◌, ◌||◌, ◌==◌, ◌⊎◌, ℕ, Bool, true, false, not, List, Option, Some, None, Result, Ok, Err, map, take, drop, refl, sym, ap, subst, inl, inr}
use Rattle.std.specs.Result.{result_ok}
use Rattle.std.specs.Str.{bytes_eq}
use Rattle.std.proofs.lemmas.Bool.{and_parts}
use Rattle.std.proofs.lemmas.Slice.Eq.{bytes_eq-Decides}
use Rattle.ow_names.specs.Path.{home, named, named_in, or_fault}
use Rattle.ow_names.specs.Name.{first_fault}
use Rattle.ow_names.specs.declared.full.FullName.{FullName}
use Rattle.ow_names.specs.declared.refusal.NameRefusal.{NameRefusal}
use Rattle.ow_entity.specs.declared.kinds.EntityKind.{EntityKind}
use Rattle.ow_entity.specs.declared.kinds.EntityKind.TheVariants as kinds
use Rattle.ow_entity.specs.declared.rows.Row.{Row}
use Rattle.ow_entity.specs.Row.{kind_of as row_kind, name_of}
use Rattle.ow_entity.specs.Written.{summary_value}
use Rattle.ow_packages.specs.Access.{package_of}
use Rattle.ow_tables.specs.Rows.{AreRows, kind_place, listing, stands_in}
use Rattle.ow_records.specs.declared.record.Record.{Record}
use Rattle.ow_http.specs.CallOf.{active_of, as_call, bare_call, call_of_kind, checked_query, draft_of, filled_call, name_of as name_of_path, package_for, params_of}
use Rattle.ow_http.specs.CallKind.{kind_of}
use Rattle.ow_http.specs.Pair.{Pair}
use Rattle.ow_http.specs.Parts.{Parts}
use Rattle.ow_http.specs.Steps.{◌>>=◌}
use Rattle.ow_http.specs.declared.call.Call.{Call}
use Rattle.ow_http.specs.declared.call_kind.CallKind.{CallKind}
use Rattle.ow_http.specs.declared.call_kind.CallKind.TheVariants as calls
use Rattle.ow_http.specs.declared.call_refusal.CallRefusal.{CallRefusal}
use Rattle.ow_http.specs.declared.call_refusal.CallRefusal.TheVariants.{BadName}
use Rattle.ow_http.specs.declared.reason.Reason.{Reason}
use Rattle.ow_http.specs.declared.route.Route.{Route}
use Rattle.ow_http.specs.declared.route.Route.TheVariants as route
use Rattle.ow_reads.specs.Acts.{call_for, granted_call}
use Rattle.ow_reads.specs.Named.{AreNamed}
use Rattle.ow_reads.specs.Reading.{entity_package, is_opened, is_shared_at, namespace_of, or_call_reason, path_package, read_call, read_done, read_kind, read_value, row_read}
use Rattle.ow_reads.specs.Shown.{shown_row}
use Rattle.ow_reads.specs.declared.acts.Reading.{Reading}
use Rattle.ow_reads.specs.declared.acts.Act.TheVariants.{Reads}
use Rattle.ow_reads.specs.declared.acts.Reading.TheVariants.{Namespaces, Rows, Row as OneRow, Activations, Activation}
use Rattle.ow_value.specs.Value.{V, list, items_of}
use Rattle.ow_value.specs.ByText.{ByText}
use Rattle.ow_tenant.specs.declared.entries.Holder.{Holder}
use Rattle.ow_tenant.specs.declared.rights.Right.TheVariants.{Read}
use Rattle.ow_tenant.specs.declared.rights.Rights.{Rights}
use Rattle.ow_reads.specs.Reasons.{no_route, not_found, not_granted}
use Rattle.ow_reads.specs.Steps.{or_else, unless}
use Rattle.ow_reads.specs.Tenants.{may}
use Rattle.ow_reads.specs.View.{is_visible, may_read, view_over, visible_rows}
use Rattle.ow_reads.proofs.Filters.{filter_filter}
use Rattle.ow_reads.proofs.SeenLaws.{IsOpenTo, granting, only_left, option_shown, shared_at_seen, value_seen, visible_own}

-- ---- the grant

opened_seen : (rights : ByText Rights) (rs : List Row) (here : List ℕ) (r : Route) (kind : Option EntityKind) → AreRows rs → is_opened here (visible_rows rights rs) r kind ≡ is_opened here rs r kind
opened_seen rights rs here r None ordered = refl
opened_seen rights rs here r (Some kind) ordered = shared_at_seen rights rs (path_package here r kind) ordered

-- the same shared packages grant a read, whether they are looked up among what is seen or among all rows
same_grant : (rs : List Row) (h : Holder) (reading : Reading) (p : Parts) → AreRows rs
    → (unless (not (may h Read (namespace_of p.route) || is_opened h.home (visible_rows h.rights rs) p.route (read_kind reading))) not_granted >>= (λ (u : Unit {0}). call_for h p))
    ≡ (unless (not (may h Read (namespace_of p.route) || is_opened h.home rs p.route (read_kind reading))) not_granted >>= (λ (u : Unit {0}). call_for h p))
same_grant rs h reading p ordered =
    ap (λ (b : Bool). unless (not (may h Read (namespace_of p.route) || b)) not_granted >>= (λ (u : Unit {0}). call_for h p)) (opened_seen h.rights rs h.home p.route (read_kind reading) ordered)

-- over the view of a key a read gets the same call, or the same refusal, as `granted_call` gives over all rows
pub same_call : (rs : List Row) (ended : List Record) (h : Holder) (reading : Reading) (p : Parts) → AreRows rs → read_call (view_over rs ended h) reading p ≡ granted_call h rs (Reads reading) p
same_call rs ended h Namespaces p ordered = refl
same_call rs ended h (Rows kind) p ordered = same_grant rs h (Rows kind) p ordered
same_call rs ended h (OneRow kind) p ordered = same_grant rs h (OneRow kind) p ordered
same_call rs ended h Activations p ordered = same_grant rs h Activations p ordered
same_call rs ended h (Activation part) p ordered = same_grant rs h (Activation part) p ordered

-- ---- what is granted may be read

pub then_granted : (b : Bool) (r : Result Call Reason) (c : Call) → (unless (not b) not_granted >>= (λ (u : Unit {0}). r)) ≡ Ok c → (b ≡ true) × (r ≡ Ok c)
then_granted true r c is = (refl, is)
then_granted false r c is = cc

-- where no shared package grants it, the right was granted
pub granted_right : (h : Holder) (p : Parts) (c : Call) → (unless (not (may h Read (namespace_of p.route) || false)) not_granted >>= (λ (u : Unit {0}). call_for h p)) ≡ Ok c
    → may_read h.rights (home h.home (namespace_of p.route)) ≡ true
granted_right h p c is = only_left _ (then_granted (may h Read (namespace_of p.route) || false) (call_for h p) c is).0

pub or_ok : (r : Result Call CallRefusal) (c : Call) → or_call_reason r ≡ Ok c → r ≡ Ok c
or_ok (Ok x) c is = let h : x ≡ c = cc in ap Ok h
or_ok (Err e) c is = cc

-- ---- the name of a call lies in the namespace of its path

fault_free : (o : Option NameRefusal) (r : Result FullName NameRefusal) (n : FullName) → or_fault o r ≡ Ok n → r ≡ Ok n
fault_free None r n is = is
fault_free (Some e) r n is = cc

in_namespace : (here namespace name : List ℕ) (inside : Option (List ℕ)) (n : FullName) → named_in here namespace inside name ≡ Ok n → n.namespace ≡ home here namespace
in_namespace here namespace name None n is =
    let a = fault_free (first_fault namespace) _ n is in
    let b = fault_free (first_fault name) _ n a in cc
in_namespace here namespace name (Some parent) n is =
    let a = fault_free (first_fault namespace) _ n is in
    let b = fault_free (first_fault parent) _ n a in
    let d = fault_free (first_fault name) _ n b in cc

pub then_by : {A B E : Type 0} (r : Result A E) (f : A → Result B E) (y : B) → (r >>= f) ≡ Ok y → (x : A) × (r ≡ Ok x) × (f x ≡ Ok y)
then_by (Ok x) f y is = (x, refl, is)
then_by (Err e) f y is = cc

filled_name : (kind : CallKind) (query : List Pair) (c : Call) → (filled_call kind query c).name ≡ c.name
filled_name calls.ListNamespaces query c = refl
filled_name (calls.ListEntities kind) query c = refl
filled_name (calls.GetEntity kind) query c = refl
filled_name (calls.PutEntity kind) query c = refl
filled_name (calls.DeleteEntity kind) query c = refl
filled_name calls.Invoke query c = refl
filled_name calls.Fire query c = refl
filled_name calls.SetRule query c = refl
filled_name calls.ListActivations query c = refl
filled_name (calls.GetActivation part) query c = refl
filled_name calls.Web query c = refl
filled_name calls.NotTaken query c = refl

as_named : (r : Result FullName NameRefusal) (n : FullName) → as_call Some BadName r ≡ Ok (Some n) → r ≡ Ok n
as_named (Ok m) n is = let h : Some m ≡ Some n = cc in let g : m ≡ n = cc in ap Ok g
as_named (Err e) n is = cc

abbrev nameless : Result (Option FullName) CallRefusal
nameless = Ok None

no_name : (n : FullName) → nameless ≡ Ok (Some n) → ⊥
no_name n is = cc

unnamed : (r : Result (Unit {0}) CallRefusal) (n : FullName) → (r >>= (λ (u : Unit {0}). nameless)) ≡ Ok (Some n) → ⊥
unnamed (Ok u) n is = no_name n is
unnamed (Err e) n is = cc

path_namespace : (here : List ℕ) (r : Route) (n : FullName) → name_of_path here r ≡ Ok (Some n) → n.namespace ≡ home here (namespace_of r)
path_namespace here (route.Entity namespace kind inside name) n is = in_namespace here namespace name (package_for kind inside) n (as_named _ n is)
path_namespace here (route.List namespace kind) n is = absurd (unnamed _ n is)
path_namespace here (route.Activations namespace) n is = absurd (unnamed _ n is)
path_namespace here route.Namespaces n is = absurd (no_name n is)
path_namespace here (route.Activation namespace id part) n is = absurd (no_name n is)
path_namespace here (route.Web namespace inside name rest) n is = absurd (no_name n is)

path_name : (here : List ℕ) (kind : CallKind) (p : Parts) (c : Call) (n : FullName) → call_of_kind here kind p ≡ Ok c → c.name ≡ Some n → name_of_path here p.route ≡ Ok (Some n)
path_name here kind p c n is name_is =
    let q = then_by (checked_query kind p.query) _ c is in
    let m = then_by (name_of_path here p.route) _ c q.2 in
    let d = then_by (draft_of kind m.0 p.body) _ c m.2 in
    let ps = then_by (params_of kind p.body) _ c d.2 in
    let a = then_by (active_of kind p.body) _ c ps.2 in
    let made : filled_call kind p.query (bare_call kind m.0 d.0 ps.0 a.0) ≡ c = cc in
    let same : m.0 ≡ Some n = sym (filled_name kind p.query (bare_call kind m.0 d.0 ps.0 a.0)) ∙ (ap (λ (x : Call). x.name) made ∙ name_is) in
    m.1 ∙ ap Ok same

-- ---- what a shared package grants

fault_none : (o : Option NameRefusal) (r : Result FullName NameRefusal) (n : FullName) → or_fault o r ≡ Ok n → o ≡ None
fault_none None r n is = refl
fault_none (Some e) r n is = cc

-- the package of an action's path is the one in which its name lies
lying_package : (here namespace parent name : List ℕ) (n : FullName) → named_in here namespace (Some parent) name ≡ Ok n → result_ok (named_in here namespace None parent) ≡ package_of n
lying_package here namespace parent name n is =
    let a = fault_none (first_fault namespace) _ n is in
    let a' = fault_free (first_fault namespace) _ n is in
    let b = fault_none (first_fault parent) _ n a' in
    let b' = fault_free (first_fault parent) _ n a' in
    let d = fault_free (first_fault name) _ n b' in
    let made : record { namespace = home here namespace; «package» = Some parent; name = name } ≡ n = cc in
    rw (a, b) (ap package_of made)

entity_named : (here namespace : List ℕ) (inside : Option (List ℕ)) (name : List ℕ) (kind : EntityKind) (n : FullName) → named_in here namespace inside name ≡ Ok n
    → (entity_package here namespace inside name kind ≡ None) ⊎ (entity_package here namespace inside name kind ≡ granting kind n)
entity_named here namespace None name kinds.Action n is = inl refl
entity_named here namespace (Some parent) name kinds.Action n is = inr (lying_package here namespace parent name n is)
entity_named here namespace inside name kinds.Package n is = inr (ap result_ok is)
entity_named here namespace inside name kinds.Rule n is = inl refl
entity_named here namespace inside name kinds.Trigger n is = inl refl

package_named : (here : List ℕ) (r : Route) (kind : EntityKind) (n : FullName) → name_of_path here r ≡ Ok (Some n) → (path_package here r kind ≡ None) ⊎ (path_package here r kind ≡ granting kind n)
package_named here (route.Entity namespace k inside name) kind n is = entity_named here namespace (package_for k inside) name kind n (as_named _ n is)
package_named here (route.List namespace k) kind n is = inl refl
package_named here (route.Activations namespace) kind n is = inl refl
package_named here route.Namespaces kind n is = inl refl
package_named here (route.Activation namespace id part) kind n is = inl refl
package_named here (route.Web namespace inside name rest) kind n is = inl refl

open_by : (rs : List Row) (a : Bool) (o e : Option FullName) → (o ≡ None) ⊎ (o ≡ e) → (a || is_shared_at rs o) ≡ true → (a || is_shared_at rs e) ≡ true
open_by rs true o e either opened = refl
open_by rs false o e (inl none) opened = let h : is_shared_at rs None ≡ true = subst (λ (x : Option FullName). is_shared_at rs x ≡ true) none opened in cc
open_by rs false o e (inr same) opened = subst (λ (x : Option FullName). is_shared_at rs x ≡ true) same opened

-- an entity whose reading is granted lies in a namespace that may be read, or belongs to a shared package
pub granted_open : (h : Holder) (rs : List Row) (kind : EntityKind) (p : Parts) (c : Call) (n : FullName) → granted_call h rs (Reads (OneRow kind)) p ≡ Ok c → c.name ≡ Some n
    → IsOpenTo h.rights rs kind n
granted_open h rs kind p c n is name_is =
    let g = then_granted (may h Read (namespace_of p.route) || is_shared_at rs (path_package h.home p.route kind)) (call_for h p) c is in
    let path = path_name h.home (kind_of p.route p.method) p c n (or_ok _ c g.1) name_is in
    let there = path_namespace h.home p.route n path in
    ap (λ (ns : List ℕ). may_read h.rights ns || is_shared_at rs (granting kind n)) there
    ∙ open_by rs (may h Read (namespace_of p.route)) (path_package h.home p.route kind) (granting kind n) (package_named h.home p.route kind n path) g.0

-- ---- rows

pub turned : (xs ys : List ℕ) → bytes_eq xs ys ≡ true → bytes_eq ys xs ≡ true
turned xs ys same = (bytes_eq-Decides ys xs).1 (sym ((bytes_eq-Decides xs ys).0 same))

stands_visible : (rights : ByText Rights) (here : List ℕ) (rs : List Row) (kind : EntityKind) (r : Row) → may_read rights here ≡ true → stands_in kind here r ≡ true → is_visible rights rs r ≡ true
stands_visible rights here rs kind r reads stands =
    let there : here ≡ (name_of r).namespace = (bytes_eq-Decides here (name_of r).namespace).0 (turned (name_of r).namespace here (turned here (name_of r).namespace (and_parts (kind_place kind == kind_place (row_kind r)) _ stands).1)) in
    visible_own rights rs r (ap (may_read rights) (sym there) ∙ reads)

-- the list of the rows of a namespace that may be read is a list of all rows
pub read_listing : (rights : ByText Rights) (here : List ℕ) (kind : EntityKind) (skip limit : ℕ) (rs : List Row) → may_read rights here ≡ true
    → listing kind here skip limit (visible_rows rights rs) ≡ listing kind here skip limit rs
read_listing rights here kind skip limit rs reads = ap (λ (xs : List Row). map summary_value (take limit (drop skip xs)))
    (filter_filter (stands_in kind here) (is_visible rights rs) rs (λ r stands. stands_visible rights here rs kind r reads stands))

-- a value is shown
abbrev pub shows : V → Result V Reason
shows v = Ok v

-- what a list of the rows of a namespace shows
pub rows_shown : (rs : List Row) (ended : List Record) (h : Holder) (p : Parts) (c : Call) (kind : EntityKind) (vs : List V) → granted_call h rs (Reads (Rows kind)) p ≡ Ok c
    → vs ≡ listing kind (home h.home (namespace_of p.route)) c.skip c.limit rs → shows (list (items_of vs)) ≡ read_value (view_over rs ended h) (Rows kind) p c
rows_shown rs ended h p c kind vs granted is = ap (λ (xs : List V). shows (list (items_of xs)))
    (is ∙ sym (read_listing h.rights (home h.home (namespace_of p.route)) kind c.skip c.limit rs (granted_right h p c granted)))

or_shown : (rs : List Row) (o : Option Row) → (or_else o not_found >>= (λ (r : Row). shows (shown_row rs r))) ≡ or_else (option_shown rs o) not_found
or_shown rs None = refl
or_shown rs (Some r) = refl

-- what is shown of the row of a name
pub row_shown : (rs : List Row) (ended : List Record) (h : Holder) (p : Parts) (c : Call) (kind : EntityKind) (n : FullName) (o : Option V) → AreRows rs → granted_call h rs (Reads (OneRow kind)) p ≡ Ok c → c.name ≡ Some n
    → AreNamed rs kind n → option_shown rs (row_read rs kind n) ≡ o → or_else o not_found ≡ read_value (view_over rs ended h) (OneRow kind) p c
row_shown rs ended h p c kind n o ordered granted name_is named is =
    let V' = visible_rows h.rights rs in
    ap (λ (x : Option V). or_else x not_found) (sym is ∙ sym (value_seen h.rights rs kind n ordered (granted_open h rs kind p c n granted name_is) named))
    ∙ (sym (or_shown V' (row_read V' kind n))
    ∙ ap (λ (x : Option FullName). or_else x no_route >>= (λ (name : FullName). or_else (row_read V' kind name) not_found >>= (λ (r : Row). shows (shown_row V' r)))) (sym name_is))

-- ---- what is shown of a call that is granted

pub read_so : (rs : List Row) (ended : List Record) (h : Holder) (reading : Reading) (p : Parts) (c : Call) → AreRows rs → granted_call h rs (Reads reading) p ≡ Ok c
    → read_done (view_over rs ended h) reading p ≡ read_value (view_over rs ended h) reading p c
read_so rs ended h reading p c ordered granted = ap (λ (r : Result Call Reason). r >>= read_value (view_over rs ended h) reading p) (same_call rs ended h reading p ordered ∙ granted)

pub read_refused : (rs : List Row) (ended : List Record) (h : Holder) (reading : Reading) (p : Parts) (e : Reason) → AreRows rs → granted_call h rs (Reads reading) p ≡ Err e → read_done (view_over rs ended h) reading p ≡ Err e
read_refused rs ended h reading p e ordered refused = ap (λ (r : Result Call Reason). r >>= read_value (view_over rs ended h) reading p) (same_call rs ended h reading p ordered ∙ refused)
