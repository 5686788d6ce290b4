-- A fire leaves the view of each key that may not read in the namespace of its trigger.
use Rattle.std.proofs.Common.{◌≡◌, ◌∙◌, ◌++◌, ◌+◌, ℕ, false, List, [], ◌∷◌, IfOk, IfSome, Option, Some, None, Result, Ok, Err, append_assoc, refl, sym, ap, subst}
use Rattle.std.specs.List.{AllByRecursion}
use Rattle.ow_value.specs.Value.{Pairs}
use Rattle.ow_names.specs.Name.{first_fault}
use Rattle.ow_names.specs.Path.{home, named, named_in, or_fault}
use Rattle.ow_names.specs.declared.full.FullName.{FullName}
use Rattle.ow_names.specs.declared.refusal.NameRefusal.{NameRefusal}
use Rattle.ow_entity.specs.declared.rows.Row.{Row}
use Rattle.ow_entity.specs.declared.rules.Rule.{Rule}
use Rattle.ow_entity.specs.declared.triggers.Trigger.{Trigger}
use Rattle.ow_records.specs.declared.fires.Fire.{Fire}
use Rattle.ow_records.specs.declared.record.Record.{Record}
use Rattle.ow_rules.specs.Fired.{fired}
use Rattle.ow_floor.specs.Calls.{IsNext, draw_items}
use Rattle.ow_floor.specs.Laws.{IsSound}
use Rattle.ow_floor.specs.Trace.{Drawn, Trace, records}
use Rattle.ow_floor.specs.declared.activations.Plan.{Plan}
use Rattle.ow_floor.proofs.Drawn.{drawn_last}
use Rattle.ow_floor.proofs.Soundness.{sound_items}
use Rattle.ow_commits.proofs.Ids.{all_both}
use Rattle.ow_tables.specs.Rows.{standing}
use Rattle.ow_http.specs.CallKind.{kind_of}
use Rattle.ow_http.specs.CallOf.{active_of, as_call, bare_call, call_of, checked, checked_query, draft_of, filled_call, name_of as path_name, package_for, params_of}
use Rattle.ow_http.specs.Pair.{Pair}
use Rattle.ow_http.specs.Parts.{Parts}
use Rattle.ow_http.specs.Request.{parts_of}
use Rattle.ow_http.specs.Steps.{◌>>=◌}
use Rattle.ow_http.specs.declared.call.Call.{Call}
use Rattle.ow_http.specs.declared.call_kind.CallKind.{CallKind}
use Rattle.ow_http.specs.declared.call_kind.CallKind.TheVariants.{ListEntities, ListActivations, PutEntity, Invoke}
use Rattle.ow_http.specs.declared.call_refusal.CallRefusal.{CallRefusal}
use Rattle.ow_http.specs.declared.call_refusal.CallRefusal.TheVariants.{BadName}
use Rattle.ow_http.specs.declared.reason.Reason.{Reason}
use Rattle.ow_http.specs.declared.route.Route.{Route}
use Rattle.ow_http.specs.declared.route.Route.TheVariants as route
use Rattle.ow_tenant.specs.Table.{Table}
use Rattle.ow_tenant.specs.Tenants.{holder_of}
use Rattle.ow_tenant.specs.declared.entries.Holder.{Holder}
use Rattle.ow_reads.specs.Acts.{act_of, call_for, grant_for, granted_call}
use Rattle.ow_reads.specs.Reading.{name_in, namespace_of, or_call_reason}
use Rattle.ow_reads.specs.Reasons.{no_route, unknown_key}
use Rattle.ow_reads.specs.Steps.{or_else}
use Rattle.ow_reads.specs.Tenants.{asker}
use Rattle.ow_reads.specs.View.{is_visible_record, may_read}
use Rattle.ow_reads.specs.declared.acts.Act.{Act}
use Rattle.ow_reads.specs.declared.acts.Act.TheVariants.{Fires}
use Rattle.ow_decide.specs.Asking.{Done, Shown, Changed, Invoked, Quiet, Fired, act_done, ask_decision, change_done, request_done, rules_done}
use Rattle.ow_decide.specs.Decision.{items_changes}
use Rattle.ow_decide.specs.Decisions.{is_opening}
use Rattle.ow_decide.specs.Firing.{fire_plan, number_for, rule_plan, seeing, shot_items, trigger_for, within_fires}
use Rattle.ow_decide.specs.Calling.{fitting, plan_items}
use Rattle.ow_decide.specs.Reasons.{too_large}
use Rattle.ow_decide.specs.Sight.{Sight, room_for, store_room, takes_calls}
use Rattle.ow_decide.specs.declared.events.Event.{Event}
use Rattle.ow_decide.proofs.MadeLaws.{after_all, rule_so}
use Rattle.ow_decide.proofs.Results.{then_from, then_ok}
use Rattle.ow_hall.specs.History.{History, counted, decision, seen, sight}
use Rattle.ow_hall.proofs.Beginnings.{seen_sound}
use Rattle.ow_isolation.specs.Causes.{AreOfCauses}
use Rattle.ow_isolation.specs.Unseen.{FiresLeave, IsUnseen}
use Rattle.ow_isolation.proofs.CauseLaws.{all_caused, one_more}
use Rattle.ow_isolation.proofs.ReadLaws.{in_order}
use Rattle.ow_isolation.proofs.StepLaws.{AreIn, IsIn, IsInside, IsPlanOf, hidden_records, plan_in}
use Rattle.ow_isolation.proofs.UnseenLaws.{unseen_leaves}

-- ---- the name of a call is in the namespace of its path

next : {A B E : Type 0} (N : B → Type 0) (r : Result A E) (f : A → Result B E) → ((x : A) → IfOk (f x) N) → IfOk (r >>= f) N
next N (Ok x) f keeps = keeps x
next N (Err e) f keeps = tt

next_of : {A B E : Type 0} (M : A → Type 0) (N : B → Type 0) (r : Result A E) (f : A → Result B E) → IfOk r M → ((x : A) → M x → IfOk (f x) N) → IfOk (r >>= f) N
next_of M N (Ok x) f made keeps = keeps x made
next_of M N (Err e) f made keeps = tt

or_holds : (P : FullName → Type 0) (o : Option NameRefusal) (r : Result FullName NameRefusal) → IfOk r P → IfOk (or_fault o r) P
or_holds P None r h = h
or_holds P (Some e) r h = tt

some_named : (P : FullName → Type 0) (r : Result FullName NameRefusal) → IfOk r P → IfOk (as_call Some BadName r) (λ (o : Option FullName). IfSome o P)
some_named P (Ok name) h = h
some_named P (Err e) h = tt

-- the name is in this namespace
abbrev pub StandsIn : List ℕ → FullName → Type 0
StandsIn namespace n = n.namespace ≡ namespace

named_there : (here namespace : List ℕ) (inside : Option (List ℕ)) (name : List ℕ) → IfOk (named_in here namespace inside name) (StandsIn (home here namespace))
named_there here namespace None name =
    or_holds (StandsIn (home here namespace)) (first_fault namespace) (named (home here namespace) None name)
    (or_holds (StandsIn (home here namespace)) (first_fault name) (Ok (record { namespace = home here namespace; «package» = None; name = name })) refl)
named_there here namespace (Some p) name =
    or_holds (StandsIn (home here namespace)) (first_fault namespace) (named (home here namespace) (Some p) name)
    (or_holds (StandsIn (home here namespace)) (first_fault p) (or_fault (first_fault name) (Ok (record { namespace = home here namespace; «package» = Some p; name = name })))
    (or_holds (StandsIn (home here namespace)) (first_fault name) (Ok (record { namespace = home here namespace; «package» = Some p; name = name })) refl))

abbrev IsNamedIn : List ℕ → Option FullName → Type 0
IsNamedIn namespace o = IfSome o (StandsIn namespace)

path_there : (here : List ℕ) (r : Route) → IfOk (path_name here r) (IsNamedIn (home here (namespace_of r)))
path_there here (route.Entity namespace kind inside name) =
    some_named (StandsIn (home here namespace)) (named_in here namespace (package_for kind inside) name) (named_there here namespace (package_for kind inside) name)
path_there here (route.List namespace kind) = next (IsNamedIn (home here namespace)) (checked BadName (first_fault namespace)) (λ (right : Unit {0}). Ok None) (λ right. tt)
path_there here (route.Activations namespace) = next (IsNamedIn (home here namespace)) (checked BadName (first_fault namespace)) (λ (right : Unit {0}). Ok None) (λ right. tt)
path_there here other = tt

abbrev pub IsCallIn : List ℕ → Call → Type 0
IsCallIn namespace c = IsNamedIn namespace c.name

filled_there : (namespace : List ℕ) (kind : CallKind) (query : List Pair) (c : Call) → IsCallIn namespace c → IsCallIn namespace (filled_call kind query c)
filled_there namespace (ListEntities kind) query c h = h
filled_there namespace ListActivations query c h = h
filled_there namespace (PutEntity kind) query c h = h
filled_there namespace Invoke query c h = h
filled_there namespace kind query c h = h

call_there : (here : List ℕ) (p : Parts) → IfOk (call_of here p) (IsCallIn (home here (namespace_of p.route)))
call_there here p =
    let kind = kind_of p.route p.method in
    let namespace = home here (namespace_of p.route) in
    next (IsCallIn namespace) (checked_query kind p.query) _ (λ right.
    next_of (IsNamedIn namespace) (IsCallIn namespace) (path_name here p.route) _ (path_there here p.route) (λ name there.
    next (IsCallIn namespace) (draft_of kind name p.body) _ (λ draft.
    next (IsCallIn namespace) (params_of kind p.body) _ (λ params.
    next (IsCallIn namespace) (active_of kind p.body) _ (λ active. filled_there namespace kind p.query (bare_call kind name draft params active) there)))))

or_reason : (P : Call → Type 0) (r : Result Call CallRefusal) → IfOk r P → IfOk (or_call_reason r) P
or_reason P (Ok c) h = h
or_reason P (Err e) h = tt

pub granted_there : (rs : List Row) (k : Holder) (act : Act) (p : Parts) → IfOk (granted_call k rs act p) (IsCallIn (home k.home (namespace_of p.route)))
granted_there rs k act p =
    next (IsCallIn (home k.home (namespace_of p.route))) (grant_for k rs act p) (λ (grant : Unit {0}). call_for k p)
    (λ grant. or_reason (IsCallIn (home k.home (namespace_of p.route))) (call_of k.home p) (call_there k.home p))

-- ---- what a fire adds is of the namespace of its trigger

-- the holder may not read in this namespace
abbrev pub IsClosed : Holder → List ℕ → Type 0
IsClosed h namespace = may_read h.rights namespace ≡ false

abbrev pub AreHidden : Holder → List Record → Type 0
AreHidden h rs = AllByRecursion (λ r. is_visible_record h.rights r ≡ false) rs

-- a rule's plan is charged to the trigger's namespace
plan_so : (S : Sight) (f : Fire) (r : Rule) (plan : Plan) → rule_plan S f r ≡ Ok plan → IsPlanOf f.namespace S.trace plan
plan_so S f r plan is =
    subst (λ (p : Result Plan Reason). IfOk p (IsPlanOf f.namespace S.trace)) is (rule_so S f r (IsPlanOf f.namespace S.trace) (λ c merged. record { home = refl; next = refl; uncaused = refl }))

rule_in : (S : Sight) (f : Fire) (r : Rule) (plan : Plan) (items : Trace) → rule_plan (seeing items S) f r ≡ Ok plan → IsInside f.namespace items S.trace
    → IsInside f.namespace (plan_items (seeing items S) plan ++ items) S.trace
rule_in S f r plan items is before =
    let so = plan_so (seeing items S) f r plan is in
    let more : Trace = plan_items (seeing items S) plan in
    let made = plan_in (standing S.rows) S.moment plan (items ++ S.trace) before.sound before.causes so.next so.uncaused in
    record {
      inside = all_both (IsIn f.namespace) more items (subst (λ (n : List ℕ). AreIn n more) so.home made.inside) before.inside;
      sound = subst (λ (U : Trace). IsSound U) (sym (append_assoc more items S.trace)) made.sound;
      causes = subst (λ (U : Trace). AreOfCauses U) (sym (append_assoc more items S.trace)) made.causes;
    }

draw_in : (S : Sight) (f : Fire) → IsSound S.trace → AreOfCauses S.trace → IsNext f.id S.trace → IsInside f.namespace (draw_items S.moment f.id) S.trace
draw_in S f sound causes next = record {
  inside = (tt, tt);
  sound = (sound_items (draw_items S.moment f.id) S.trace ((next ∙ ap (λ (n : ℕ). n + 1) (sym (drawn_last S.trace f.id.namespace)), tt), tt) sound).0;
  causes = one_more (Drawn f.id S.moment) S.trace tt causes;
}

shot_in : (S : Sight) (f : Fire) (rs : List Rule) → IsSound S.trace → AreOfCauses S.trace → IsNext f.id S.trace → AreIn f.namespace (shot_items S f rs)
shot_in S f rs sound causes next = (
  refl,
  (after_all S f (λ (items : Trace). IsInside f.namespace items S.trace) (rule_in S f) rs (draw_items S.moment f.id) (draw_in S f sound causes next)).inside,
)

pub shot_hidden : (h : Holder) (S : Sight) (f : Fire) (rs : List Rule) → IsSound S.trace → AreOfCauses S.trace → IsNext f.id S.trace → IsClosed h f.namespace → AreHidden h (records (shot_items S f rs))
shot_hidden h S f rs sound causes next closed = hidden_records h f.namespace (shot_items S f rs) closed (shot_in S f rs sound causes next)

-- ---- what a fire does

-- it changes no row, and the records that it adds aren't seen
abbrev pub IsUnseenDone : Holder → Done → Type 0
IsUnseenDone h (Changed change value) = ⊥
IsUnseenDone h (Invoked items plan shows) = AreHidden h (records items)
IsUnseenDone h (Fired items id) = AreHidden h (records items)
IsUnseenDone h done = Unit {0}

pub unseen_by : (h : Holder) (rs : List Row) (d : Result Done Reason) → IfOk d (IsUnseenDone h) → IsUnseen h rs (ask_decision d)
unseen_by h rs (Ok (Shown value)) good = record { changes = tt; records = tt; archived = tt }
unseen_by h rs (Ok (Changed change value)) good = absurd good
unseen_by h rs (Ok (Invoked items plan shows)) good = record { changes = tt; records = good; archived = tt }
unseen_by h rs (Ok Quiet) good = record { changes = tt; records = tt; archived = tt }
unseen_by h rs (Ok (Fired items id)) good = record { changes = tt; records = good; archived = tt }
unseen_by h rs (Err reason) good = record { changes = tt; records = tt; archived = tt }

pub some_or : (P : FullName → Type 0) (o : Option FullName) (reason : Reason) → IfSome o P → IfOk (or_else o reason) P
some_or P None reason h = tt
some_or P (Some name) reason h = h

-- a fire is of the namespace of its trigger's name, under the next id
pub record IsFireOf (S : Sight) (name : FullName) (f : Fire) : Type 0 where
  pub home : f.namespace ≡ name.namespace
  pub next : IsNext f.id S.trace

pub fire_there : (S : Sight) (subject : List ℕ) (name : FullName) (number : ℕ) (t : Trigger) (given : Pairs) → IfOk (fire_plan S subject name number t given) (IsFireOf S name)
fire_there S subject name number t given =
    then_ok (IsFireOf S name) (or_else (fitting t.params given) too_large) _ (λ params.
    then_ok (IsFireOf S name) (takes_calls S) _ (λ taken. record { home = refl; next = refl }))

module _ (h firing : Holder) (S : Sight) (sound : IsSound S.trace) (causes : AreOfCauses S.trace) where
  rules_unseen : (name : FullName) (number : ℕ) (t : Trigger) (given : Pairs) (rs : List Rule) → IsClosed h name.namespace → IfOk (rules_done S firing.subject name number t given rs) (IsUnseenDone h)
  rules_unseen name number t given [] closed = tt
  rules_unseen name number t given (r ∷ rs) closed =
      then_from (IsFireOf S name) (IsUnseenDone h) (fire_plan S firing.subject name number t given) _ (fire_there S firing.subject name number t given) (λ f there.
      then_ok (IsUnseenDone h) (store_room S (items_changes (shot_items S f (r ∷ rs)))) _ (λ room.
      then_ok (IsUnseenDone h) (within_fires S f.namespace) _ (λ within. shot_hidden h S f (r ∷ rs) sound causes there.next (ap (may_read h.rights) there.home ∙ closed))))

  fire_unseen : (c : Call) (namespace : List ℕ) → IsCallIn namespace c → IsClosed h namespace → IfOk (change_done S firing Fires c) (IsUnseenDone h)
  fire_unseen c namespace there closed =
      then_from (StandsIn namespace) (IsUnseenDone h) (name_in c) _ (some_or (StandsIn namespace) c.name no_route there) (λ name stands.
      then_ok (IsUnseenDone h) (trigger_for S name) _ (λ t.
      then_ok (IsUnseenDone h) (number_for S name.namespace) _ (λ number.
      rules_unseen name number t c.params (fired S.rows name) (ap (may_read h.rights) stands ∙ closed))))

  act_unseen : (p : Parts) → IsClosed h (home firing.home (namespace_of p.route)) → IfOk (act_done S firing Fires p) (IsUnseenDone h)
  act_unseen p closed =
      then_from (IsCallIn (home firing.home (namespace_of p.route))) (IsUnseenDone h) (granted_call firing S.rows Fires p) (change_done S firing Fires) (granted_there S.rows firing Fires p)
      (λ c there. fire_unseen c (home firing.home (namespace_of p.route)) there closed)

  held_unseen : (p : Parts) (o : Option Holder) → Some firing ≡ o → IsClosed h (home firing.home (namespace_of p.route)) → IfOk (or_else o unknown_key >>= (λ (k : Holder). act_done S k Fires p)) (IsUnseenDone h)
  held_unseen p o held closed = subst (λ (x : Option Holder). IfOk (or_else x unknown_key >>= (λ (k : Holder). act_done S k Fires p)) (IsUnseenDone h)) held (act_unseen p closed)

  request_unseen : (p : Parts) → act_of p.route p.method ≡ Some Fires → holder_of p.key S.tenants ≡ Some firing → IsClosed h (home firing.home (namespace_of p.route)) → IfOk (request_done S p) (IsUnseenDone h)
  request_unseen p act held closed =
      subst (λ (d : Result Done Reason). IfOk d (IsUnseenDone h)) (sym (in_order S p.route p.method p.key p.query p.raw_query p.headers p.body p.size p.close Fires act))
      (subst (λ (o : Option Act). IfOk (or_else o no_route >>= (λ (a : Act). room_for S p.size >>= (λ (u : Unit {0}). asker S.tenants p.key >>= (λ (k : Holder). act_done S k a p)))) (IsUnseenDone h)) (sym act)
      (then_ok (IsUnseenDone h) (room_for S p.size) _ (λ u. held_unseen p (holder_of p.key S.tenants) (sym held) closed)))

pub fires_leave : (t : Table) (B : History) → FiresLeave t B
fires_leave t B e r key firing h is act fires holds closed =
    unseen_leaves t B e key h holds (ap is_opening is)
    (subst (λ (v : Event). IsUnseen h (seen t B).rows (decision t B e.at v)) (sym is)
    (unseen_by h (seen t B).rows (request_done (sight t (seen t B) (counted B) e.at) (parts_of r)) (request_unseen h firing (sight t (seen t B) (counted B) e.at) (seen_sound t B) (all_caused t B) (parts_of r) act fires closed)))
