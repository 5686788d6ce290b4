-- What is accepted or fired at a request or a call may be.
use Rattle.std.proofs.Common.{◌≡◌, ℕ, Bool, true, false, if◌then◌else◌, List, [], ◌∷◌, Option, Some, None, Result, Ok, Err, IfOk, refl, inl}
use Rattle.ow_value.specs.Value.{V, Pairs}
use Rattle.ow_names.specs.declared.full.FullName.{FullName}
use Rattle.ow_floor.specs.Trace.{Trace}
use Rattle.ow_floor.specs.declared.activations.Plan.{Plan}
use Rattle.ow_commits.specs.Commits.{row_changes}
use Rattle.ow_commits.specs.Keeping.{AreOwn}
use Rattle.ow_entity.specs.declared.rules.Rule.{Rule}
use Rattle.ow_entity.specs.declared.triggers.Trigger.{Trigger}
use Rattle.ow_records.specs.declared.fires.Fire.{Fire}
use Rattle.ow_rules.specs.Fired.{fired}
use Rattle.ow_rules.specs.Status.{status_change}
use Rattle.ow_tables.specs.Contents.{Change}
use Rattle.ow_tables.specs.Refusal.{remove_refusal}
use Rattle.ow_tables.specs.Rows.{standing}
use Rattle.ow_tenant.specs.Tenants.{limits_of}
use Rattle.ow_tenant.specs.declared.entries.Holder.{Holder}
use Rattle.ow_counts.specs.Counts.{fire_admitted}
use Rattle.ow_trees.specs.Owed.{AreOwed}
use Rattle.ow_http.specs.CallOf.{call_of}
use Rattle.ow_http.specs.Steps.{◌>>=◌}
use Rattle.ow_http.specs.declared.call_refusal.CallRefusal.{CallRefusal}
use Rattle.ow_http.specs.Parts.{Parts}
use Rattle.ow_http.specs.declared.call.Call.{Call}
use Rattle.ow_http.specs.declared.reason.Reason.{Reason}
use Rattle.ow_web.specs.Target.{is_web}
use Rattle.ow_reads.specs.declared.acts.Act.{Act}
use Rattle.ow_decide.specs.declared.call_steps.Callee.{Callee}
use Rattle.ow_reads.specs.Reasons.{no_route}
use Rattle.ow_reads.specs.Steps.{or_else}
use Rattle.ow_reads.specs.declared.acts.Act.TheVariants.{Reads, Puts, Removes, Invokes, Fires, Sets}
use Rattle.ow_decide.specs.declared.waits.Shows.{Shows}
use Rattle.ow_decide.specs.declared.waits.Shows.TheVariants.{Web}
use Rattle.ow_decide.specs.Decision.{items_changes}
use Rattle.ow_decide.specs.Firing.{fire_plan, number_for, shot_items, trigger_for, within_fires}
use Rattle.ow_decide.specs.Sight.{Sight, room_for, store_room, takes_calls, view_of}
use Rattle.ow_decide.specs.Waiting.{shows_of}
use Rattle.ow_reads.specs.Tenants.{asker, office}
use Rattle.ow_reads.specs.Reading.{name_in, or_call_reason, read_done}
use Rattle.ow_decide.specs.Calling.{admitted_plan, call_plan, called_plan, callee, charged_namespace, given_over, invocation_plan, plan_items}
use Rattle.ow_decide.specs.Chain.{AreSteps}
use Rattle.ow_decide.specs.Asking.{Done, Fired, Invoked, act_done, act_for, called_done, change_done, draft_in, keyed_done, plan_done, put_of, request_done, row_for, row_of, rule_for, rules_done, set_done, shot_done, shown_done, unless_refused, web_done}
use Rattle.ow_decide.specs.WebCalling.{web_extension, web_given, web_name, web_plan}
use Rattle.ow_reads.specs.Acts.{grant_for, granted_call}
use Rattle.ow_decide.proofs.CalleeLaws.{IsAdmitted, IsCalled, IsPlanned, admitted_so, callee_so, limit_ok}
use Rattle.ow_decide.proofs.DrivenLaws.{fit_steps, plan_fit}
use Rattle.ow_decide.proofs.MadeLaws.{plan_owed, plan_own, plan_right, shot_owed, shot_own}
use Rattle.ow_decide.proofs.Results.{then_from, then_ok}
use Rattle.ow_decide.proofs.ShotLaws.{IsReady, IsThere, plan_ready, shot_steps, trigger_there}

-- ---- what is accepted

over_planned : (S : Sight) (subject namespace : List ℕ) (blocking web : Bool) (c : Callee) (given : Pairs) → IsCalled S c → IfOk (called_plan S subject namespace blocking web c given) (IsPlanned S)
over_planned S subject namespace blocking web c given called = then_ok (IsPlanned S) (given_over c.effective given web) _ (λ merged. then_ok (IsPlanned S) (takes_calls S) _ (λ taken.
    record { next = refl; uncaused = refl; formed = refl; called = called }))

planned : (S : Sight) (subject namespace : List ℕ) (blocking : Bool) (name : FullName) (params : Pairs) → IfOk (invocation_plan S subject namespace blocking name params) (IsPlanned S)
planned S subject namespace blocking name params =
    then_from (IsCalled S) (IsPlanned S) (callee S name namespace) _ (callee_so S name namespace) (λ c called. over_planned S subject namespace blocking false c params called)

call_planned : (S : Sight) (name : FullName) (params : Pairs) → IfOk (call_plan S name params) (IsPlanned S)
call_planned S name params = then_ok (IsPlanned S) (room_for S 0) _ (λ room. planned S office name.namespace false name params)

pub called_admitted : (S : Sight) (name : FullName) (params : Pairs) → IfOk (call_plan S name params >>= admitted_plan S) (IsAdmitted S)
called_admitted S name params =
    then_from (IsPlanned S) (IsAdmitted S) (call_plan S name params) (admitted_plan S) (call_planned S name params) (λ plan is. admitted_so S plan (IsAdmitted S) is (λ ok. ok))

-- they are a chain, each child and each end of a composite is owed, and nothing is taken over or archived
pub record IsChain (S : Sight) (items : Trace) : Type 0 where
  pub steps : AreSteps S items
  pub owed : AreOwed (standing S.rows) S.moment items S.trace
  pub own : AreOwn items

-- the items of a plan that is admitted are
pub plan_chain : (S : Sight) (plan : Plan) → IsAdmitted S plan → IsChain S (plan_items S plan)
plan_chain S plan ok = record { steps = fit_steps S (plan_items S plan) (plan_fit S plan S.trace ok) (plan_right S plan ok.next); owed = plan_owed S plan ok.uncaused; own = plan_own S plan }

abbrev pub IsAdmittedDone : Sight → Done → Type 0
IsAdmittedDone S (Invoked items plan shows) = IsChain S items
IsAdmittedDone S (Fired items id) = IsChain S items
IsAdmittedDone S done = Unit {0}

plan_admitted : (S : Sight) (plan : Plan) (shows : Shows) → IsPlanned S plan → IfOk (plan_done S plan shows) (IsAdmittedDone S)
plan_admitted S plan shows is =
    then_from (λ (p : Plan). IsAdmitted S plan) (IsAdmittedDone S) (admitted_plan S plan) _ (admitted_so S plan (λ (p : Plan). IsAdmitted S plan) is (λ ok. ok)) (λ p ok. plan_chain S plan ok)

shown_admitted : (S : Sight) (r : Result V Reason) → IfOk (shown_done r) (IsAdmittedDone S)
shown_admitted S (Ok value) = tt
shown_admitted S (Err reason) = tt

shot_admitted : (S : Sight) (f : Fire) (rs : List Rule) → IsReady S f → IfOk (shot_done S f rs) (IsAdmittedDone S)
shot_admitted S f rs ready =
    let asked = fire_admitted S.trace f.namespace (limits_of f.namespace S.tenants) S.moment in
    then_ok (IsAdmittedDone S) (store_room S (items_changes (shot_items S f rs))) _ (λ room.
    then_from (λ u. asked ≡ Ok tt) (IsAdmittedDone S) (within_fires S f.namespace) _ (limit_ok asked) (λ u allowed. record { steps = shot_steps S f rs ready.next ready.shot allowed; owed = shot_owed S f rs; own = shot_own S f rs }))

rules_admitted : (S : Sight) (subject : List ℕ) (name : FullName) (number : ℕ) (t : Trigger) (home : List ℕ) (parts : Parts) (c : Call) (rs : List Rule) → IsThere S name t → call_of home parts ≡ Ok c
    → IfOk (rules_done S subject name number t c.params rs) (IsAdmittedDone S)
rules_admitted S subject name number t home parts c [] there called = tt
rules_admitted S subject name number t home parts c (r ∷ rs) there called =
    then_from (IsReady S) (IsAdmittedDone S) (fire_plan S subject name number t c.params) _ (plan_ready S subject name number t c.params there (inl (home, (parts, (c, (called, refl)))))) (λ f ready. shot_admitted S f (r ∷ rs) ready)

set_admitted : (S : Sight) (r : Rule) (change : Option Change) → IsAdmittedDone S (set_done S r change)
set_admitted S r None = tt
set_admitted S r (Some change) = tt

-- the call is that of some request
abbrev IsOfCall : List ℕ → Parts → Call → Type 0
IsOfCall home parts c = call_of home parts ≡ Ok c

change_admitted : (S : Sight) (h : Holder) (act : Act) (home : List ℕ) (parts : Parts) (c : Call) → IsOfCall home parts c → IfOk (change_done S h act c) (IsAdmittedDone S)
change_admitted S h (Reads reading) home parts c called = tt
change_admitted S h Puts home parts c called = then_ok (IsAdmittedDone S) (draft_in c) _ (λ draft. then_ok (IsAdmittedDone S) (row_of S draft c.overwrite) _ (λ row.
    then_ok (IsAdmittedDone S) (store_room S (row_changes (put_of row))) _ (λ room. tt)))
change_admitted S h (Removes kind) home parts c called = then_ok (IsAdmittedDone S) (name_in c) _ (λ name.
    then_ok (IsAdmittedDone S) (unless_refused (remove_refusal kind name S.rows)) _ (λ free. then_ok (IsAdmittedDone S) (row_for S kind name) _ (λ row. tt)))
change_admitted S h Invokes home parts c called = then_ok (IsAdmittedDone S) (name_in c) _ (λ name.
    then_from (IsPlanned S) (IsAdmittedDone S) (invocation_plan S h.subject (charged_namespace h name) c.blocking name c.params) _
    (planned S h.subject (charged_namespace h name) c.blocking name c.params) (λ plan is. plan_admitted S plan (shows_of c.result_only) is))
change_admitted S h Fires home parts c called = then_ok (IsAdmittedDone S) (name_in c) _ (λ name.
    then_from (IsThere S name) (IsAdmittedDone S) (trigger_for S name) _ (trigger_there S name) (λ t there.
    then_ok (IsAdmittedDone S) (number_for S name.namespace) _ (λ number. rules_admitted S h.subject name number t home parts c (fired S.rows name) there called)))
change_admitted S h Sets home parts c called = then_ok (IsAdmittedDone S) (name_in c) _ (λ name. then_ok (IsAdmittedDone S) (or_else c.active no_route) _ (λ active.
    then_ok (IsAdmittedDone S) (rule_for S name) _ (λ r. set_admitted S r (status_change r active))))

of_call : (r : Result Call CallRefusal) → IfOk (or_call_reason r) (λ (c : Call). r ≡ Ok c)
of_call (Ok c) = refl
of_call (Err e) = tt

granted_admitted : (S : Sight) (h : Holder) (act : Act) (p : Parts) → IfOk (called_done S h act p) (IsAdmittedDone S)
granted_admitted S h act p = then_from (IsOfCall h.home p) (IsAdmittedDone S) (granted_call h S.rows act p) _ (then_ok (IsOfCall h.home p) (grant_for h S.rows act p) _ (λ grant. of_call (call_of h.home p)))
    (λ c called. change_admitted S h act h.home p c called)

act_admitted : (S : Sight) (h : Holder) (act : Act) (p : Parts) → IfOk (act_done S h act p) (IsAdmittedDone S)
act_admitted S h (Reads reading) p = shown_admitted S (read_done (view_of S h) reading p)
act_admitted S h Puts p = granted_admitted S h Puts p
act_admitted S h (Removes kind) p = granted_admitted S h (Removes kind) p
act_admitted S h Invokes p = granted_admitted S h Invokes p
act_admitted S h Fires p = granted_admitted S h Fires p
act_admitted S h Sets p = granted_admitted S h Sets p

keyed_admitted : (S : Sight) (p : Parts) → IfOk (keyed_done S p) (IsAdmittedDone S)
keyed_admitted S p = then_ok (IsAdmittedDone S) (act_for p) _ (λ act. then_ok (IsAdmittedDone S) (room_for S p.size) _ (λ room.
    then_ok (IsAdmittedDone S) (asker S.tenants p.key) _ (λ h. act_admitted S h act p)))

web_admitted : (S : Sight) (p : Parts) → IfOk (web_done S p) (IsAdmittedDone S)
web_admitted S p = then_ok (IsAdmittedDone S) (room_for S p.size) _ (λ room. then_ok (IsAdmittedDone S) (web_name p.route) _ (λ name.
    then_from (IsCalled S) (IsAdmittedDone S) (callee S name name.namespace) _ (callee_so S name name.namespace) (λ c called.
    then_ok (IsAdmittedDone S) (web_given S.tenants c.effective p) _ (λ given. then_ok (IsAdmittedDone S) (web_extension p.route) _ (λ extension.
    then_from (IsPlanned S) (IsAdmittedDone S) (web_plan S name.namespace c given) _ (over_planned S name.namespace name.namespace true true c given called) (λ plan is. plan_admitted S plan (Web extension) is))))))

by_route : (S : Sight) (p : Parts) (b : Bool) → IfOk (if b then web_done S p else keyed_done S p) (IsAdmittedDone S)
by_route S p true = web_admitted S p
by_route S p false = keyed_admitted S p

pub asked_admitted : (S : Sight) (p : Parts) → IfOk (request_done S p) (IsAdmittedDone S)
asked_admitted S p = by_route S p (is_web p.route)
