-- An invocation leaves the view of each key that may not read in the namespace that is charged.
use Rattle.std.proofs.Common.{◌≡◌, ◌∙◌, ℕ, Bool, true, false, cond, List, IfOk, Option, Some, Result, refl, sym, ap, subst}
use Rattle.ow_value.specs.Value.{Pairs}
use Rattle.ow_names.specs.Path.{home}
use Rattle.ow_names.specs.declared.full.FullName.{FullName}
use Rattle.ow_tables.specs.Rows.{standing}
use Rattle.ow_floor.specs.declared.activations.Plan.{Plan}
use Rattle.ow_floor.specs.Laws.{IsSound}
use Rattle.ow_floor.specs.Trace.{records}
use Rattle.ow_http.specs.Parts.{Parts}
use Rattle.ow_http.specs.Request.{parts_of}
use Rattle.ow_http.specs.Steps.{◌>>=◌}
use Rattle.ow_http.specs.declared.call.Call.{Call}
use Rattle.ow_http.specs.declared.reason.Reason.{Reason}
use Rattle.ow_tenant.specs.Rights.{has_right}
use Rattle.ow_tenant.specs.Table.{Table}
use Rattle.ow_tenant.specs.Tenants.{holder_of, rights_in}
use Rattle.ow_tenant.specs.declared.entries.Holder.{Holder}
use Rattle.ow_tenant.specs.declared.rights.Right.TheVariants.{Invoke}
use Rattle.ow_reads.specs.Acts.{act_of, granted_call}
use Rattle.ow_reads.specs.Reading.{name_in, namespace_of}
use Rattle.ow_reads.specs.Reasons.{no_route, unknown_key}
use Rattle.ow_reads.specs.Steps.{or_else}
use Rattle.ow_reads.specs.Tenants.{asker}
use Rattle.ow_reads.specs.View.{may_read}
use Rattle.ow_reads.specs.declared.acts.Act.{Act}
use Rattle.ow_reads.specs.declared.acts.Act.TheVariants.{Invokes}
use Rattle.ow_decide.specs.Asking.{Done, act_done, change_done, request_done}
use Rattle.ow_decide.specs.Calling.{admitted_plan, callee, charged_namespace, given_over, invocation_plan, plan_items}
use Rattle.ow_decide.specs.Decisions.{is_opening}
use Rattle.ow_decide.specs.Sight.{Sight, room_for, takes_calls}
use Rattle.ow_decide.specs.declared.events.Event.{Event}
use Rattle.ow_decide.proofs.Results.{then_from, then_ok}
use Rattle.ow_hall.specs.History.{History, counted, decision, seen, sight}
use Rattle.ow_hall.proofs.Beginnings.{seen_sound}
use Rattle.ow_isolation.specs.Causes.{AreOfCauses}
use Rattle.ow_isolation.specs.Unseen.{InvocationsLeave, IsUnseen}
use Rattle.ow_isolation.proofs.CauseLaws.{all_caused}
use Rattle.ow_isolation.proofs.FireLaws.{AreHidden, IsCallIn, IsClosed, IsUnseenDone, StandsIn, granted_there, some_or, unseen_by}
use Rattle.ow_isolation.proofs.ReadLaws.{in_order}
use Rattle.ow_isolation.proofs.StepLaws.{IsPlanOf, hidden_records, plan_in}
use Rattle.ow_isolation.proofs.UnseenLaws.{unseen_leaves}

closed_by : (h : Holder) (b : Bool) (m n : List ℕ) → IsClosed h m → IsClosed h n → IsClosed h (cond b m n)
closed_by h true m n one two = one
closed_by h false m n one two = two

module _ (h asking : Holder) (S : Sight) (sound : IsSound S.trace) (causes : AreOfCauses S.trace) where
  plan_there : (namespace : List ℕ) (blocking : Bool) (name : FullName) (given : Pairs) → IfOk (invocation_plan S asking.subject namespace blocking name given) (IsPlanOf namespace S.trace)
  plan_there namespace blocking name given =
      then_ok (IsPlanOf namespace S.trace) (callee S name namespace) _ (λ c.
      then_ok (IsPlanOf namespace S.trace) (given_over c.effective given false) _ (λ merged.
      then_ok (IsPlanOf namespace S.trace) (takes_calls S) _ (λ taken. record { home = refl; next = refl; uncaused = refl })))

  -- nothing that a plan of such a namespace makes is seen
  plan_hidden : (namespace : List ℕ) (plan : Plan) → IsPlanOf namespace S.trace plan → IsClosed h namespace → AreHidden h (records (plan_items S plan))
  plan_hidden namespace plan so closed =
      hidden_records h plan.namespace (plan_items S plan) (ap (may_read h.rights) so.home ∙ closed) (plan_in (standing S.rows) S.moment plan S.trace sound causes so.next so.uncaused).inside

  invoke_unseen : (c : Call) (namespace : List ℕ) → IsCallIn namespace c → IsClosed h namespace → IsClosed h asking.home → IfOk (change_done S asking Invokes c) (IsUnseenDone h)
  invoke_unseen c namespace there closed own =
      then_from (StandsIn namespace) (IsUnseenDone h) (name_in c) _ (some_or (StandsIn namespace) c.name no_route there) (λ name stands.
      then_from (IsPlanOf (charged_namespace asking name) S.trace) (IsUnseenDone h) (invocation_plan S asking.subject (charged_namespace asking name) c.blocking name c.params) _
      (plan_there (charged_namespace asking name) c.blocking name c.params) (λ plan so.
      then_ok (IsUnseenDone h) (admitted_plan S plan) _ (λ admitted. plan_hidden (charged_namespace asking name) plan so
      (closed_by h (has_right Invoke (rights_in name.namespace asking)) name.namespace asking.home (ap (may_read h.rights) stands ∙ closed) own))))

  act_unseen : (p : Parts) → IsClosed h (home asking.home (namespace_of p.route)) → IsClosed h asking.home → IfOk (act_done S asking Invokes p) (IsUnseenDone h)
  act_unseen p closed own =
      then_from (IsCallIn (home asking.home (namespace_of p.route))) (IsUnseenDone h) (granted_call asking S.rows Invokes p) (change_done S asking Invokes) (granted_there S.rows asking Invokes p)
      (λ c there. invoke_unseen c (home asking.home (namespace_of p.route)) there closed own)

  held_unseen : (p : Parts) (o : Option Holder) → Some asking ≡ o → IsClosed h (home asking.home (namespace_of p.route)) → IsClosed h asking.home
      → IfOk (or_else o unknown_key >>= (λ (k : Holder). act_done S k Invokes p)) (IsUnseenDone h)
  held_unseen p o held closed own = subst (λ (x : Option Holder). IfOk (or_else x unknown_key >>= (λ (k : Holder). act_done S k Invokes p)) (IsUnseenDone h)) held (act_unseen p closed own)

  request_unseen : (p : Parts) → act_of p.route p.method ≡ Some Invokes → holder_of p.key S.tenants ≡ Some asking → IsClosed h (home asking.home (namespace_of p.route)) → IsClosed h asking.home
      → IfOk (request_done S p) (IsUnseenDone h)
  request_unseen p act held closed own =
      subst (λ (d : Result Done Reason). IfOk d (IsUnseenDone h)) (sym (in_order S p.route p.method p.key p.query p.raw_query p.headers p.body p.size p.close Invokes act))
      (subst (λ (o : Option Act). IfOk (or_else o no_route >>= (λ (a : Act). room_for S p.size >>= (λ (u : Unit {0}). asker S.tenants p.key >>= (λ (k : Holder). act_done S k a p)))) (IsUnseenDone h)) (sym act)
      (then_ok (IsUnseenDone h) (room_for S p.size) _ (λ u. held_unseen p (holder_of p.key S.tenants) (sym held) closed own)))

pub invocations_leave : (t : Table) (B : History) → InvocationsLeave t B
invocations_leave t B e r key asking h is act asks holds closed own =
    unseen_leaves t B e key h holds (ap is_opening is)
    (subst (λ (v : Event). IsUnseen h (seen t B).rows (decision t B e.at v)) (sym is)
    (unseen_by h (seen t B).rows (request_done (sight t (seen t B) (counted B) e.at) (parts_of r))
    (request_unseen h asking (sight t (seen t B) (counted B) e.at) (seen_sound t B) (all_caused t B) (parts_of r) act asks closed own)))
