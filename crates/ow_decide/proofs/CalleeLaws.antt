-- What a name calls, and what is accepted of it.
use Rattle.std.proofs.Common.{◌≡◌, ℕ, List, Option, Some, None, Result, Ok, Err, IfOk, refl, ap}
use Rattle.ow_names.specs.declared.full.FullName.{FullName}
use Rattle.ow_compose.specs.Refusal.{form_of}
use Rattle.ow_floor.specs.Calls.{IsNext, activation_of}
use Rattle.ow_floor.specs.declared.activations.Plan.{Plan}
use Rattle.ow_packages.specs.Effective.{effective}
use Rattle.ow_packages.specs.declared.effective_action.Effective.{Effective}
use Rattle.ow_tables.specs.Rows.{standing}
use Rattle.ow_tenant.specs.Tenants.{limits_of, number_of}
use Rattle.ow_counts.specs.Counts.{admitted}
use Rattle.ow_counts.specs.declared.refusal.LimitRefusal.{LimitRefusal}
use Rattle.ow_http.specs.Steps.{◌>>=◌}
use Rattle.ow_http.specs.declared.reason.Reason.{Reason}
use Rattle.ow_reads.specs.Reasons.{not_found}
use Rattle.ow_reads.specs.Steps.{or_else}
use Rattle.ow_decide.specs.Calling.{admitted_plan, callee, callee_in, callee_of, plan_items}
use Rattle.ow_decide.specs.Chain.{IsAccepted, IsCallee}
use Rattle.ow_decide.specs.Decision.{items_changes}
use Rattle.ow_decide.specs.Sight.{Sight, or_limit, store_room, within_limits}
use Rattle.ow_decide.specs.declared.call_steps.Callee.{Callee}
use Rattle.ow_decide.proofs.Results.{if_ok_map, then_from, then_ok}

-- it may be accepted
abbrev pub IsAdmitted : Sight → Plan → Type 0
IsAdmitted S plan = IsAccepted S (activation_of S.moment plan) S.trace

pub limit_ok : (r : Result (Unit {0}) LimitRefusal) → IfOk (or_limit r) (λ u. r ≡ Ok tt)
limit_ok (Ok u) = refl
limit_ok (Err e) = tt

pub there_ok : {X : Type 0} (o : Option X) (reason : Reason) → IfOk (or_else o reason) (λ (x : X). o ≡ Some x)
there_ok None reason = tt
there_ok (Some x) reason = refl

called_of : (number : Option ℕ) (e : Option Effective) (c : Callee) → callee_of number e ≡ Some c → e ≡ Some c.effective
called_of None e c is = cc
called_of (Some n) None c is = cc
called_of (Some n) (Some e) c is = let same : ◌≡◌ {A = Callee} (record { number = n; effective = e }) c = cc in ap (λ (x : Callee). Some x.effective) same

-- some name calls what is called
abbrev pub IsCalled : Sight → Callee → Type 0
IsCalled S c = IsCallee S.rows c.effective

pub callee_so : (S : Sight) (name : FullName) (namespace : List ℕ) → IfOk (callee S name namespace) (IsCalled S)
callee_so S name namespace = if_ok_map (callee S name namespace) (λ (c : Callee). callee_in S.tenants S.rows name namespace ≡ Some c) (IsCalled S)
    (λ c is. (name, (namespace, called_of (number_of namespace S.tenants) (effective (standing S.rows) name namespace) c is))) (there_ok (callee_in S.tenants S.rows name namespace) not_found)

-- no other activation causes what is planned, its id is the next of its namespace, and some name calls it
pub record IsPlanned (S : Sight) (plan : Plan) : Type 0 where
  pub next : IsNext plan.id S.trace
  pub uncaused : plan.cause ≡ None
  pub formed : plan.form ≡ form_of plan.effective.action
  pub called : IsCallee S.rows plan.effective

-- what is planned, where the limits allow it
pub within_so : (S : Sight) (plan : Plan) (N : Plan → Type 0) → IsPlanned S plan → (IsAdmitted S plan → N plan) → IfOk (within_limits S plan.namespace >>= (λ (within : Unit {0}). Ok plan)) N
within_so S plan N planned keeps =
    let asked = admitted S.trace plan.namespace (limits_of plan.namespace S.tenants) S.moment in
    then_from (λ u. asked ≡ Ok tt) N (within_limits S plan.namespace) _ (limit_ok asked) (λ u ok.
    keeps (record {
      uncaused = planned.uncaused;
      next = planned.next;
      admitted = ok;
      callee = record { called = plan.effective; callee = planned.called; action = refl; binding = refl; form = planned.formed };
    }))

-- and the store has room for all that is kept of it
pub admitted_so : (S : Sight) (plan : Plan) (N : Plan → Type 0) → IsPlanned S plan → (IsAdmitted S plan → N plan) → IfOk (admitted_plan S plan) N
admitted_so S plan N planned keeps = then_ok N (store_room S (items_changes (plan_items S plan))) _ (λ room. within_so S plan N planned keeps)
