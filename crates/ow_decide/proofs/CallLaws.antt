-- What is done at a call of the office.
use Rattle.std.proofs.Common.{◌≡◌, ◌++◌, List, Result, Ok, Err, IfOk, sym, subst}
use Rattle.ow_entity.specs.declared.rows.Row.{Row}
use Rattle.ow_counts.specs.View.{CountsView}
use Rattle.ow_floor.specs.Laws.{Stands}
use Rattle.ow_floor.specs.View.{Shown}
use Rattle.ow_floor.specs.declared.activations.Plan.{Plan}
use Rattle.ow_http.specs.declared.reason.Reason.{Reason}
use Rattle.ow_commits.specs.Keeping.{KeepingView}
use Rattle.ow_tenant.specs.Table.{Table}
use Rattle.ow_value.specs.declared.memory.NoMemory.{NoMemory}
use Rattle.ow_decide.specs.Calling.{admitted_plan, call_decision, called_decision}
use Rattle.ow_decide.specs.Decision.{held}
use Rattle.ow_decide.specs.Making.{Carries, IsSeen, IsTaken, Makes}
use Rattle.ow_decide.specs.Sight.{Sight}
use Rattle.ow_decide.specs.declared.commits.Made.{Made}
use Rattle.ow_decide.specs.declared.step.Now.{Now}
use Rattle.ow_decide.specs.declared.step.Step.{Step}

-- the floor has what was done of a plan
taken_stands : (taken : Result Made Reason) (plan : Plan) (S : Sight) (v : Shown) → IsTaken taken plan S v → Stands v (held (called_decision S (admitted_plan S plan)) ++ S.trace)
taken_stands (Ok made) plan S v is = subst (λ (r : Result Plan Reason). Stands v (held (called_decision S r) ++ S.trace)) (sym is.0) is.1.1
taken_stands (Err reason) plan S v is = subst (λ (r : Result Plan Reason). Stands v (held (called_decision S r) ++ S.trace)) (sym is.0) is.1

-- what is planned is accepted or refused, and the answer says which
pub call_makes : (t : Table) (rs : List Row) (k : CountsView) (b : KeepingView) (now : Now) (old new : Shown) (plan : Plan) (taken : Result Made Reason) (planned : Sight → Result Plan Reason) (r : Result Step NoMemory)
    → ((S : Sight) → IsSeen S t rs k b old now → Ok plan ≡ planned S) → ((S : Sight) → IsSeen S t rs k b old now → IsTaken taken plan S new)
    → IfOk r (λ s. (S : Sight) (p : Plan) (v : Shown) → IsTaken taken p S v → Carries s (called_decision S (admitted_plan S p)) S)
    → IfOk r (Makes t rs k b now old new (λ S. call_decision S (planned S)))
call_makes t rs k b now old new plan taken planned (Ok s) same takes carries = λ S seen. (
  subst (λ (x : Result Plan Reason). Carries s (call_decision S x) S) (same S seen) (carries S plan new (takes S seen)),
  subst (λ (x : Result Plan Reason). Stands new (held (call_decision S x) ++ S.trace)) (same S seen) (taken_stands taken plan S new (takes S seen)),
)
call_makes t rs k b now old new plan taken planned (Err e) same takes carries = tt
