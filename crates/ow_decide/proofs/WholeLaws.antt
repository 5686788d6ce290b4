-- A deployment whose drafts were all put has the step that is decided.
use Rattle.std.proofs.Common.{◌≡◌, ◌++◌, ◌∙◌, List, [], Result, Ok, Err, refl, sym, ap, subst}
use Rattle.ow_entity.specs.declared.rows.Draft.{Draft}
use Rattle.ow_entity.specs.declared.rows.Row.{Row}
use Rattle.ow_commits.specs.Keeping.{KeepingView}
use Rattle.ow_counts.specs.View.{CountsView}
use Rattle.ow_floor.specs.Laws.{Stands}
use Rattle.ow_floor.specs.Trace.{Trace}
use Rattle.ow_floor.specs.View.{Shown}
use Rattle.ow_http.specs.Steps.{◌>>=◌}
use Rattle.ow_http.specs.declared.reason.Reason.{Reason}
use Rattle.ow_tenant.specs.Table.{Table}
use Rattle.ow_decide.specs.declared.step.Now.{Now}
use Rattle.ow_decide.specs.declared.step.Step.{Step}
use Rattle.ow_decide.specs.Deploying.{Progress, Refusal, all_put, at_place, begun, deploy_decision, deployed, put_drafts, stored}
use Rattle.ow_decide.specs.Deployment.{ArePut, DeploymentView, IsGathered, IsSettled, StaysGathered}
use Rattle.ow_decide.specs.Decision.{held}
use Rattle.ow_decide.specs.Making.{Carries, IsSeen}
use Rattle.ow_decide.specs.Sight.{Sight, room_for}
use Rattle.ow_decide.proofs.GatherLaws.{gathered_first}

-- the drafts were put over the rows that are seen
put_over_seen : (S : Sight) (t : Table) (rs : List Row) (ds slice : List Draft) (begins after : Progress) (r : Result (Unit {0}) Refusal) (u : Unit {0}) → S.tenants ≡ t → S.rows ≡ rs
    → slice ≡ ds → begins ≡ begun rs → r ≡ Ok u → ArePut r (put_drafts t 1 slice begins) after → put_drafts S.tenants 1 ds (begun S.rows) ≡ Ok after
put_over_seen S t rs ds slice begins after r u tenants rows same first is put =
    let there : put_drafts t 1 slice begins ≡ Ok after = subst (λ (x : Result (Unit {0}) Refusal). ArePut x (put_drafts t 1 slice begins) after) is put in
    ap (λ (x : Table). put_drafts x 1 ds (begun S.rows)) tenants
    ∙ (ap (λ (x : List Row). put_drafts t 1 ds (begun x)) rows
    ∙ (ap (λ (x : Progress). put_drafts t 1 ds x) (sym first) ∙ (ap (λ (x : List Draft). put_drafts t 1 x begins) (sym same) ∙ there)))

-- a deployment holds nothing on the floor
deploy_holds : (P : Trace → Type 0) (r : Result Progress Refusal) → P [] → P (held (deploy_decision r))
deploy_holds P (Ok p) none = none
deploy_holds P (Err refusal) none = none

pub deploy_makes : (S : Sight) (t : Table) (rs : List Row) (k : CountsView) (b : KeepingView) (v : Shown) (now : Now) (ds slice : List Draft) (first last : DeploymentView) (step : Step)
    (r : Result (Unit {0}) Refusal) (u w : Unit {0}) → IsSeen S t rs k b v now → room_for S 0 ≡ Ok w → slice ≡ ds → first.progress ≡ begun rs
    → first.commit ≡ record { changes = []; bytes = b.bytes; opens = b.opens } → r ≡ Ok u → ArePut r (put_drafts t 1 slice first.progress) last.progress → StaysGathered first last → IsSettled last step
    → Carries step (deploy_decision (deployed S ds)) S × Stands v (held (deploy_decision (deployed S ds)) ++ S.trace)
deploy_makes S t rs k b v now ds slice first last step r u w seen room same begins commit is put gathers settled =
    let all = put_over_seen S t rs ds slice first.progress last.progress r u seen.tenants seen.rows same begins is put in
    let whole : deployed S ds ≡ stored S last.progress = ap (λ (x : Result (Unit {0}) Reason). at_place 0 x >>= (λ (room : Unit {0}). all_put S ds)) room
    ∙ ap (λ (x : Result Progress Refusal). x >>= (λ (p : Progress). stored S p)) all in
    let gathered : IsGathered b S.rows last = subst (λ (x : List Row). IsGathered b x last) (sym seen.rows) (gathers b rs (gathered_first b rs first begins commit)) in (
      subst (λ (x : Result Progress Refusal). Carries step (deploy_decision x) S) (sym whole) (settled S b seen.keeping gathered),
      deploy_holds (λ (items : Trace). Stands v (items ++ S.trace)) (deployed S ds) seen.stands,
    )
