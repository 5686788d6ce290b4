-- A deployment whose drafts were all put is stored where the store has room for it.
use Rattle.std.proofs.Common.{◌≡◌, ◌+◌, ◌++◌, ◌∙◌, ℕ, Bool, true, false, List, [], ◌∷◌, Option, Some, None, Result, Ok, Err, refl, sym, ap, subst}
use Rattle.std.specs.List.{flat_map}
use Rattle.std.proofs.lemmas.List.{append-nil}
use Rattle.ow_entity.specs.declared.rows.Row.{Row}
use Rattle.ow_commits.specs.Commits.{row_changes}
use Rattle.ow_commits.specs.Keeping.{FollowingView, KeepingView, StandsFollowing, StandsForKept}
use Rattle.ow_commits.specs.Kept.{kept, others_bytes}
use Rattle.ow_http.specs.Steps.{◌>>=◌}
use Rattle.ow_reads.specs.Steps.{unless}
use Rattle.ow_row_text.specs.Bytes.{bytes_of}
use Rattle.ow_row_text.specs.Sorted.{Entries}
use Rattle.ow_traits.specs.Changes.{changed}
use Rattle.ow_decide.specs.declared.events.Told.TheVariants as told
use Rattle.ow_decide.specs.declared.replies.Deployed.TheVariants as deployments
use Rattle.ow_decide.specs.declared.step.Step.{Step}
use Rattle.ow_decide.specs.declared.waits.Waits.TheVariants.{Keep}
use Rattle.ow_decide.specs.Decision.{Decision, all_changed}
use Rattle.ow_decide.specs.Deploying.{Progress, Refusal, at_place, deploy_decision, stored}
use Rattle.ow_decide.specs.Deployment.{DeploymentView, IsGathered, IsStepOf}
use Rattle.ow_decide.specs.Making.{Carries, IsCommit, IsFollowingOf, telling}
use Rattle.ow_decide.specs.Reasons.{store_full}
use Rattle.ow_decide.specs.Sight.{Sight, is_store_full}
use Rattle.ow_decide.proofs.FloorLaws.{others_stay}
use Rattle.ow_decide.proofs.KeptLaws.{all_rows_kept}

-- the bytes of all kept rows then are those that were counted
weighs : (S : Sight) (b : KeepingView) (d : DeploymentView) → StandsForKept b S.others S.rows S.trace → IsGathered b S.rows d
    → others_bytes S.others + bytes_of (changed (flat_map row_changes d.progress.changes) (kept S.rows S.trace)) ≡ d.commit.bytes
weighs S b d stands gathered =
    ap (λ (es : Entries). others_bytes S.others + bytes_of es) (all_rows_kept d.progress.changes S.rows S.trace ∙ ap (λ (rs : List Row). kept rs S.trace) gathered.rows) ∙ sym (gathered.commit S.others S.trace stands).stands.bytes

-- as it is stored where the test for room has this result
abbrev stored_by : Bool → Progress → Result Progress Refusal
stored_by full p = at_place 0 (unless full store_full) >>= (λ (room : Unit {0}). Ok p)

same_test : (S : Sight) (b : KeepingView) (d : DeploymentView) (full : Bool) → StandsForKept b S.others S.rows S.trace → IsGathered b S.rows d → full ≡ is_store_full d.commit.bytes
    → stored S d.progress ≡ stored_by full d.progress
same_test S b d full stands gathered is =
    ap (λ (n : ℕ). stored_by (is_store_full n) d.progress) (weighs S b d stands gathered) ∙ ap (λ (x : Bool). stored_by x d.progress) (sym is)

full_carries : (S : Sight) (p : Progress) → Carries (telling (told.Deployed (deployments.Refused 0 store_full))) (deploy_decision (stored_by true p)) S
full_carries S p = record { told = refl; changes = refl; waits = refl; moves = refl; commit = (refl, (tt, refl)); others = refl }

-- a deployment for which the store has no room is refused
pub full_refused : (S : Sight) (b : KeepingView) (d : DeploymentView) (step : Step) → step ≡ telling (told.Deployed (deployments.Refused 0 store_full)) → true ≡ is_store_full d.commit.bytes
    → StandsForKept b S.others S.rows S.trace → IsGathered b S.rows d → Carries step (deploy_decision (stored S d.progress)) S
full_refused S b d step is full stands gathered =
    subst (λ (r : Result Progress Refusal). Carries step (deploy_decision r) S) (sym (same_test S b d true stands gathered full))
    (subst (λ (s : Step). Carries s (deploy_decision (stored_by true d.progress)) S) (sym is) (full_carries S d.progress))

put_carries : (S : Sight) (b : KeepingView) (d : DeploymentView) (step : Step) → IsStepOf d step → StandsForKept b S.others S.rows S.trace → IsGathered b S.rows d
    → Carries step (deploy_decision (stored_by false d.progress)) S
put_carries S b d step is stands gathered =
    let follows = gathered.commit S.others S.trace stands in
    let p = d.progress in
    record {
      told = is.told;
      changes = is.changes;
      waits = is.waits;
      moves = is.moves;
      commit = subst (λ (o : Option FollowingView). IsCommit o (deploy_decision (Ok p)) S) (sym is.commit) (record {
        changes = follows.changes ∙ sym (append-nil (flat_map row_changes p.changes));
        stands = subst (λ (rs : List Row). StandsFollowing d.commit S.others rs S.trace) (sym gathered.rows) follows.stands;
      });
      others = others_stay step.commit step.others (deploy_decision (Ok p)) S is.others refl;
    }

-- else all its rows are put and committed
pub put_stored : (S : Sight) (b : KeepingView) (d : DeploymentView) (step : Step) → IsStepOf d step → false ≡ is_store_full d.commit.bytes
    → StandsForKept b S.others S.rows S.trace → IsGathered b S.rows d → Carries step (deploy_decision (stored S d.progress)) S
put_stored S b d step is fits stands gathered =
    subst (λ (r : Result Progress Refusal). Carries step (deploy_decision r) S) (sym (same_test S b d false stands gathered fits)) (put_carries S b d step is stands gathered)
