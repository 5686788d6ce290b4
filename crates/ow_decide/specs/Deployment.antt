-- A deployment under way, as the code has it.
use Rattle.std.specs.Prelude.{◌≡◌, ◌≤◌, ◌+◌, ◌++◌, ℕ, Bool, true, false, List, [], length, if◌then◌else◌, Option, Some, None, Result, Ok, Err}
use Rattle.std.specs.List.{flat_map}
use Rattle.ow_entity.specs.declared.rows.Row.{Row}
use Rattle.ow_floor.specs.Trace.{Trace}
use Rattle.ow_commits.specs.Commits.{row_changes}
use Rattle.ow_commits.specs.Keeping.{FollowingView, KeepingView, StandsFollowing, StandsForKept}
use Rattle.ow_commits.specs.Kept.{OthersView}
use Rattle.ow_http.specs.declared.reason.Reason.{Reason}
use Rattle.ow_tables.specs.Contents.{Change}
use Rattle.ow_tables.specs.Rows.{changed}
use Rattle.ow_decide.specs.Decision.{all_changed}
use Rattle.ow_decide.specs.Deploying.{Progress, Refusal, deploy_decision, put_over, stored}
use Rattle.ow_decide.specs.Making.{Carries, HasRoom, IsFollowingOf, changes_of}
use Rattle.ow_decide.specs.Sight.{Sight}
use Rattle.ow_decide.specs.declared.deploy_steps.Over.{Over}
use Rattle.ow_decide.specs.declared.deploy_steps.Over.TheVariants as over
use Rattle.ow_decide.specs.declared.events.Told.TheVariants as told
use Rattle.ow_decide.specs.declared.replies.Deployed.TheVariants as deployed_so
use Rattle.ow_decide.specs.declared.step.Step.{Step}
use Rattle.ow_decide.specs.declared.waits.Waits.TheVariants.{Keep}
use Rattle.ow_row_text.specs.Unchanged.{is_unchanged}

-- what the drafts so far have made, what is to be committed of it, and for how many more rows its copy of the rows has memory
pub record DeploymentView : Type 0 where
  pub progress : Progress
  pub commit : FollowingView
  pub room : ℕ

-- the changes so far make its rows of these rows, and are gathered for the commit
pub record IsGathered (b : KeepingView) (rs : List Row) (d : DeploymentView) : Type 0 where
  pub rows : all_changed d.progress.changes rs ≡ d.progress.rows
  pub commit : (o : OthersView) (T : Trace) → StandsForKept b o rs T → IsFollowingOf d.commit (flat_map row_changes d.progress.changes) o d.progress.rows T

-- they stay gathered
abbrev pub StaysGathered : DeploymentView → DeploymentView → Type 0
StaysGathered old new = (b : KeepingView) (rs : List Row) → IsGathered b rs old → IsGathered b rs new

-- a draft whose row is this was put over the old row, or it was refused, for private clauses
abbrev pub IsPut : Result (Unit {0}) Reason → Result Row Reason → Option Row → Progress → Progress → Type 0
IsPut (Ok u) drafted old before after = (row : Row) × ((drafted ≡ Ok row) × (after ≡ put_over old row before))
IsPut (Err reason) drafted old before after = drafted ≡ Err reason

-- all drafts were put, or one was refused, for private clauses
abbrev pub ArePut : Result (Unit {0}) Refusal → Result Progress Refusal → Progress → Type 0
ArePut (Ok u) put after = put ≡ Ok after
ArePut (Err refusal) put after = put ≡ Err refusal

-- the step says so, where the store has room, for private clauses
abbrev pub IsSettled : DeploymentView → Step → Type 0
IsSettled d step = (S : Sight) (b : KeepingView) → StandsForKept b S.others S.rows S.trace → IsGathered b S.rows d → Carries step (deploy_decision (stored S d.progress)) S

-- what becomes of a row over an old one, if there is one, for private clauses
abbrev pub over_for : Option Row → Row → Over
over_for None row = over.Nothing
over_for (Some old) row = if is_unchanged old row then over.Same else over.Other

-- one more draft had no row, or replaced one, for private clauses
abbrev pub counted_put : Bool → Progress → Progress
counted_put true p = record p { made = p.made + 1 }
counted_put false p = record p { changed = p.changed + 1 }

-- a change is added to what is to be committed, for private clauses
pub record IsAdded (c : Change) (old new : DeploymentView) : Type 0 where
  pub changes : new.commit.changes ≡ old.commit.changes ++ row_changes c
  pub stands : (o : OthersView) (T : Trace) → StandsFollowing old.commit o old.progress.rows T → StandsFollowing new.commit o (changed c old.progress.rows) T

-- the step puts all rows and commits them, for private clauses
pub record IsStepOf (d : DeploymentView) (step : Step) : Type 0 where
  pub told : step.told ≡ told.Deployed (deployed_so.Done d.progress.made d.progress.changed d.progress.same)
  pub changes : changes_of step.change ≡ d.progress.changes
  pub waits : step.waits ≡ Keep
  pub moves : step.moves ≡ []
  pub commit : step.commit ≡ Some d.commit
  pub others : step.others ≡ None
  pub room : (n : ℕ) → (length d.progress.changes ≤ n) → HasRoom step.change n
