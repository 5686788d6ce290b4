use Rattle.std.proofs.Common.{subst, sym}
use Rattle.std.specs.Option.{option_copied}
use Rattle.ow_floor.proofs.Results.{on_more}
use Rattle.ow_commits.specs.Keeping.{FollowingView, StandsFollowing}
use Rattle.ow_commits.proofs.Standing.{added_stands}
use Rattle.ow_commits.proofs.row_changes.RowChanges.add.Goals as goal

pub returns-clause-stands : goal.returns-clause-stands
returns-clause-stands c = on_more c.change.result _ _ (λ sum o rs T stands same.
    added_stands c.args.ready.now (option_copied c.args.old) _ _ _ o rs T sum (subst (λ (v : FollowingView). StandsFollowing v o rs T) (sym c.self.view_is) stands) same) c.change.ensures.bytes
