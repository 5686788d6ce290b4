use Rattle.std.proofs.Common.{ap}
use Rattle.ow_commits.specs.Keeping.{FollowingView}
use Rattle.ow_commits.proofs.Quiet.{follow_stands}
use Rattle.ow_commits.proofs.keeping.Keeping.follow.Goals as goal

pub returns-clause-stands : goal.returns-clause-stands
returns-clause-stands c = follow_stands c.args.following _ (ap (λ (x : FollowingView). x.bytes) c.following.view_is) (ap (λ (x : FollowingView). x.opens) c.following.view_is)
