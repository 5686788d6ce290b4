use Rattle.std.proofs.Common.{ap}
use Rattle.ow_floor.proofs.Results.{if_more}
use Rattle.ow_commits.specs.Keeping.{FollowingView}
use Rattle.ow_commits.proofs.Archived.{archiving_done}
use Rattle.ow_commits.proofs.following.Following.archiving.Goals as goal

pub returns-clause-stands : goal.returns-clause-stands
returns-clause-stands c = if_more c.following.result _ _
    (λ f is.
    (archiving_done c.args.self c.args.archive c.args.due.now f _ _ _ _ _ _ _ c.in_ok-gathered.ensures.changes c.in_ok-gathered.ensures.bytes (ap (λ (x : FollowingView). x.opens) c.self.view_is)
    c.in_ok-retire_all.ensures.changes c.in_ok-retire_all.ensures.bytes c.in_ok-count_archived.ensures.changes c.in_ok-count_archived.ensures.bytes is).stands)
    c.following.ensures
