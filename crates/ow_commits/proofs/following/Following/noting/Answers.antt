use Rattle.std.proofs.Common.{ap}
use Rattle.ow_floor.proofs.Results.{if_more}
use Rattle.ow_commits.specs.Keeping.{FollowingView}
use Rattle.ow_commits.proofs.Noted.{noting_done}
use Rattle.ow_commits.proofs.following.Following.noting.Goals as goal

pub returns-clause-bytes : goal.returns-clause-bytes
returns-clause-bytes c = if_more c.following.result _ _
    (λ f is.
    (noting_done c.args.self c.args.note.now c.args.old f _ _ _ _ _ c.in_ok-gathered.ensures.changes c.in_ok-gathered.ensures.bytes (ap (λ (x : FollowingView). x.opens) c.self.view_is)
    c.in_ok-put_noted.ensures.changes c.in_ok-put_noted.ensures.bytes is).bytes)
    c.following.ensures

pub returns-clause-stands : goal.returns-clause-stands
returns-clause-stands c = if_more c.following.result _ _
    (λ f is.
    (noting_done c.args.self c.args.note.now c.args.old f _ _ _ _ _ c.in_ok-gathered.ensures.changes c.in_ok-gathered.ensures.bytes (ap (λ (x : FollowingView). x.opens) c.self.view_is)
    c.in_ok-put_noted.ensures.changes c.in_ok-put_noted.ensures.bytes is).stands)
    c.following.ensures
