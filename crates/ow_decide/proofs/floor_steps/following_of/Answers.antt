use Rattle.std.proofs.Common.{Option, subst, sym}
use Rattle.ow_commits.specs.Keeping.{FollowingView}
use Rattle.ow_decide.specs.Decision.{adds}
use Rattle.ow_decide.specs.Making.{IsCommit}
use Rattle.ow_decide.proofs.Results.{if_ok_both}
use Rattle.ow_decide.proofs.SweepLaws.{quiet_follows}
use Rattle.ow_decide.proofs.floor_steps.following_of.Goals as goal

pub returns-in-Some : goal.returns-in-Some
returns-in-Some c = λ S t items commits keeps sound right own. subst (λ (o : Option FollowingView). IsCommit o (adds t items) S) c.in-Some.is commits

pub returns-in-None : goal.returns-in-None
returns-in-None c = if_ok_both c.following.result _ _ _ (λ d changes stands S t items commits keeps sound right own.
    let quiet = (subst (λ (o : Option FollowingView). IsCommit o (adds t items) S) c.in-None.is commits).1.1 in
    quiet_follows d S items changes quiet (stands S.others S.rows S.trace items keeps sound right own (sym quiet))) c.following.ensures.changes c.following.ensures.stands
