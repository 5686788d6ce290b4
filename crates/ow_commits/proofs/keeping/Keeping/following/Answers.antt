use Rattle.std.proofs.Common.{◌∙◌}
use Rattle.ow_commits.proofs.Moving.{following_done}
use Rattle.ow_commits.proofs.keeping.Keeping.following.Goals as goal

pub returns : goal.returns
returns c =
    let d = following_done c.args.self.now c.args.moves.now c.in_ok-following.following _ _ _ _ _ _ (c.new-gathered.ensures.bytes ∙ c.bytes.ensures) c.new-gathered.ensures.changes c.in_ok-follow_all.ensures.changes (c.in_ok-opens.ensures ∙ c.opens.ensures) c.in_ok-follow_all.ensures.follows
    c.in_ok-follow_all.ensures.known c.in_ok-following.ensures in
    record { changes = d.changes; bytes = d.bytes; stands = d.stands }
