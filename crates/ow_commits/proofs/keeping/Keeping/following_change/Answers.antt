use Rattle.std.proofs.Common.{◌∙◌}
use Rattle.std.specs.Option.{option_copied}
use Rattle.ow_commits.proofs.Standing.{following_change_done}
use Rattle.ow_commits.proofs.keeping.Keeping.following_change.Goals as goal

pub returns : goal.returns
returns c =
    let d = following_change_done c.args.self.now c.args.ready.now (option_copied c.args.old) c.in_ok-following.following _ _ _ _ _ (c.new-gathered.ensures.bytes ∙ c.bytes.ensures) c.new-gathered.ensures.changes c.in_ok-change.ensures.changes c.in_ok-change.ensures.bytes (c.in_ok-opens.ensures ∙ c.opens.ensures)
    c.in_ok-following.ensures in
    record { changes = d.changes; bytes = d.bytes; stands = d.stands }
