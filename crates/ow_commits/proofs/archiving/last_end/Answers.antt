use Rattle.std.proofs.Common.{ap, max, ◌∙◌}
use Rattle.ow_commits.proofs.Loops.{ends_counted}
use Rattle.ow_commits.proofs.archiving.last_end.Goals as goal

pub loop-ended-preserved : goal.loop-ended-preserved
loop-ended-preserved c = ends_counted c.args.due.now c.loop-ended.ended-index c.ended-item.result _ _ _ c.loop-ended-test.true c.ended-item.is c.loop-ended.invariant (c.max-greatest.ensures ∙ ap (max c.loop-ended.greatest) c.end.ensures.value)
