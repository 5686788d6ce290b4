use Rattle.ow_commits.proofs.Loops.{retired_counted, retired_gathered}
use Rattle.ow_commits.proofs.archiving.retire_all.Goals as goal

pub loop-ended-preserved : goal.loop-ended-preserved
loop-ended-preserved c = record {
  changes = retired_gathered c.args.due.now c.loop-ended.ended-index c.ended-item.result _ _ _ c.loop-ended-test.true c.ended-item.is c.loop-ended.invariant.changes c.in_ok-retire.ensures.changes;
  bytes = retired_counted c.args.due.now c.loop-ended.ended-index c.ended-item.result _ _ _ c.loop-ended-test.true c.ended-item.is c.loop-ended.invariant.bytes c.in_ok-retire.ensures.bytes;
}
