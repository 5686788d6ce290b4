use Rattle.ow_commits.proofs.Loops.{abandoned_counted, abandoned_gathered}
use Rattle.ow_commits.proofs.openings.abandon_all.Goals as goal

pub loop-activation-preserved : goal.loop-activation-preserved
loop-activation-preserved c = record {
  changes = abandoned_gathered c.args.at c.args.unrecorded.now c.loop-activation.activation-index c.activation-item.result _ _ _ c.loop-activation-test.true c.activation-item.is c.loop-activation.invariant.changes c.in_ok-abandon.ensures.changes;
  bytes = abandoned_counted c.args.at c.args.unrecorded.now c.loop-activation.activation-index c.activation-item.result _ _ _ c.loop-activation-test.true c.activation-item.is c.loop-activation.invariant.bytes c.in_ok-abandon.ensures.bytes;
}
