use Rattle.std.specs.Option.{option_copied}
use Rattle.ow_audit.proofs.PlaceLaws.{soonest_more}
use Rattle.ow_audit.proofs.wrong.soonest.Goals as goal

pub loop-held-preserved : goal.loop-held-preserved
loop-held-preserved c =
    soonest_more c.args.book.now c.args.entries.now c.loop-held.held-index c.held-item.result (option_copied c.loop-held.wrong) (option_copied c.unless_booked.result) (option_copied c.sooner-wrong.result)
    c.loop-held-test.true c.held-item.is c.loop-held.invariant c.unless_booked.ensures c.sooner-wrong.ensures
