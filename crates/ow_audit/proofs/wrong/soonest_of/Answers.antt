use Rattle.std.proofs.Common.{◌∙◌}
use Rattle.std.specs.Option.{option_copied}
use Rattle.ow_audit.proofs.PlaceLaws.{soonest_of_more}
use Rattle.ow_audit.proofs.wrong.soonest_of.Goals as goal

pub loop-held-preserved : goal.loop-held-preserved
loop-held-preserved g c =
    soonest_of_more c.args.book.now c.args.receipts.now c.loop-held.held-index c.held-item.result c.as_slice.result.now (option_copied c.loop-held.wrong) (option_copied c.soonest.result) (option_copied c.sooner-wrong.result)
    c.loop-held-test.true c.held-item.is (c.as_slice.ensures.value ∙ c.entries.ensures) c.loop-held.invariant c.soonest.ensures c.sooner-wrong.ensures
