use Rattle.ow_names.proofs.OrderLaws.{end_by_start_less, end_by_start_greater}
use Rattle.ow_names.proofs.order.order_to_end.Goals as goal

pub returns-then-part-last : goal.returns-then-part-last
returns-then-part-last c =
    cc (end_by_start_less c.args.part.now c.args.last.now c.min-shared.result 0 c.min-shared.ensures c.if-part-last.true c.requires)

pub returns-else-part-last : goal.returns-else-part-last
returns-else-part-last c =
    cc (end_by_start_greater c.args.part.now c.args.last.now c.min-shared.result c.min-shared.ensures c.if-part-last.false)
