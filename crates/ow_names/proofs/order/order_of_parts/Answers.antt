use Rattle.ow_names.proofs.OrderLaws.{parts_by_start}
use Rattle.ow_names.proofs.order.order_of_parts.Goals as goal

pub returns : goal.returns
returns c =
    cc (parts_by_start c.args.a.now c.args.b.now c.min-shared.result c.min-shared.ensures c.requires.a_whole c.requires.b_whole)
