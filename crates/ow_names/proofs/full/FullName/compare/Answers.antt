use Rattle.ow_names.proofs.OrderLaws.{whole_texts}
use Rattle.ow_names.proofs.PathLaws.{equal_names}
use Rattle.ow_names.proofs.full.FullName.compare.Goals as goal

pub returns-clause-order : goal.returns-clause-order
returns-clause-order c =
    whole_texts c.args.self.now c.args.other.now _ _ _ _ _ c.as_part.ensures.value c.as_part-2.ensures.value
    c.as_part.ensures.whole c.as_part-2.ensures.whole c.order_of_parts-namespaces.ensures c.compare_within.ensures c.then.ensures

pub returns-clause-equal : goal.returns-clause-equal
returns-clause-equal c =
    equal_names c.args.self.now c.args.other.now _ c.known.ensures c.known-2.ensures
    (whole_texts c.args.self.now c.args.other.now _ _ _ _ _ c.as_part.ensures.value c.as_part-2.ensures.value
    c.as_part.ensures.whole c.as_part-2.ensures.whole c.order_of_parts-namespaces.ensures c.compare_within.ensures c.then.ensures)
