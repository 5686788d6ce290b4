use Rattle.ow_names.proofs.OrderLaws.{none_some, some_none, some_some}
use Rattle.ow_names.proofs.full.FullName.compare_within.Goals as goal

pub returns-in-None-Some : goal.returns-in-None-Some
returns-in-None-Some c =
    none_some _ _ _ _ _ _ _ _ _ c.in-None-Some.is-0 c.in-None-Some.is-1 c.as_part-name.ensures.value c.as_part.ensures.value
    c.as_part-name.ensures.whole c.order_to_end.ensures c.reverse.ensures

pub returns-in-Some-None : goal.returns-in-Some-None
returns-in-Some-None c =
    some_none _ _ _ _ _ _ _ _ c.in-Some-None.is-0 c.in-Some-None.is-1 c.as_part-in-Some-None.ensures.value c.as_part-other_name.ensures.value
    c.as_part-other_name.ensures.whole c.order_to_end-in-Some-None.ensures

pub returns-in-Some-Some : goal.returns-in-Some-Some
returns-in-Some-Some c =
    some_some _ _ _ _ _ _ _ _ _ _ _ _ _ c.in-Some-Some.is-0 c.in-Some-Some.is-1 c.as_part-name.ensures.value c.as_part-other_name.ensures.value
    c.as_part-in-Some-Some.ensures.value c.as_part-in-Some-Some-2.ensures.value
    c.as_part-in-Some-Some.ensures.whole c.as_part-in-Some-Some-2.ensures.whole
    c.order_of_parts.ensures c.cmp-in-Some-Some.ensures c.then.ensures
