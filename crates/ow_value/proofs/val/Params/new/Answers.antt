use Rattle.std.specs.List.Sorted.{IsStrictlySortedBy}
use Rattle.ow_value.proofs.val.Params.new.Goals as goal

pub invariant_of-result : goal.invariant_of-result
unfolding IsStrictlySortedBy
invariant_of-result c = record { rises = tt; values = tt }
