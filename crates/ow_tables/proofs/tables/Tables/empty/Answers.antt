use Rattle.std.proofs.Common.{[], sym, subst}
use Rattle.std.specs.List.Sorted.{IsStrictlySortedBy}
use Rattle.ow_tables.specs.Region.{AreKept}
use Rattle.ow_tables.proofs.tables.Tables.empty.Goals as goal

none : AreKept []
unfolding IsStrictlySortedBy
none = record { rise = tt; parts = tt }

pub invariant_of-result : goal.invariant_of-result
invariant_of-result c = subst AreKept (sym c.new.ensures.items) none
