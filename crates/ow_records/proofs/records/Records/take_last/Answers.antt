use Rattle.std.proofs.Common.{sym, subst}
use Rattle.ow_records.specs.Order.{Rises, namespace_key}
use Rattle.ow_records.specs.Records.{id_key}
use Rattle.ow_records.proofs.Sorting.{rises_sorted}
use Rattle.ow_records.proofs.records.Records.take_last.Goals as goal

pub take_by_id-requires : goal.take_by_id-requires
take_by_id-requires c = subst (Rises id_key) (sym c.self.invariant.ids) (rises_sorted id_key c.self.inside.by_end.items)

pub take_by_namespace-requires : goal.take_by_namespace-requires
take_by_namespace-requires c = subst (Rises namespace_key) (sym c.self.invariant.namespaces) (rises_sorted namespace_key c.self.inside.by_end.items)
