use Rattle.std.proofs.Common.{sym, ap₂, ◌∙◌}
use Rattle.std.specs.Ordering.{ordering_then}
use Rattle.ow_records.specs.Records.{id_key}
use Rattle.ow_records.proofs.Regions.{region_then}
use Rattle.ow_records.proofs.order.namespace_id_order.Goals as goal

pub returns : goal.returns
returns c =
    c.then.ensures ∙ ap₂ ordering_then c.namespace_order.ensures c.id_order.ensures
    ∙ sym (region_then c.args.kept.now.namespace c.args.other.now.namespace (id_key c.args.kept.now) (id_key c.args.other.now))
