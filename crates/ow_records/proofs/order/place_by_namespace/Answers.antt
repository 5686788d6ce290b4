use Rattle.std.proofs.Common.{rules}
use Rattle.std.specs.Ordering.{is_le}
use Rattle.std.proofs.lemmas.Fn.{always_returns_same}
use Rattle.ow_value.specs.Value.{text_cmp}
use Rattle.ow_records.specs.Order.{namespace_key}
use Rattle.ow_records.proofs.Sorting.{parts_through}
use Rattle.ow_records.proofs.order.place_by_namespace.Goals as goal

pub returns-clause-place : goal.returns-clause-place
returns-clause-place c =
    c.partition_point.ensures.partitioned (λ b. is_le (text_cmp (namespace_key b) (namespace_key c.args.added.now))) (always_returns_same _ _ _ (λ a r f' k. search rules))
    (parts_through namespace_key (namespace_key c.args.added.now) c.args.records.now c.requires)
