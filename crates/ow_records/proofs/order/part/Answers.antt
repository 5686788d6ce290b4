use Rattle.std.proofs.Common.{rules, ◌-◌, take, drop, length, sym, subst}
use Rattle.std.specs.Ordering.{is_lt, is_le}
use Rattle.std.proofs.lemmas.Fn.{always_returns_same}
use Rattle.std.proofs.lemmas.List.{take_rest}
use Rattle.ow_value.specs.Value.{text_cmp}
use Rattle.ow_value.proofs.Between.{stands_together}
use Rattle.ow_records.specs.Records.{is_in}
use Rattle.ow_records.specs.Order.{Rises, region, region_of}
use Rattle.ow_records.proofs.Sorting.{parts_before, parts_through}
use Rattle.ow_records.proofs.Regions.{in_region, regions_rise, rises_drop}
use Rattle.ow_records.proofs.order.part.Goals as goal

pub returns : goal.returns
returns c =
    let namespace = c.args.namespace.now in
    let R = region namespace in
    let xs = c.args.records.now in
    let start = c.partition_point-start in
    let count = c.partition_point-count in
    let same = take_rest xs start.result in
    let rise = regions_rise xs c.requires in
    let rest = subst (Rises region_of) (sym same) (rises_drop region_of xs start.result rise) in
    sym (stands_together region_of R (is_in namespace) (in_region namespace) xs (take (length xs - start.result) (drop start.result xs)) start.result count.result same
    (start.ensures.partitioned (λ b. is_lt (text_cmp (region_of b) R)) (always_returns_same _ _ _ (λ a r f' k. search rules)) (parts_before region_of R xs rise))
    (count.ensures.partitioned (λ b. is_le (text_cmp (region_of b) R)) (always_returns_same _ _ _ (λ a r f' k. search rules)) (parts_through region_of R _ rest)))
