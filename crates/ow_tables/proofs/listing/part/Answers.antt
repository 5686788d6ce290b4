use Rattle.std.proofs.Common.{rules, ◌-◌, take, drop, length, sym, subst}
use Rattle.std.specs.Ordering.{is_lt, is_le}
use Rattle.std.proofs.lemmas.Fn.{always_returns_same}
use Rattle.std.proofs.lemmas.List.{take_rest}
use Rattle.ow_value.specs.Value.{text_cmp}
use Rattle.ow_value.proofs.Between.{stands_together}
use Rattle.ow_tables.specs.Rows.{stands_in}
use Rattle.ow_tables.specs.Region.{AreKept, region, region_of}
use Rattle.ow_tables.proofs.RegionLaws.{in_region, parts_before, parts_through, AreKept-drop}
use Rattle.ow_tables.proofs.listing.part.Goals as goal

pub returns : goal.returns
returns c =
    let kind = c.args.kind in
    let namespace = c.args.namespace.now in
    let R = region kind namespace in
    let rows = c.args.rows.now in
    let start = c.partition_point-start in
    let count = c.partition_point-count in
    let same = take_rest rows start.result in
    let kept = subst AreKept (sym same) (AreKept-drop rows start.result c.requires) in
    sym (stands_together region_of R (stands_in kind namespace) (in_region kind namespace) rows (take (length rows - start.result) (drop start.result rows)) start.result count.result same
    (start.ensures.partitioned (λ b. is_lt (text_cmp (region_of b) R)) (always_returns_same _ _ _ (λ a r f' k. search rules)) (parts_before R rows c.requires))
    (count.ensures.partitioned (λ b. is_le (text_cmp (region_of b) R)) (always_returns_same _ _ _ (λ a r f' k. search rules)) (parts_through R _ kept)))
