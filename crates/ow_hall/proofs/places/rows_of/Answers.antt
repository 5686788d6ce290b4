use Rattle.std.proofs.Common.{rules, ◌-◌, ◌∷◌, [], take, drop, length, sym, subst}
use Rattle.std.specs.Ordering.{is_lt, is_le}
use Rattle.std.proofs.lemmas.Fn.{always_returns_same}
use Rattle.std.proofs.lemmas.List.{take_rest}
use Rattle.ow_value.specs.Value.{text_cmp}
use Rattle.ow_value.proofs.Between.{stands_together}
use Rattle.ow_tables.specs.Rows.{AreRows, kind_place}
use Rattle.ow_hall.specs.Places.{is_of, kind_key}
use Rattle.ow_hall.proofs.PlaceLaws.{of_kind, parts_before, parts_through, rows_after}
use Rattle.ow_hall.proofs.places.rows_of.Goals as goal

pub returns : goal.returns
returns c =
    let kind = c.args.kind in
    let K = kind_place kind ∷ [] in
    let rows = c.args.rows.now in
    let start = c.partition_point-start in
    let count = c.partition_point-count in
    let same = take_rest rows start.result in
    let kept = subst AreRows (sym same) (rows_after rows start.result c.requires) in
    sym (stands_together kind_key K (is_of kind) (of_kind kind) rows (take (length rows - start.result) (drop start.result rows)) start.result count.result same
    (start.ensures.partitioned (λ b. is_lt (text_cmp (kind_key b) K)) (always_returns_same _ _ _ (λ a r f' k. search rules)) (parts_before K rows c.requires))
    (count.ensures.partitioned (λ b. is_le (text_cmp (kind_key b) K)) (always_returns_same _ _ _ (λ a r f' k. search rules)) (parts_through K _ kept)))
