use Rattle.std.proofs.Common.{rules, drop, ap, sym, ◌∙◌}
use Rattle.std.specs.Ordering.{is_lt}
use Rattle.std.proofs.lemmas.Fn.{always_returns_same}
use Rattle.std.proofs.lemmas.List.{take_rest}
use Rattle.ow_value.specs.Value.{text_cmp}
use Rattle.ow_records.specs.Order.{first_if}
use Rattle.ow_records.specs.Records.{id_key, id_numbers, is_of_id}
use Rattle.ow_records.proofs.Sorting.{find_by_id, first_by_id, first_found, parts_before}
use Rattle.ow_records.proofs.order.first_of.Goals as goal

pub returns : goal.returns
returns c =
    let all = c.args.records.now in
    let k = id_numbers c.args.id.now in
    let start = c.partition_point-start in
    let parts = start.ensures.partitioned (λ b. is_lt (text_cmp (id_key b) k)) (always_returns_same _ _ _ (λ a r f' k. search rules)) (parts_before id_key k all c.requires) in
    c.first_if.ensures ∙ ap (first_if (is_of_id c.args.id.now)) (take_rest all start.result) ∙ first_by_id c.args.id.now (drop start.result all) ∙ first_found id_key k all start.result c.requires parts ∙ sym (find_by_id c.args.id.now all)
