use Rattle.std.proofs.Common.{rules}
use Rattle.std.proofs.lemmas.Fn.{always_returns_same}
use Rattle.ow_value.specs.Value.{text_cmp}
use Rattle.ow_traits.proofs.Keys.{found_from}
use Rattle.ow_traits.proofs.row_edits.place.Goals as goal

pub returns-in-Ok-clause-ok : goal.returns-in-Ok-clause-ok
returns-in-Ok-clause-ok c =
    let facts = c.binary_search_by.ensures in
    let by_key = facts.position (λ r. text_cmp r.0 c.args.key.now) (always_returns_same _ _ _ (λ a r f' k. search rules)) in
    let found = found_from c.args.rows.now c.args.key.now c.rows_below-below.result c.requires c.rows_below-below.ensures.bound c.rows_below-below.ensures.below c.binary_search_by.result facts.bound by_key in
    search (found, rules)

pub returns-in-Err-clause-err : goal.returns-in-Err-clause-err
returns-in-Err-clause-err c =
    let facts = c.binary_search_by.ensures in
    let by_key = facts.position (λ r. text_cmp r.0 c.args.key.now) (always_returns_same _ _ _ (λ a r f' k. search rules)) in
    let found = found_from c.args.rows.now c.args.key.now c.rows_below-below.result c.requires c.rows_below-below.ensures.bound c.rows_below-below.ensures.below c.binary_search_by.result facts.bound by_key in
    search (found, rules)
