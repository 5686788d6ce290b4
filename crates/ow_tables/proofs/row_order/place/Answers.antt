use Rattle.std.proofs.Common.{rules}
use Rattle.std.proofs.lemmas.Fn.{always_returns_same}
use Rattle.ow_value.specs.Value.{text_cmp}
use Rattle.ow_value.proofs.KeySearch.{searched}
use Rattle.ow_entity.specs.declared.rows.Row.{Row}
use Rattle.ow_tables.specs.Rows.{key, key_of}
use Rattle.ow_tables.proofs.row_order.place.Goals as goal

pub returns : goal.returns
returns c =
    let facts = c.binary_search_by.ensures in
    let by_key = facts.position (λ (b : Row). text_cmp (key_of b) (key c.args.kind c.args.name.now)) (always_returns_same _ _ _ (λ a r f' k. search rules)) in
    searched key_of (key c.args.kind c.args.name.now) c.args.rows.now c.requires c.binary_search_by.result facts.bound by_key
