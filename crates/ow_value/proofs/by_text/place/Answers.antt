use Rattle.std.proofs.Common.{rules}
use Rattle.std.proofs.lemmas.Fn.{always_returns_same}
use Rattle.ow_value.specs.Value.{text_cmp}
use Rattle.ow_value.proofs.KeySearch.{searched}
use Rattle.ow_value.proofs.by_text.place.Goals as goal

pub returns : goal.returns
returns g c =
    let facts = c.binary_search_by.ensures in
    let by_key = facts.position (λ e. text_cmp e.0 c.args.text.now) (always_returns_same _ _ _ (λ a r f' k. search rules)) in
    searched (λ e. e.0) c.args.text.now c.args.entries.now c.requires c.binary_search_by.result facts.bound by_key
