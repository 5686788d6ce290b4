use Rattle.std.proofs.Common.{rules}
use Rattle.std.proofs.lemmas.Fn.{always_returns_same}
use Rattle.ow_value.specs.Value.{text_cmp}
use Rattle.ow_value.specs.View.{pair_view}
use Rattle.ow_value.proofs.KeySearch.{searched_through}
use Rattle.ow_value.proofs.members.place.Goals as goal

pub returns : goal.returns
returns c =
    let facts = c.binary_search_by.ensures in
    let by_name = facts.position (λ p. text_cmp p.name c.args.name.now) (always_returns_same _ _ _ (λ a r f' k. search rules)) in
    searched_through (λ p. p.0) pair_view c.args.name.now c.args.pairs.now c.requires c.binary_search_by.result facts.bound by_name
