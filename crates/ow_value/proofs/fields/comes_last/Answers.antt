use Rattle.std.proofs.Common.{arith, sym, ap, ◌∙◌, subst}
use Rattle.std.specs.Bool.{IsTrue}
use Rattle.ow_value.specs.Value.{text_cmp}
use Rattle.ow_value.specs.View.{pair_view}
use Rattle.ow_value.specs.declared.val.Pair.{Pair}
use Rattle.ow_value.proofs.KeySearch.{all_below_through, is_less}
use Rattle.ow_value.proofs.fields.comes_last.Goals as goal

pub returns-else-is_empty : goal.returns-else-is_empty
returns-else-is_empty c lower =
    let last = c.index-pairs-pairs.result in
    let order = ap (λ (p : Pair). text_cmp p.name c.args.name.now) c.index-pairs-pairs.is ∙ sym c.compare.ensures in
    (omega arith, all_below_through (λ p. p.0) pair_view c.args.name.now c.args.pairs.now last c.requires c.index-pairs-pairs.is (order ∙ is_less _ (subst IsTrue c.is_lt.ensures lower)))
