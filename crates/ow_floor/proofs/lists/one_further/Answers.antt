use Rattle.std.proofs.Common.{◌≡◌, ◌+◌, ◌∙◌, suc, sym, subst, arith, rules, None}
use Rattle.ow_floor.specs.Store.{AreGone}
use Rattle.ow_floor.proofs.Going.{gone_one_more}
use Rattle.ow_floor.proofs.lists.one_further.Goals as goal

pub returns-then-is_none : goal.returns-then-is_none
returns-then-is_none g c =
    let next : suc c.args.gone ≡ c.args.gone + 1 = omega arith in
    let none : c.index-cells-gone.result ≡ None = search rules in
    subst (λ n. AreGone n c.args.cells.now) next (gone_one_more c.args.gone c.args.cells.now c.index-cells-gone.result c.if-gone-cells.true (sym c.index-cells-gone.is ∙ none) c.requires)
