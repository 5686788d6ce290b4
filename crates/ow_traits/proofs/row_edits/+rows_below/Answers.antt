use Rattle.std.proofs.Common.{rules, arith}
use Rattle.ow_traits.proofs.Keys.{below_before}
use Rattle.ow_traits.proofs.row_edits.+rows_below.Goals as goal

pub returns-then-eq-clause-below : goal.returns-then-eq-clause-below
returns-then-eq-clause-below t c = below_before c.args.rows.now c.args.key.now _ c.index-rows-count.result c.requires.1.1.0 (search (arith, rules)) (search (arith, rules)) (search rules)
