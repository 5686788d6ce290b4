use Rattle.std.proofs.Common.{arith}
use Rattle.ow_tables.proofs.PutLaws.{reached_once_put}
use Rattle.ow_tables.proofs.tables.Tables.reaches_once_put.Goals as goal

pub returns-then-is_eq : goal.returns-then-is_eq
returns-then-is_eq c =
    let law = reached_once_put c.args.bundle.now c.args.target.now c.args.self.now.rows c.compare-order.result c.compare-order.ensures.order c.compare-order.ensures.equal.0 in
    grind (arith, law, c.is_eq.ensures, c.if-is_eq.true)

pub returns-else-is_eq : goal.returns-else-is_eq
returns-else-is_eq c =
    let law = reached_once_put c.args.bundle.now c.args.target.now c.args.self.now.rows c.compare-order.result c.compare-order.ensures.order c.compare-order.ensures.equal.0 in
    grind (arith, law, c.is_eq.ensures, c.if-is_eq.false)
