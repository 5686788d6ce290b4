use Rattle.std.proofs.Common.{◌<◌, length, arith}
use Rattle.ow_value.proofs.Merging.{ends_greater, ends_less}
use Rattle.ow_value.proofs.join.order_at.Goals as goal

pub returns-else-j-ys : goal.returns-else-j-ys
returns-else-j-ys c =
    let lt : c.args.j < length c.args.ys.now = omega arith in
    ends_greater _ _ _ _ c.if-i-xs.true lt

pub returns-then-j-ys-2 : goal.returns-then-j-ys-2
returns-then-j-ys-2 c =
    let lt : c.args.i < length c.args.xs.now = omega arith in
    ends_less _ _ _ _ lt c.if-j-ys-2.true
