use Rattle.std.proofs.Common.{◌<◌, ap, arith, length}
use Rattle.std.proofs.lemmas.List.Sums.{sum_by_more, sum_by_more_le}
use Rattle.ow_pool.proofs.Sums.{size}
use Rattle.ow_pool.proofs.rules.held.Goals as goal

pub overflow_add-sum : goal.overflow_add-sum
overflow_add-sum c =
    let inside : c.loop-i.i < length c.args.slots.now = c.loop-i-test.true in
    let le = sum_by_more_le size c.args.slots.now c.loop-i.i c.index-slots-i.result inside in
    let read = ap size c.index-slots-i.is in
    omega (arith, le, read, c.loop-i.invariant, c.memory_of-sum.ensures, c.requires)

pub loop-i-preserved : goal.loop-i-preserved
loop-i-preserved c =
    let inside : c.loop-i.i < length c.args.slots.now = c.loop-i-test.true in
    let more = sum_by_more size c.args.slots.now c.loop-i.i c.index-slots-i.result inside in
    let read = ap size c.index-slots-i.is in
    omega (arith, more, read, c.loop-i.invariant, c.memory_of-sum.ensures)
