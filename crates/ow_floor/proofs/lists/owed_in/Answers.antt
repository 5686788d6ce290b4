use Rattle.std.proofs.Common.{◌<◌, ap, arith, length}
use Rattle.std.proofs.lemmas.List.Sums.{sum_by_more}
use Rattle.ow_slot_laws.proofs.Owing.{owed_of}
use Rattle.ow_floor.proofs.lists.owed_in.Goals as goal

pub overflow_add-sum : goal.overflow_add-sum
overflow_add-sum c =
    let inside : c.loop-i.i < length c.args.slots.now = c.loop-i-test.true in
    let most = c.loop-i.invariant.1 in
    let few = c.owed_by-sum.ensures.bounded in
    omega (arith, inside, most, few, c.requires)

pub loop-i-preserved : goal.loop-i-preserved
loop-i-preserved c =
    let inside : c.loop-i.i < length c.args.slots.now = c.loop-i-test.true in
    let more = sum_by_more owed_of c.args.slots.now c.loop-i.i c.index-slots-i.result inside in
    let read = ap owed_of c.index-slots-i.is in
    let before = c.loop-i.invariant.0 in
    let most = c.loop-i.invariant.1 in
    let few = c.owed_by-sum.ensures.bounded in
    let value = c.owed_by-sum.ensures.value in
    (omega (arith, more, read, before, value), omega (arith, most, few))
