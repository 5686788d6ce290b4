use Rattle.std.proofs.Common.{◌-◌, arith}
use Rattle.ow_pool.proofs.Putting.{step_some, step_filled}
use Rattle.ow_pool.proofs.four.first_four.Goals as goal

pub loop-i-preserved-in-Some : goal.loop-i-preserved-in-Some
loop-i-preserved-in-Some c = record {
  within = omega arith;
  made = rw c.put-four.ensures (step_some c.args.slots.now c.loop-i.i (c.loop-i.i - 1) _ c.loop-i.four c.in-Some.x (omega arith) (omega arith) c.in-Some.ensures c.loop-i.invariant.made c.loop-i.invariant.filled);
  filled = rw c.put-four.ensures (step_filled c.in-Some.x c.loop-i.four c.loop-i.invariant.filled);
}
