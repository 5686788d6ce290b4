use Rattle.std.proofs.Common.{arith}
use Rattle.ow_traits.proofs.Taking.{TakesUpTo-more}
use Rattle.ow_wire.proofs.replying.write_all.Goals as goal

pub loop-rest-preserved : goal.loop-rest-preserved
loop-rest-preserved g c = record {
  so_far = TakesUpTo-more _ _ _ _ _ _ c.in_ok-n.n c.loop-rest.invariant.so_far c.in_ok-n.ensures.told c.split_at.ensures.back;
  left = cc;
  later = omega arith;
}
