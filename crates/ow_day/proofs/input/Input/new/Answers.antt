use Rattle.std.proofs.Common.{arith, drop, rules}
use Rattle.ow_day.proofs.input.Input.new.Goals as goal

pub invariant_of-result : goal.invariant_of-result
invariant_of-result c = record {
  within = omega arith;
  searched = c.new-2.ensures (drop 0 c.new.result.items);
  read = search rules;
  most = omega arith;
  piece = search rules;
}
