use Rattle.std.proofs.Common.{◌∙◌}
use Rattle.ow_floor.proofs.Making.{sweeps_at}
use Rattle.ow_floor.proofs.ends.sweep.Goals as goal

pub loop-i-preserved : goal.loop-i-preserved
loop-i-preserved c =
    record {
      made = sweeps_at c.args.at c.args.lists.now.now c.loop-i.lists.now c.end_late.new.lists.now c.loop-i.i c.args.moves.now c.loop-i.moves c.end_late.new.moves
          (rw (← c.runs-count.ensures) c.loop-i-test.true) c.loop-i.invariant.made c.in_ok-end_late.ensures.made;
      past = c.end_late.ensures.held ∙ c.loop-i.invariant.past;
    }
