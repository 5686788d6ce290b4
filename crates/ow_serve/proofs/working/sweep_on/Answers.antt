use Rattle.ow_serve.specs.Working.{goes_on, stays}
use Rattle.ow_serve.proofs.working.sweep_on.Goals as goal

pub loop-init : goal.loop-init
loop-init g c = stays

pub loop-preserved : goal.loop-preserved
loop-preserved g c = goes_on c.loop.invariant (c.watch.result, c.watch.ensures)
