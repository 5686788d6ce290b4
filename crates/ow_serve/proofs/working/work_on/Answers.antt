use Rattle.std.proofs.Common.{refl}
use Rattle.ow_board.specs.Board.{view_of}
use Rattle.ow_invoker.proofs.Running.{steady_refl, steady_trans}
use Rattle.ow_serve.specs.Working.{goes_on, stand, stays}
use Rattle.ow_serve.proofs.Turning.{works_by}
use Rattle.ow_serve.proofs.working.work_on.Goals as goal

pub loop-init : goal.loop-init
loop-init g c = record { pass = c.requires; runner = steady_refl _ _; works = stays }

pub loop-preserved : goal.loop-preserved
loop-preserved g c =
    let was = c.loop.invariant in
    let one = c.work_once.ensures in
    record { pass = one.pass; runner = steady_trans was.runner one.runner; works = goes_on was.works (works_by was.runner one.works) }

pub returns-then-is_over-clause-turns : goal.returns-then-is_over-clause-turns
returns-then-is_over-clause-turns g c = record {
  last = stand c.loop.notes.notes (view_of c.loop.pass) (g.R.Runner.tally c.loop.runner);
  works = c.loop.invariant.works;
  notes = refl;
  ran = refl;
}
