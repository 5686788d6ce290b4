use Rattle.ow_traits.specs.Runner.{Steady}
use Rattle.ow_board.specs.Board.{IsPassOf, view_of}
use Rattle.ow_serve.specs.Working.{Leads, WorksOnce, stand}
use Rattle.ow_serve.proofs.working.work_on.Given as goal

abbrev pub invariant-loop : goal.invariant-loop
invariant-loop g l = record {
  pass : IsPassOf l.shared.board l.pass;
  runner : Steady (g.R.Runner.gives l.fn.runner) (g.R.Runner.gives l.runner) (g.R.Runner.tally l.fn.runner) (g.R.Runner.tally l.runner);
  works : Leads (WorksOnce (g.R.Runner.gives l.fn.runner) (g.C.Clock.tells l.fn.clock) l.fn.opened) (stand l.fn.notes.notes (view_of l.fn.pass) (g.R.Runner.tally l.fn.runner)) (stand l.notes.notes (view_of l.pass) (g.R.Runner.tally l.runner));
}
