use Rattle.std.proofs.Common.{◌≤◌}
use Rattle.ow_traits.specs.Runner.{Idles}
use Rattle.ow_board.specs.Board.{StaysPassOf, view_of}
use Rattle.ow_worker.specs.Shown.{GoesOn}
use Rattle.ow_worker.specs.Reaped.{KeepsBehind, Reaped}
use Rattle.ow_worker.proofs.reaping.reap.Given as goal

abbrev pub invariant-loop-i : goal.invariant-loop-i
invariant-loop-i g l = record {
  pass : StaysPassOf l.board l.fn.pass l.pass;
  on : GoesOn (view_of l.fn.pass) (view_of l.pass);
  runner : Idles (g.R.Runner.gives l.fn.runner) (g.R.Runner.gives l.runner) (g.R.Runner.tally l.fn.runner) (g.R.Runner.tally l.runner);
  few : l.taken ≤ l.i;
  behind : KeepsBehind l.i (view_of l.fn.pass) (view_of l.pass);
  reaped : Reaped (g.C.Clock.tells l.fn.clock) l.elapsed (view_of l.fn.pass).steps l.fn.notes.notes l.i (view_of l.pass) l.taken l.notes.notes;
}
