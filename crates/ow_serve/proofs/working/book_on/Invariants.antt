use Rattle.std.proofs.Common.{Some}
use Rattle.ow_traits.specs.Runner.{Idles}
use Rattle.ow_board.specs.Board.{IsPassOf, view_of}
use Rattle.ow_serve.specs.Working.{BooksOnce, Leads, stand}
use Rattle.ow_serve.proofs.working.book_on.Given as goal

abbrev pub invariant-loop : goal.invariant-loop
invariant-loop g l = record {
  pass : IsPassOf l.shared.board l.pass;
  runner : Idles (g.R.Runner.gives l.fn.runner) (g.R.Runner.gives l.runner) (g.R.Runner.tally l.fn.runner) (g.R.Runner.tally l.runner);
  books : Leads (BooksOnce (g.C.Clock.tells l.fn.clock)) (Some l.fn.job, stand l.fn.notes.notes (view_of l.fn.pass) (g.R.Runner.tally l.fn.runner)) (Some l.job, stand l.notes.notes (view_of l.pass) (g.R.Runner.tally l.runner));
}
