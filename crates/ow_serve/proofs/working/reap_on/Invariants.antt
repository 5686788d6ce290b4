use Rattle.ow_traits.specs.Runner.{RanNone}
use Rattle.ow_board.specs.Board.{IsPassOf, view_of}
use Rattle.ow_serve.specs.Working.{Leads, ReapsOnce}
use Rattle.ow_serve.proofs.working.reap_on.Given as goal

abbrev pub invariant-loop : goal.invariant-loop
invariant-loop g l = record {
  pass : IsPassOf l.shared.board l.pass;
  ran : RanNone (g.R.Runner.tally l.fn.runner) (g.R.Runner.tally l.runner);
  reaps : Leads (ReapsOnce (g.C.Clock.tells l.fn.clock) l.fn.opened) (l.fn.notes.notes, view_of l.fn.pass) (l.notes.notes, view_of l.pass);
}
