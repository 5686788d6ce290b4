use Rattle.ow_traits.specs.Runner.{RanNone}
use Rattle.ow_board.specs.Board.{IsPassOf}
use Rattle.ow_serve.proofs.closing.clear.Given as goal

abbrev pub invariant-loop-i : goal.invariant-loop-i
invariant-loop-i g l = record {
  pass : IsPassOf l.shared.board l.pass;
  ran : RanNone (g.R.Runner.tally l.fn.runner) (g.R.Runner.tally l.runner);
}
