use Rattle.ow_board.specs.Board.{IsPassOf}
use Rattle.ow_board_bench.proofs.work.Given as goal

abbrev pub invariant-loop-round : goal.invariant-loop-round
invariant-loop-round l = IsPassOf l.board l.pass
