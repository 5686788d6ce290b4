use Rattle.ow_board.specs.Board.{view_of}
use Rattle.ow_worker.proofs.Carried.{others_both}
use Rattle.ow_worker.proofs.Earlier.{booked_earlier}
use Rattle.ow_worker.proofs.runs.settle.Goals as goal

pub returns-clause-settled : goal.returns-clause-settled
returns-clause-settled g c = record {
  laid = c.lay_down-laid.result;
  down = c.lay_down-laid.new.notes.notes;
  middle = c.lay_down-laid.new.pass.me.0;
  lays = c.lay_down-laid.ensures.laid;
  books = booked_earlier (g.C.Clock.tells c.args.clock.now) _ _ _ _ _ _ _ _ _ _ c.lay_down-laid.ensures.on c.book.ensures.booked;
}

pub returns-clause-others : goal.returns-clause-others
returns-clause-others g c = others_both c.args.order.slot (view_of c.args.pass.now) (view_of c.lay_down-laid.new.pass) (view_of c.book.new.pass) c.lay_down-laid.ensures.others c.book.ensures.others
