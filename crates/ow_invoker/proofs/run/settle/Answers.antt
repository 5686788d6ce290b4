use Rattle.std.proofs.Common.{inl, refl}
use Rattle.ow_invoker.proofs.Parts.{settled}
use Rattle.ow_invoker.proofs.run.settle.Goals as goal

pub returns-in-Ok-clause-settles : goal.returns-in-Ok-clause-settles
returns-in-Ok-clause-settles g c =
    settled g.P.Keeper.telling c.args.hall.now c.book.new.hall c.args.at c.args.order.now c.args.reply c.args.shelf.now c.lay_down.new.shelf c.book.new.shelf c.book.result
    c.in-Ok.ensures.lays c.book.ensures.books

pub returns-in-Err-clause-settles : goal.returns-in-Err-clause-settles
returns-in-Err-clause-settles g c = inl (refl, c.in-Err.ensures.lays)
