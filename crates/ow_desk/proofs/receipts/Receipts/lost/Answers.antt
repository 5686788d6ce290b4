use Rattle.std.proofs.Common.{subst}
use Rattle.ow_decide.specs.Decisions.{taken_told}
use Rattle.ow_decide.specs.declared.events.Event.TheVariants as events
use Rattle.ow_hall.specs.Ledger.{Ledger}
use Rattle.ow_desk.specs.Notes.{IsStanding}
use Rattle.ow_desk.proofs.Received.{taken_called}
use Rattle.ow_desk.proofs.receipts.Receipts.lost.Goals as goal

pub returns-clause-called : goal.returns-clause-called
returns-clause-called g c =
    let hall = c.desk.inside.hall in
    let standing = subst (λ (L : Ledger). IsStanding L.entries c.args.at c.of-before.result) c.book.ensures.ledger c.of-before.ensures in
    taken_called g.P.Keeper.telling hall c.lost-taken.new.self c.args.at (events.Lost c.args.run) (taken_told c.lost-taken.result) c.taken_told.result c.args.self.now.notes
    c.note.new.self.notes c.of-before.result c.lost-taken.ensures standing c.taken_told.ensures (c.note.ensures.notes hall.ledger.entries c.args.at standing)
