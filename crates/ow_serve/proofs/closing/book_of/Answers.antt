use Rattle.ow_serve.proofs.Whole.{legal_copied}
use Rattle.ow_serve.proofs.closing.book_of.Goals as goal

pub returns : goal.returns
returns g c = legal_copied c.copy.result _ _ _ c.book.ensures.legal c.book.ensures.ledger c.copy.ensures
