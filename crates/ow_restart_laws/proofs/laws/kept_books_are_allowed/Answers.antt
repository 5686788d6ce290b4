use Rattle.ow_restart_laws.proofs.BookLaws.{books_allowed}
use Rattle.ow_restart_laws.proofs.laws.kept_books_are_allowed.Goals as goal

pub returns : goal.returns
returns c = books_allowed
