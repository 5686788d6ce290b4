use Rattle.ow_restart_laws.proofs.BookLaws.{books_last, others_of_books_last}
use Rattle.ow_restart_laws.proofs.laws.kept_books_last.Goals as goal

pub returns-clause-kept : goal.returns-clause-kept
returns-clause-kept c = books_last

pub returns-clause-others : goal.returns-clause-others
returns-clause-others c = others_of_books_last
