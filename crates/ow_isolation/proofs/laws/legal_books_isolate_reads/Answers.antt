use Rattle.ow_isolation.proofs.Beginnings.{reads_isolated}
use Rattle.ow_isolation.proofs.laws.legal_books_isolate_reads.Goals as goal

pub returns : goal.returns
returns c = reads_isolated c.reads_are_answered_of_the_view.ensures c.reads_change_nothing.ensures
