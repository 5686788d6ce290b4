use Rattle.ow_hall.proofs.Beginnings.{keeps_limits}
use Rattle.ow_hall.proofs.laws.legal_books_keep_limits.Goals as goal

pub returns : goal.returns
returns c t B legal = keeps_limits t B
