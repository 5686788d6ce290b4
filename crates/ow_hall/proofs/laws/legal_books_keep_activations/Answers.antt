use Rattle.ow_hall.proofs.Beginnings.{keeps_each}
use Rattle.ow_hall.proofs.laws.legal_books_keep_activations.Goals as goal

pub returns : goal.returns
returns c t B legal = keeps_each t B
