use Rattle.ow_hall.proofs.Beginnings.{children_steps, ends_steps, keeps_steps}
use Rattle.ow_hall.proofs.laws.legal_books_keep_steps.Goals as goal

pub returns-clause-steps : goal.returns-clause-steps
returns-clause-steps c t B legal = keeps_steps t B

pub returns-clause-children : goal.returns-clause-children
returns-clause-children c t e B legal = children_steps t e B

pub returns-clause-ends : goal.returns-clause-ends
returns-clause-ends c t e B legal = ends_steps t e B
