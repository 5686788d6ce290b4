use Rattle.ow_command_line.proofs.Worked.{takes_deployments, words_of_days}
use Rattle.ow_command_line.proofs.laws.deployments_are_taken.Goals as goal

pub returns-clause-taken : goal.returns-clause-taken
returns-clause-taken c = λ f g e d. takes_deployments f g e d

pub returns-clause-options : goal.returns-clause-options
returns-clause-options c = words_of_days
