use Rattle.ow_command_line.proofs.Worked.{takes_services}
use Rattle.ow_command_line.proofs.laws.services_are_taken.Goals as goal

pub returns : goal.returns
returns c = λ p w n f g at many most p_is w_is n_is e d. takes_services p w n f g at many most p_is w_is n_is e d
