use Rattle.ow_command_line.proofs.Worked.{refuses_again}
use Rattle.ow_command_line.proofs.laws.options_stand_once.Goals as goal

pub returns : goal.returns
returns c = λ f g e d. refuses_again f g e d
