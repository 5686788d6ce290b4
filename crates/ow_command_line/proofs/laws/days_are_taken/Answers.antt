use Rattle.ow_command_line.proofs.Worked.{takes_days}
use Rattle.ow_command_line.proofs.laws.days_are_taken.Goals as goal

pub returns : goal.returns
returns c = λ f g e d. takes_days f g e d
