use Rattle.ow_command_line.proofs.Turned.{turned_command}
use Rattle.ow_command_line.proofs.laws.options_stand_in_any_order.Goals as goal

pub returns : goal.returns
returns c = λ word words turned t. turned_command word words turned t
