use Rattle.ow_command_line.proofs.Turned.{moved_numbers, turned_options}
use Rattle.ow_command_line.proofs.laws.numbers_stand_among_options.Goals as goal

pub returns-clause-moved : goal.returns-clause-moved
returns-clause-moved c = λ words moved m. moved_numbers words moved m

pub returns-clause-turned : goal.returns-clause-turned
returns-clause-turned c = λ words turned t. turned_options words turned t
