use Rattle.ow_command_line.proofs.Worked.{bounds_workers, refuses_services, takes_numbers}
use Rattle.ow_command_line.proofs.laws.services_have_bounds.Goals as goal

pub returns-clause-workers : goal.returns-clause-workers
returns-clause-workers c = λ p w at n p_is w_is. bounds_workers p w at n p_is w_is

pub returns-clause-taken : goal.returns-clause-taken
returns-clause-taken c = takes_numbers

pub returns-clause-refused : goal.returns-clause-refused
returns-clause-refused c = refuses_services
