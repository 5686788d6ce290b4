use Rattle.ow_command_line.proofs.Worked.{refuses_drills, takes_counts, takes_drills}
use Rattle.ow_command_line.proofs.laws.drills_are_taken.Goals as goal

pub returns-clause-taken : goal.returns-clause-taken
returns-clause-taken c = λ n s f g k x n_is s_is e d. takes_drills n s f g k x n_is s_is e d

pub returns-clause-counts : goal.returns-clause-counts
returns-clause-counts c = takes_counts

pub returns-clause-refused : goal.returns-clause-refused
returns-clause-refused c = refuses_drills
