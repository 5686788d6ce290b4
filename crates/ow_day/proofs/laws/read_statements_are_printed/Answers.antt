use Rattle.ow_day.proofs.Statements.{first_printed}
use Rattle.ow_day.proofs.laws.read_statements_are_printed.Goals as goal

pub returns : goal.returns
returns c = first_printed
