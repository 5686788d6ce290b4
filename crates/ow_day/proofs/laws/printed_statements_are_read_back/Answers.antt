use Rattle.ow_day.proofs.Printing.{read_back}
use Rattle.ow_day.proofs.laws.printed_statements_are_read_back.Goals as goal

pub returns : goal.returns
returns c = read_back
