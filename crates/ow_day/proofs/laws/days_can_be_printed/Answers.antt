use Rattle.ow_day.proofs.Statements.{day_can_be_printed}
use Rattle.ow_day.proofs.laws.days_can_be_printed.Goals as goal

pub returns : goal.returns
returns c = day_can_be_printed
