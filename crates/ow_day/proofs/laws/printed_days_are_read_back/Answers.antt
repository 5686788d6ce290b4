use Rattle.ow_day.proofs.PrintedDays.{day_read_back}
use Rattle.ow_day.proofs.laws.printed_days_are_read_back.Goals as goal

pub returns : goal.returns
returns c = day_read_back
