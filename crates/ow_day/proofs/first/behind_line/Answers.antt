use Rattle.ow_day.proofs.Awaiting.{none_awaited}
use Rattle.ow_day.proofs.first.behind_line.Goals as goal

pub returns-in-Some-Asks-clause-awaits : goal.returns-in-Some-Asks-clause-awaits
returns-in-Some-Asks-clause-awaits c = none_awaited c.args.more _ c.args.behind c.asked.result c.asked.ensures.awaits
