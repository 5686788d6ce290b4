use Rattle.std.proofs.Common.{sym, ◌∙◌}
use Rattle.ow_day.proofs.Awaiting.{line_awaits}
use Rattle.ow_day.proofs.first.first_statement.Goals as goal

pub returns-in-Some-clause-awaits : goal.returns-in-Some-clause-awaits
returns-in-Some-clause-awaits c =
    line_awaits c.args.more c.args.bytes.now c.in-Some.place _ c.behind_line.result (sym c.requires ∙ c.in-Some.is) c.line_of.ensures c.behind_line.ensures.awaits
