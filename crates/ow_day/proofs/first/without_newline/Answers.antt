use Rattle.std.proofs.Common.{length, sym, ◌∙◌}
use Rattle.ow_day.proofs.Awaiting.{whole_awaits}
use Rattle.ow_day.proofs.first.without_newline.Goals as goal

pub returns-clause-awaits : goal.returns-clause-awaits
returns-clause-awaits c =
    whole_awaits c.args.more c.args.bytes.now _ (length c.args.bytes.now) c.behind_line.result c.line_of.ensures (sym c.is_cut.ensures ∙ c.if-is_cut.false) c.behind_line.ensures.awaits
