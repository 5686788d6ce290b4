use Rattle.std.proofs.Common.{◌∙◌, sym}
use Rattle.ow_floor.proofs.Results.{on_ok, sure}
use Rattle.ow_decide.proofs.rule_steps.accept_rule.Goals as goal

pub returns-clause-line : goal.returns-clause-line
returns-clause-line c = on_ok c.accept.result _ (sure c.note_made.result _ c.note_made.ensures (sym c.if-is_err.false ∙ c.is_err.ensures.value))
