use Rattle.std.proofs.Common.{◌∙◌, sym, ap}
use Rattle.ow_decide.specs.Decision.{all_changed}
use Rattle.ow_decide.specs.Making.{changes_of}
use Rattle.ow_decide.specs.declared.step.RowChange.{RowChange}
use Rattle.ow_hall.proofs.PutLaws.{resumed_puts}
use Rattle.ow_hall.proofs.state.change_rows.Goals as goal

pub returns-in-Puts : goal.returns-in-Puts
returns-in-Puts c = c.put_rows.ensures ∙ (resumed_puts c.in-Puts.rows.items c.args.tables.now.rows ∙ ap (λ (x : RowChange). all_changed (changes_of x) c.args.tables.now.rows) (sym c.in-Puts.is))
