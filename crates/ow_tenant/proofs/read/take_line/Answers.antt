use Rattle.std.proofs.Common.{◌∙◌}
use Rattle.csv.specs.Records.{fields_of}
use Rattle.ow_tenant.proofs.RowsLaws.{row-none, row-some}
use Rattle.ow_tenant.proofs.read.take_line.Goals as goal

pub returns-in-Ok-clause-ok : goal.returns-in-Ok-clause-ok
returns-in-Ok-clause-ok c = rw (row-some c.args.draft.now (fields_of c.args.row.now) c.in-Ok.line c.in-Ok.ensures) c.take.ensures.ok

pub returns-in-Ok-clause-bad : goal.returns-in-Ok-clause-bad
returns-in-Ok-clause-bad c h = row-some c.args.draft.now (fields_of c.args.row.now) c.in-Ok.line c.in-Ok.ensures ∙ c.take.ensures.bad h

pub returns-in-Err-clause-bad : goal.returns-in-Err-clause-bad
returns-in-Err-clause-bad c h = row-none c.args.draft.now (fields_of c.args.row.now) (c.in-Err.ensures (λ e. cc (h, e)))
