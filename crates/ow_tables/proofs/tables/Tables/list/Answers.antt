use Rattle.std.proofs.Common.{ap, subst}
use Rattle.ow_tables.specs.Contents.{Contents}
use Rattle.ow_tables.specs.Rows.{AreRows}
use Rattle.ow_tables.proofs.tables.Tables.list.Goals as goal

pub returns-clause-order : goal.returns-clause-order
returns-clause-order c = subst AreRows (ap (λ (t : Contents). t.rows) c.self.view_is) c.self.invariant.rise
