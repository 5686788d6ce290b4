use Rattle.std.proofs.Common.{ap}
use Rattle.ow_tables.specs.Contents.{Contents}
use Rattle.ow_tables.specs.Rows.{key}
use Rattle.ow_tables.proofs.RowLaws.{is_found, none_found}
use Rattle.ow_tables.proofs.tables.TablesLookup.row.Goals as goal

pub returns-in-Ok-clause-value : goal.returns-in-Ok-clause-value
returns-in-Ok-clause-value c =
    is_found (key c.args.kind c.args.name.now) c.self.inside.rows.items c.deref.result.now c.in-Ok.i c.index-row.result.now _ c.deref.ensures.value
    c.self.invariant.rise c.in-Ok.ensures.ok c.index-row.ensures (ap (λ (t : Contents). t.rows) c.self.view_is)

pub returns-in-Err-clause-value : goal.returns-in-Err-clause-value
returns-in-Err-clause-value c =
    none_found (key c.args.kind c.args.name.now) c.self.inside.rows.items c.deref.result.now _ _ c.deref.ensures.value
    c.in-Err.ensures.err.1 (ap (λ (t : Contents). t.rows) c.self.view_is)
