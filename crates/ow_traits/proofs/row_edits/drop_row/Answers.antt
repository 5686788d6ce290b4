use Rattle.std.proofs.Common.{subst, sym, add-one}
use Rattle.ow_traits.specs.Rows.{AreRows}
use Rattle.ow_traits.proofs.Keys.{drop_there, drop_nowhere, AreRows-without}
use Rattle.ow_traits.proofs.row_edits.drop_row.Goals as goal

pub returns-in-Ok-clause-items : goal.returns-in-Ok-clause-items
returns-in-Ok-clause-items c =
    drop_there c.args.rows.now.items c.deref.result.now c.remove.new.self.items c.args.key.now c.in-Ok.i _ c.deref.ensures.value c.requires c.in-Ok.ensures.ok (add-one c.in-Ok.i) c.remove.ensures.by_index.2

pub returns-in-Ok-clause-rows : goal.returns-in-Ok-clause-rows
returns-in-Ok-clause-rows c =
    let items = drop_there c.args.rows.now.items c.deref.result.now c.remove.new.self.items c.args.key.now c.in-Ok.i _ c.deref.ensures.value c.requires c.in-Ok.ensures.ok (add-one c.in-Ok.i) c.remove.ensures.by_index.2 in
    subst AreRows (sym items) (AreRows-without c.args.rows.now.items c.args.key.now c.requires)

pub returns-in-Err-clause-items : goal.returns-in-Err-clause-items
returns-in-Err-clause-items c = drop_nowhere c.args.rows.now.items c.deref.result.now c.args.key.now c.in-Err.field-0 c.deref.ensures.value c.in-Err.ensures.err.1
