use Rattle.std.proofs.Common.{subst, sym}
use Rattle.ow_traits.specs.Rows.{AreRows}
use Rattle.ow_value.proofs.Entries.{rises_with}
use Rattle.ow_traits.proofs.Keys.{put_there, put_between}
use Rattle.ow_traits.proofs.row_edits.put_row.Goals as goal

pub returns-in-Ok-clause-ok : goal.returns-in-Ok-clause-ok
returns-in-Ok-clause-ok c =
    put_there c.args.rows.now.items c.deref.result.now c.as_str.result.now c.args.key c.args.text c.in-Ok.i c.index_mut.result.now c.deref.ensures.value c.as_str.ensures.value c.requires c.in-Ok.ensures.ok c.index_mut.ensures.value

pub returns-in-Ok-clause-rows : goal.returns-in-Ok-clause-rows
returns-in-Ok-clause-rows c =
    let items = put_there c.args.rows.now.items c.deref.result.now c.as_str.result.now c.args.key c.args.text c.in-Ok.i c.index_mut.result.now c.deref.ensures.value c.as_str.ensures.value c.requires c.in-Ok.ensures.ok c.index_mut.ensures.value in
    subst AreRows (sym items) (rises_with c.args.rows.now.items c.args.key c.args.text c.requires)

pub returns-in_ok-insert-in-Err-clause-ok : goal.returns-in_ok-insert-in-Err-clause-ok
returns-in_ok-insert-in-Err-clause-ok c =
    put_between c.args.rows.now.items c.deref.result.now c.insert.new.self.items c.as_str.result.now c.args.key c.args.text c.in-Err.i c.deref.ensures.value c.as_str.ensures.value c.in-Err.ensures.err.1 c.in_ok-insert-in-Err.ensures.items

pub returns-in_ok-insert-in-Err-clause-rows : goal.returns-in_ok-insert-in-Err-clause-rows
returns-in_ok-insert-in-Err-clause-rows c =
    let items = put_between c.args.rows.now.items c.deref.result.now c.insert.new.self.items c.as_str.result.now c.args.key c.args.text c.in-Err.i c.deref.ensures.value c.as_str.ensures.value c.in-Err.ensures.err.1 c.in_ok-insert-in-Err.ensures.items in
    subst AreRows (sym items) (rises_with c.args.rows.now.items c.args.key c.args.text c.requires)
