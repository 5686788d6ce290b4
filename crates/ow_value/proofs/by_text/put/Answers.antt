use Rattle.std.proofs.Common.{subst, sym}
use Rattle.ow_value.proofs.Entries.{rises_with}
use Rattle.ow_value.specs.ByText.{IsByText}
use Rattle.ow_value.proofs.ByTextLaws.{put_there, put_between}
use Rattle.ow_value.proofs.by_text.put.Goals as goal

pub returns-in-Ok-clause-ok : goal.returns-in-Ok-clause-ok
returns-in-Ok-clause-ok g c =
    put_there c.args.entries.now.items c.deref.result.now c.as_bytes.result.now c.args.text c.args.value c.in-Ok.i c.index_mut.result.now c.deref.ensures.value (cc) c.requires c.in-Ok.ensures.ok c.index_mut.ensures.value

pub returns-in-Ok-clause-by_text : goal.returns-in-Ok-clause-by_text
returns-in-Ok-clause-by_text g c =
    let items = put_there c.args.entries.now.items c.deref.result.now c.as_bytes.result.now c.args.text c.args.value c.in-Ok.i c.index_mut.result.now c.deref.ensures.value (cc) c.requires c.in-Ok.ensures.ok c.index_mut.ensures.value in
    subst IsByText (sym items) (rises_with c.args.entries.now.items c.args.text c.args.value c.requires)

pub returns-in_ok-insert-in-Err-clause-ok : goal.returns-in_ok-insert-in-Err-clause-ok
returns-in_ok-insert-in-Err-clause-ok g c =
    put_between c.args.entries.now.items c.deref.result.now c.insert.new.self.items c.as_bytes.result.now c.args.text c.args.value c.in-Err.i c.deref.ensures.value (cc) c.in-Err.ensures.err.1 c.in_ok-insert-in-Err.ensures.items

pub returns-in_ok-insert-in-Err-clause-by_text : goal.returns-in_ok-insert-in-Err-clause-by_text
returns-in_ok-insert-in-Err-clause-by_text g c =
    let items = put_between c.args.entries.now.items c.deref.result.now c.insert.new.self.items c.as_bytes.result.now c.args.text c.args.value c.in-Err.i c.deref.ensures.value (cc) c.in-Err.ensures.err.1 c.in_ok-insert-in-Err.ensures.items in
    subst IsByText (sym items) (rises_with c.args.entries.now.items c.args.text c.args.value c.requires)
