use Rattle.std.proofs.Common.{refl}
use Rattle.ow_value.proofs.Finding.{set_at, insert_at}
use Rattle.ow_value.proofs.fields.put_pair.Goals as goal

pub returns-in-Ok-clause-ok : goal.returns-in-Ok-clause-ok
returns-in-Ok-clause-ok c =
    set_at c.args.pairs.now.items c.deref.result.now c.as_str.result.now c.args.name c.args.value c.in-Ok.i c.index_mut.result.now _ c.deref.ensures.value c.as_str.ensures.value c.requires c.in-Ok.ensures.ok c.index_mut.ensures.value refl

pub returns-in_ok-insert-in-Err-clause-ok : goal.returns-in_ok-insert-in-Err-clause-ok
returns-in_ok-insert-in-Err-clause-ok c =
    insert_at c.args.pairs.now.items c.deref.result.now c.insert.new.self.items c.as_str.result.now (record { name = c.args.name; value = c.args.value }) c.in-Err.i _ c.deref.ensures.value c.as_str.ensures.value c.in_ok-insert-in-Err.ensures.items c.in-Err.ensures.err refl
