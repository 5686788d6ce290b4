use Rattle.std.proofs.Common.{◌≤◌, List, length, refl, subst}
use Rattle.ow_records.specs.declared.record.Record.{Record}
use Rattle.ow_records.specs.Order.{namespace_key}
use Rattle.ow_records.proofs.Sorting.{taken_between}
use Rattle.ow_records.proofs.records.take_by_namespace.Goals as goal

pub returns : goal.returns
returns c before put =
    let place = c.place_by_namespace-place in
    let within = subst (λ (xs : List Record). place.result ≤ length xs) c.deref.ensures.value place.ensures.bound in
    taken_between namespace_key (namespace_key c.args.added.now) c.args.list.now.items c.deref.result.now c.take_before.new.list.items before c.args.added.now place.result
    c.deref.ensures.value refl c.take_before.ensures within place.ensures.place put
