use Rattle.std.proofs.Common.{min, sym, ap, ◌∙◌, subst}
use Rattle.ow_records.specs.declared.record.Record.{Record}
use Rattle.ow_records.specs.Order.{Rises, namespace_key}
use Rattle.ow_records.specs.Records.{id_key, put_by}
use Rattle.ow_records.proofs.DueLaws.{at_end, kept_more}
use Rattle.ow_records.proofs.Sorting.{rises_sorted}
use Rattle.ow_records.proofs.records.Records.add.Goals as goal

pub put_by_id-requires-clause-rise : goal.put_by_id-requires-clause-rise
put_by_id-requires-clause-rise c = subst (Rises id_key) (sym c.self.invariant.ids) (rises_sorted id_key c.self.inside.by_end.items)

pub put_by_namespace-requires-clause-rise : goal.put_by_namespace-requires-clause-rise
put_by_namespace-requires-clause-rise c = subst (Rises namespace_key) (sym c.self.invariant.namespaces) (rises_sorted namespace_key c.self.inside.by_end.items)

pub invariant_of-self : goal.invariant_of-self
invariant_of-self c =
    let kept = c.self.inside in
    let added = c.ready.inside.by_end in
    kept_more kept.by_end.items kept.by_id.items kept.by_namespace.items c.put_at.new.list.items c.put_by_id.new.list.items c.put_by_namespace.new.list.items
    kept.least_end c.min-self-inside.result c.self.invariant added
    (c.put_at.ensures ∙ at_end kept.by_end.items added c.len-last.result (c.len-last.ensures ∙ kept.by_end.ok.0))
    (c.put_by_id.ensures ∙ ap (λ (r : Record). put_by id_key r kept.by_id.items) c.ready.invariant.0)
    (c.put_by_namespace.ensures ∙ ap (λ (r : Record). put_by namespace_key r kept.by_namespace.items) c.ready.invariant.1)
    (c.min-self-inside.ensures ∙ ap (min kept.least_end) (c.end.ensures.value ∙ ap (λ (r : Record). r.span.end) c.get.ensures))
