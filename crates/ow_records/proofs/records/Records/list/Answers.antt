use Rattle.std.proofs.Common.{◌≡◌, List, IfOk, drop, filter, map, take, sym, ap, ◌∙◌, subst}
use Rattle.std.specs.Prelude.{reverse}
use Rattle.ow_records.specs.declared.record.Record.{Record}
use Rattle.ow_records.specs.Order.{Rises, namespace_key}
use Rattle.ow_records.specs.Records.{RecordsView, id_key, is_in, sorted_by}
use Rattle.ow_records.specs.Written.{summary_value}
use Rattle.ow_records.proofs.Regions.{filter_sorted}
use Rattle.ow_records.proofs.Sorting.{rises_sorted}
use Rattle.ow_records.proofs.records.Records.list.Goals as goal

pub part-requires : goal.part-requires
part-requires c = subst (Rises namespace_key) (sym (c.deref.ensures.value ∙ c.self.invariant.namespaces)) (rises_sorted namespace_key c.self.inside.by_end.items)

pub returns : goal.returns
returns c =
    let namespace = c.args.namespace.now in
    let same =
    c.part.ensures ∙ ap (filter (is_in namespace)) (c.deref.ensures.value ∙ c.self.invariant.namespaces)
    ∙ filter_sorted namespace c.self.inside.by_end.items ∙ ap (λ (v : RecordsView). sorted_by id_key (filter (is_in namespace) v.items)) c.self.view_is in
    subst (λ (rs : List Record). IfOk c.last_shown.result (λ vs. vs ≡ map summary_value (take c.args.limit (drop c.args.skip (reverse rs))))) same c.last_shown.ensures
