use Rattle.std.proofs.Common.{◌≡◌, List, IfOk, filter, sym, ap, ◌∙◌, subst, arith}
use Rattle.ow_records.specs.declared.record.Record.{Record}
use Rattle.ow_records.specs.Records.{RecordsView, id_key, is_due, sorted_by}
use Rattle.ow_records.proofs.DueLaws.{none_due}
use Rattle.ow_records.proofs.Filtered.{filter_of_sorted}
use Rattle.ow_records.proofs.records.Records.due.Goals as goal

pub returns-then-until-self : goal.returns-then-until-self
returns-then-until-self c =
    let kept = c.self.inside in
    let until = c.args.until in
    let none = none_due kept.least_end until (omega (arith, c.if-until-self.true)) kept.by_end.items c.self.invariant.ends in
    c.new.ensures.items ∙ ap (sorted_by id_key) (sym none ∙ ap (λ (v : RecordsView). filter (is_due until) v.items) c.self.view_is)

pub returns : goal.returns
returns c =
    let until = c.args.until in
    let same =
    ap (filter (is_due until)) (c.deref.ensures.value ∙ c.self.invariant.ids) ∙ filter_of_sorted id_key (is_due until) c.self.inside.by_end.items
    ∙ ap (λ (v : RecordsView). sorted_by id_key (filter (is_due until) v.items)) c.self.view_is in
    subst (λ (rs : List Record). IfOk c.due_copies.result (λ due. due.items ≡ rs)) same c.due_copies.ensures
