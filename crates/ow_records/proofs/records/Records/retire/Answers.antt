use Rattle.std.proofs.Common.{◌≡◌, List, filter, sym, subst, arith}
use Rattle.ow_records.specs.declared.record.Record.{Record}
use Rattle.ow_records.specs.Order.{AreFrom}
use Rattle.ow_records.specs.Records.{RecordsView, is_retained}
use Rattle.ow_records.proofs.DueLaws.{all_retained, kept_passing}
use Rattle.ow_records.proofs.records.Records.retire.Goals as goal

pub returns-then-until-self : goal.returns-then-until-self
returns-then-until-self c =
    let kept = c.self.inside in
    let until = c.args.until in
    let all = all_retained kept.least_end until (omega (arith, c.if-until-self.true)) kept.by_end.items c.self.invariant.ends in
    subst (λ (v : RecordsView). v.items ≡ filter (is_retained until) v.items) c.self.view_is (sym all)

pub invariant_of-self : goal.invariant_of-self
invariant_of-self c =
    let kept = c.self.inside in
    let least = c.least_end-self-inside in
    kept_passing kept.by_end.items kept.by_id.items kept.by_namespace.items c.retain_later.new.records.items c.retain_later-2.new.records.items c.retain_later-3.new.records.items
    kept.least_end least.result c.self.invariant (is_retained c.args.until) c.retain_later.ensures c.retain_later-2.ensures c.retain_later-3.ensures
    (subst (λ (rs : List Record). AreFrom least.result rs) c.deref.ensures.value least.ensures)
