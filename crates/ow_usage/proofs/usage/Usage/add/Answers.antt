use Rattle.std.proofs.Common.{◌≡◌, ◌∙◌, ◌≤◌, arith, ap, ap₂, subst, sym}
use Rattle.std.specs.List.{AllByRecursion}
use Rattle.std.specs.Map.{keys_of}
use Rattle.ow_usage.specs.Cells.{Cells, HasOneMore, cell_at, or_nothing, place_of, plus}
use Rattle.ow_usage.proofs.CellLaws.{days_insert, has_one_more}
use Rattle.ow_usage.proofs.usage.Usage.add.Goals as goal

pub invariant_of-self-2 : goal.invariant_of-self-2
invariant_of-self-2 c =
    let r = c.args.record.now in
    let old = c.self.inside.cells.entries in
    let new = c.insert.new.self.entries in
    let done = c.in_ok-insert.ensures in
    let key : (c.args.day, c.in_ok-of.field-0) ≡ place_of r = ap₂ (λ d n. (d, n)) c.requires.day (c.in_ok-of.ensures ∙ c.as_str.ensures.value) in
    let had = c.at.ensures.value ∙ ap (λ (es : Cells). or_nothing (cell_at (c.args.day, c.in_ok-of.field-0) es)) (sym c.self.view_is) in
    let more = has_one_more r old new _ _ _ _ c.self.invariant.0.0 done.ordered key c.of-one.ensures had c.plus-totals.ensures done.entries done.updates.0 in
    let last : c.args.day ≤ 2932896 = omega (arith, c.requires.day, c.requires.record.start) in (
      (done.ordered, subst (λ (es : Cells). AllByRecursion (λ p. p.0 ≤ 2932896) (keys_of es)) (sym done.entries) (days_insert old _ _ c.self.invariant.0.1 last)),
      c.plus-all.ensures ∙ (ap₂ plus c.self.invariant.1 c.of-one.ensures ∙ sym more.total),
    )

pub returns : goal.returns
returns c =
    let r = c.args.record.now in
    let old = c.self.inside.cells.entries in
    let new = c.insert.new.self.entries in
    let done = c.in_ok-insert.ensures in
    let key : (c.args.day, c.in_ok-of.field-0) ≡ place_of r = ap₂ (λ d n. (d, n)) c.requires.day (c.in_ok-of.ensures ∙ c.as_str.ensures.value) in
    let had = c.at.ensures.value ∙ ap (λ (es : Cells). or_nothing (cell_at (c.args.day, c.in_ok-of.field-0) es)) (sym c.self.view_is) in
    record { ok = subst (λ (es : Cells). HasOneMore es r new) c.self.view_is (has_one_more r old new _ _ _ _ c.self.invariant.0.0 done.ordered key c.of-one.ensures had c.plus-totals.ensures done.entries done.updates.0) }
