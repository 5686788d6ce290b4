use Rattle.std.proofs.Common.{◌≡◌, ◌∙◌, ◌+◌, ◌++◌, ◌∷◌, [], length, take, arith, refl, sym, ap, subst}
use Rattle.std.specs.List.{filter}
use Rattle.std.proofs.lemmas.Grind.{common_steps}
use Rattle.std.proofs.lemmas.List.{take_all, take_more}
use Rattle.std.proofs.lemmas.List.Elements.{All-take}
use Rattle.ow_records.specs.declared.record.Record.{Record}
use Rattle.ow_usage.specs.Cells.{AreInOrder, Cells, HasOneMore, HaveRoom, IsCountable, cell_at, counted, counted_at, day_of, is_of, is_within, total, totals_if, totals_of}
use Rattle.ow_usage.proofs.CellLaws.{cell_more, counted_same, have_room, total_more, within_none, within_some}
use Rattle.ow_usage.proofs.usage.cells.Goals.{in-Some+in_ok-add-in-Some, in-None}
use Rattle.ow_usage.proofs.usage.cells.Goals as goal

pub add-requires-clause-room : goal.add-requires-clause-room
add-requires-clause-room c =
    let xs = take c.loop-record.record-index c.args.records.now in
    subst HaveRoom (sym c.loop-record.invariant.total)
    (have_room c.args.from c.args.to xs (All-take IsCountable _ _ c.requires) (grind (arith, common_steps)))

pub loop-record-preserved : goal.loop-record-preserved
loop-record-preserved c =
    let from = c.args.from in
    let to = c.args.to in
    let i = c.loop-record.record-index in
    let all = c.args.records.now in
    let xs = take i all in
    let r = c.record-item.result in
    let kept = c.loop-record.invariant in
    let longer : take (i + 1) all ≡ xs ++ r ∷ [] = take_more all i r c.loop-record-test.true ∙ ap (λ x. xs ++ x ∷ []) (sym c.record-item.is) in
    elim c.match-day_within.branch [
      | in-Some+in_ok-add-in-Some w ↦ (
          let within = within_some (is_within from to r) _ _ (sym c.day_within.ensures ∙ w.in-Some.is) in
          let more = subst (λ (cs : Cells). HasOneMore c.loop-record.cells r cs) (sym w.cells-is) w.in_ok-add-in-Some.ensures.ok in
          record {
            order = more.order;
            each = λ place. cell_more from to xs r c.loop-record.cells c.match-day_within.cells place (is_of place r) within more kept.each refl
                ∙ ap (λ ys. totals_if (counted_at from to place ys)) (sym longer);
            total = total_more from to xs r c.loop-record.cells c.match-day_within.cells within more kept.total ∙ ap (λ ys. totals_of (counted from to ys)) (sym longer);
          })
      | in-None w ↦ (
          let outside = within_none (is_within from to r) _ (sym c.day_within.ensures ∙ w.in-None.is) in
          let same : counted from to (take (i + 1) all) ≡ counted from to xs = ap (counted from to) longer ∙ counted_same from to xs r outside in
          record {
            order = subst AreInOrder (sym w.cells-is) kept.order;
            each = λ place. ap (cell_at place) w.cells-is ∙ kept.each place ∙ ap (λ ys. totals_if (filter (is_of place) ys)) (sym same);
            total = ap total w.cells-is ∙ kept.total ∙ ap totals_of (sym same);
          })
    ]

pub returns-clause-cells : goal.returns-clause-cells
returns-clause-cells c =
    let whole = take_all c.loop-record.record-index c.args.records.now c.loop-record-test.false in
    record {
      order = c.loop-record.invariant.order;
      each = λ place. c.loop-record.invariant.each place ∙ ap (λ ys. totals_if (counted_at c.args.from c.args.to place ys)) whole;
    }
