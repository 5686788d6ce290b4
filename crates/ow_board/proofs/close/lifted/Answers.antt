use Rattle.std.proofs.Common.{rules, arith, ◌≡◌, ◌<◌, ◌≤◌, length, sym, ap, ◌∙◌}
use lib.ListN.{get_elem?}
use Rattle.std.specs.Mem.Slots.{slots_items, slots_filled, slots_len, slots_counts}
use Rattle.ow_board.proofs.Taking.{take_more, take_whole, still_full, now_empty}
use Rattle.ow_board.proofs.close.lifted.Goals as goal

pub loop-i-preserved : goal.loop-i-preserved
loop-i-preserved g c =
    let inv = c.loop-i.invariant in
    let others = c.take.ensures.others in
    let row = c.loop-i.closed.slots in
    let wide : slots_len row ≡ length (slots_filled row) = (slots_counts row).1 in
    let as_many : slots_len row ≡ c.slot_count-n.result = inv.0 in
    let more : c.loop-i.i < c.slot_count-n.result = c.loop-i-test.true in
    let near : c.loop-i.i < length (slots_filled row) = omega arith in (
      search rules,
      search rules,
      others.0 ∙ inv.2,
      take_more _ _ _ _ _ (sym (ap (λ l. get_elem? l c.loop-i.i) inv.2) ∙ c.take.ensures.value) inv.3 c.push_reserved.ensures.items,
      search rules,
      still_full _ _ _ _ others.1 inv.5,
      now_empty _ _ _ others.1 near inv.6,
    )

pub returns : goal.returns
returns g c =
    let inv = c.loop-i.invariant in
    let row = c.args.closed.slots in
    let wide : slots_len row ≡ length (slots_items row) = (slots_counts row).0 in
    let as_many : c.slot_count-n.result ≡ slots_len row = c.slot_count-n.ensures in
    let done : c.slot_count-n.result ≤ c.loop-i.i = c.loop-i-test.false in
    let near : c.loop-i.i ≤ c.slot_count-n.result = inv.1 in
    inv.3 ∙ take_whole (slots_items row) c.loop-i.i (omega arith)
