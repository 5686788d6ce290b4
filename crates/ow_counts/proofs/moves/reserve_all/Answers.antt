use Rattle.std.proofs.Common.{◌∙◌}
use Rattle.ow_counts.proofs.Moving.{front_roomy, rooms_moved}
use Rattle.ow_counts.proofs.moves.reserve_all.Goals as goal

pub loop-moved-preserved : goal.loop-moved-preserved
loop-moved-preserved c =
    let old = c.loop-moved.counts in
    let new = c.reserve_for.new.counts in
    record {
      notes = λ ns h. c.reserve_for.ensures.notes ns (c.loop-moved.invariant.notes ns h);
      busy = c.reserve_for.ensures.busy ∙ c.loop-moved.invariant.busy;
      room = front_roomy c.args.count c.args.moves.now c.loop-moved.moved-index c.moved-item.result old new c.loop-moved-test.true c.moved-item.is c.loop-moved.invariant.room
          (rooms_moved old new c.args.count c.args.count (λ name h. c.reserve_for.ensures.keeps name c.args.count h)) c.in_ok-reserve_for.ensures.room;
    }
