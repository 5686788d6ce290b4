use Rattle.std.proofs.Common.{arith, ◌∙◌, ◌+◌, refl, subst}
use Rattle.ow_board.specs.Board.{view_of}
use Rattle.ow_invoker.proofs.Running.{idles_trans}
use Rattle.ow_desk.specs.Notes.{Notes}
use Rattle.ow_worker.specs.Reaped.{SlotReaped}
use Rattle.ow_worker.proofs.Slots.{reaped_more}
use Rattle.ow_worker.proofs.reaping.reap.Goals as goal

pub loop-i-preserved : goal.loop-i-preserved
loop-i-preserved g c =
    let inv = c.loop-i.invariant in
    let one = c.reap_slot-taken.ensures in
    let more = one.reaped.later in
    let so : SlotReaped (g.C.Clock.tells c.args.clock.now) c.loop-i.i c.seconds_since-elapsed.result c.loop-i.notes.notes c.reap_slot-taken.new.notes.notes (view_of c.loop-i.pass) (view_of c.reap_slot-taken.new.pass) c.reap_slot-taken.result =
    subst (λ (n : Notes). SlotReaped (g.C.Clock.tells c.args.clock.now) c.loop-i.i c.seconds_since-elapsed.result n c.reap_slot-taken.new.notes.notes (view_of c.loop-i.pass) (view_of c.reap_slot-taken.new.pass) c.reap_slot-taken.result)
    c.reserve.ensures.notes one.reaped in record {
      pass = (one.pass.0, one.pass.1 ∙ inv.pass.1);
      on = omega (arith, inv.on, more);
      runner = idles_trans inv.runner one.runner;
      few = omega (arith, inv.few, one.one);
      behind = λ j le. one.reaped.others j (λ e. omega (arith, e, le)) ∙ inv.behind j (omega (arith, le));
      reaped = reaped_more (g.C.Clock.tells c.args.clock.now) c.loop-i.i c.seconds_since-elapsed.result (view_of c.args.pass.now).steps c.loop-i.taken c.reap_slot-taken.result (c.loop-i.taken + c.reap_slot-taken.result)
          c.args.notes.now.notes c.loop-i.notes.notes c.reap_slot-taken.new.notes.notes (view_of c.loop-i.pass) (view_of c.reap_slot-taken.new.pass) inv.on inv.reaped so refl;
    }
