use Rattle.ow_floor.proofs.Restoring.{restored_less}
use Rattle.ow_floor.proofs.kept_slots.restore_all.Goals as goal

pub loop-step-preserved : goal.loop-step-preserved
loop-step-preserved c =
    restored_less c.loop-step.steps.items c.pop.new.self.items c.in-Some.step c.loop-step.slots c.restore.new.slots _ c.in-Some.ensures.items c.loop-step.invariant c.restore.ensures
