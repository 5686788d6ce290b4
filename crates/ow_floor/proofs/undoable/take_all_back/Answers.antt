use Rattle.ow_floor.proofs.Undoing.{undone_less}
use Rattle.ow_floor.proofs.undoable.take_all_back.Goals as goal

pub loop-step-preserved : goal.loop-step-preserved
loop-step-preserved g c =
    undone_less c.loop-step.steps.items c.pop.new.self.items c.in-Some.step c.loop-step.items.items c.take_back.new.items.items _ c.in-Some.ensures.items c.loop-step.invariant c.take_back.ensures
