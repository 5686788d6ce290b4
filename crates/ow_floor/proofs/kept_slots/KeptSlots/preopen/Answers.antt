use Rattle.std.proofs.Common.{ap, ◌∙◌}
use Rattle.ow_floor.specs.Undoable.{past}
use Rattle.ow_slots.specs.State.{opened}
use Rattle.ow_floor.proofs.Restoring.{past_noted}
use Rattle.ow_floor.proofs.kept_slots.KeptSlots.preopen.Goals as goal

pub returns-clause-held : goal.returns-clause-held
returns-clause-held c =
    rw (c.in_ok-note.ensures.ok, c.preopen.ensures) (past_noted c.args.held c.args.slot (opened c.args.run c.args.kind c.args.memory) c.self.inside.steps.items c.self.inside.slots)
    ∙ ap (λ v. past c.args.held v.before) c.self.view_is
