use Rattle.std.proofs.Common.{ap, ◌∙◌}
use Rattle.ow_floor.specs.Undoable.{past}
use Rattle.ow_slots.specs.State.{assigned}
use Rattle.ow_floor.proofs.Results.{sure}
use Rattle.ow_floor.proofs.Restoring.{past_noted}
use Rattle.ow_floor.proofs.kept_slots.KeptSlots.assign.Goals as goal

pub returns-clause-held : goal.returns-clause-held
returns-clause-held c =
    rw (sure c.note.result _ c.note.ensures.ok c.if-is_err.ensures.value, c.assign.ensures) (past_noted c.args.held c.args.slot (assigned c.args.run c.args.key c.args.start c.args.at) c.self.inside.steps.items c.self.inside.slots)
    ∙ ap (λ v. past c.args.held v.before) c.self.view_is
