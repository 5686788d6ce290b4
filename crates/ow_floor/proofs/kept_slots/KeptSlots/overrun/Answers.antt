use Rattle.std.proofs.Common.{ap, ◌∙◌}
use Rattle.ow_floor.specs.Undoable.{past}
use Rattle.ow_slots.specs.Slots.{has}
use Rattle.ow_slots.specs.State.{overrun_state, runs, with_state}
use Rattle.ow_floor.proofs.Restoring.{past_first}
use Rattle.ow_floor.proofs.kept_slots.KeptSlots.overrun.Goals as goal

pub returns-clause-held : goal.returns-clause-held
returns-clause-held c =
    rw (c.in_ok-note_run.ensures.ok, c.overrun.ensures) (past_first c.args.held (has (runs c.args.run)) (with_state (overrun_state c.args.at)) c.self.inside.steps.items c.self.inside.slots)
    ∙ ap (λ v. past c.args.held v.before) c.self.view_is
