use Rattle.std.proofs.Common.{ap, ◌∙◌}
use Rattle.ow_floor.specs.Undoable.{past}
use Rattle.ow_floor.proofs.Restoring.{past_all}
use Rattle.ow_floor.proofs.kept_slots.KeptSlots.empty.Goals as goal

pub returns-clause-held : goal.returns-clause-held
returns-clause-held c =
    rw (c.keep_all.ensures, c.in_ok-make_room.ensures.items, c.replace-old.ensures.value)
    (past_all c.args.held c.self.inside.steps.items c.self.inside.slots c.replace-old.new.dest ∙ ap (λ v. past c.args.held v.before) c.self.view_is)
