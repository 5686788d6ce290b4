use Rattle.std.proofs.Common.{ap, ◌∙◌}
use Rattle.ow_floor.specs.Undoable.{past}
use Rattle.ow_floor.proofs.Undoing.{past_added}
use Rattle.ow_floor.proofs.undoable.Undoable.push.Goals as goal

pub returns-clause-held : goal.returns-clause-held
returns-clause-held g c =
    rw (c.push_reserved.ensures.items, c.note.ensures)
    (past_added c.args.held c.self.inside.steps.items c.self.inside.items.items c.args.item ∙ ap (λ v. past c.args.held v.before) c.self.view_is)
