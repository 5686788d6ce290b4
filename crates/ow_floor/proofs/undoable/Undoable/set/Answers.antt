use Rattle.std.proofs.Common.{ap, ◌∙◌}
use Rattle.ow_floor.specs.Undoable.{past}
use Rattle.ow_floor.proofs.Undoing.{past_was}
use Rattle.ow_floor.proofs.undoable.Undoable.set.Goals as goal

pub returns-clause-held : goal.returns-clause-held
returns-clause-held g c =
    rw (c.note.ensures, c.replace-old.ensures.after)
    (past_was c.args.held c.self.inside.steps.items c.self.inside.items.items c.args.place c.args.item c.replace-old.result (rw c.replace-old.ensures.value c.index_mut.ensures.value)
    ∙ ap (λ v. past c.args.held v.before) c.self.view_is)
