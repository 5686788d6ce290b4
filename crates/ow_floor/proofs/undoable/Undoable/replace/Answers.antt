use Rattle.std.proofs.Common.{ap, ◌∙◌}
use Rattle.ow_floor.specs.declared.undoable.Step.TheVariants.{All}
use Rattle.ow_floor.specs.Undoable.{past}
use Rattle.ow_floor.proofs.Undoing.{past_any}
use Rattle.ow_floor.proofs.undoable.Undoable.replace.Goals as goal

pub returns-clause-held : goal.returns-clause-held
returns-clause-held g c =
    rw c.note.ensures
    (past_any c.args.held c.self.inside.steps.items (All c.replace-old.result) c.self.inside.items.items c.replace-old.new.dest.items (ap (λ v. v.items) c.replace-old.ensures.value)
    ∙ ap (λ v. past c.args.held v.before) c.self.view_is)
