use Rattle.std.proofs.Common.{List, None, subst, sym}
use Rattle.ow_floor.specs.declared.moves.Moved.{Moved}
use Rattle.ow_decide.specs.Asking.{ask_decision}
use Rattle.ow_decide.specs.Making.{Carries, done_of}
use Rattle.ow_decide.specs.declared.waits.Waits.TheVariants.{Keep}
use Rattle.ow_decide.proofs.AskLaws.{done_carries}
use Rattle.ow_decide.proofs.done.Done.step.Goals as goal

pub returns-clause-ok : goal.returns-clause-ok
returns-clause-ok c = λ S commits.
    subst (λ (ms : List Moved). Carries (record { told = c.in-Ok.told; change = c.parts-change.result.0; waits = Keep; moves = ms; commit = c.parts-change.result.1; others = None }) (ask_decision (done_of c.args.self)) S) (sym c.new.ensures)
    (done_carries c.args.self c.in-Ok.told c.parts-change.result.0 c.parts-change.result.1 S c.in-Ok.ensures c.parts-change.ensures.change c.parts-change.ensures.commit commits)
