use Rattle.std.proofs.Common.{◌∙◌, length, refl, ap, ap₂, sym, arith}
use Rattle.ow_serve.specs.Working.{fresh_outset}
use Rattle.ow_serve.proofs.Begun.{midway_end, midway_one, midway_start, started_as}
use Rattle.ow_serve.proofs.beginning.begin_workers.Goals as goal

pub loop-runner-init : goal.loop-runner-init
loop-runner-init g c =
    let gives = c.into_iter-runner-iterator.ensures.into_iter_gives in
    record { notes = refl; clock = (refl, refl); begun = midway_start _ _ _; left = gives.1 ∙ c.args.runners.ok.0 ∙ ap length (sym gives.0) }

pub loop-runner-preserved : goal.loop-runner-preserved
loop-runner-preserved g c =
    let was = c.loop-runner.invariant in
    let step = c.in-Some.ensures.steps in
    record {
      notes = c.begin.ensures.notes ∙ was.notes;
      clock = (c.begin.ensures.clock.0 ∙ was.clock.0, c.begin.ensures.clock.1 ∙ was.clock.1);
      begun = midway_one _ _ _ _ _ _ _ (rw step.0 at was.begun) (started_as _ _ (λ t w d. (d.0, d.1, d.2 ∙ ap₂ (λ a o. fresh_outset (g.C.Clock.tells a.value) o) was.clock.0 was.clock.1)) _ _ _ c.in_ok-begin.ensures.begins);
      left = (let before = was.left in let one = step.1 in let longer = ap length step.0 in omega arith);
    }

pub returns-clause-begins : goal.returns-clause-begins
returns-clause-begins g c =
    let was = c.loop-runner.invariant in
    midway_end _ _ c.args.runners.items _ _ _ c.into_iter-runner-iterator.ensures.into_iter_gives.0 was.begun (sym was.left ∙ c.in-None.ensures.steps.0)
