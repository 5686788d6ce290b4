use Rattle.std.proofs.Common.{◌≡◌, ◌++◌, drop}
use Rattle.ow_day.specs.Texts.{steps_text}
use Rattle.ow_day.proofs.texts.push_steps.Given as goal

abbrev pub invariant-loop-step : goal.invariant-loop-step
invariant-loop-step l =
    l.answers.items ++ steps_text (drop l.step-index l.steps) ≡ l.initial.answers.items ++ steps_text l.steps
