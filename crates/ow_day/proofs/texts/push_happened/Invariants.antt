use Rattle.std.proofs.Common.{◌≡◌, ◌++◌, drop}
use Rattle.ow_day.specs.Texts.{happenings_text}
use Rattle.ow_day.proofs.texts.push_happened.Given as goal

abbrev pub invariant-loop-happening : goal.invariant-loop-happening
invariant-loop-happening l =
    l.answers.items ++ happenings_text (drop l.happening-index l.happening-items) ≡ l.initial.answers.items ++ happenings_text l.happening-items
