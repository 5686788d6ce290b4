use Rattle.std.proofs.Common.{◌≡◌, ◌++◌, drop}
use Rattle.ow_day.specs.Texts.{containers_text}
use Rattle.ow_day.proofs.texts.push_containers.Given as goal

abbrev pub invariant-loop-container : goal.invariant-loop-container
invariant-loop-container l =
    l.answers.items ++ containers_text (drop l.container-index l.containers) ≡ l.initial.answers.items ++ containers_text l.containers
