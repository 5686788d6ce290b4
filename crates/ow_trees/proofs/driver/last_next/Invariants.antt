use Rattle.std.proofs.Common.{◌≡◌, drop}
use Rattle.std.specs.Option.{option_or}
use Rattle.ow_trees.specs.Driving.{last_next}
use Rattle.ow_trees.proofs.driver.last_next.Given as goal

abbrev pub invariant-loop-i : goal.invariant-loop-i
invariant-loop-i l = option_or (last_next (drop l.i l.moves)) l.next ≡ last_next (drop l.start l.moves)
