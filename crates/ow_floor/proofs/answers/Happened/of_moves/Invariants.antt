use Rattle.std.proofs.Common.{◌≡◌, map, take}
use Rattle.ow_floor.specs.Calls.{happening_of}
use Rattle.ow_floor.proofs.answers.Happened.of_moves.Given as goal

abbrev pub invariant-loop-moved : goal.invariant-loop-moved
invariant-loop-moved l = l.items.items ≡ map happening_of (take l.moved-index l.moves)
