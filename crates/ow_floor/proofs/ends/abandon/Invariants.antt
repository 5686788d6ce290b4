use Rattle.std.proofs.Common.{◌≡◌, drop}
use Rattle.ow_floor.specs.Ends.{IsAbandoning}
use Rattle.ow_floor.proofs.ends.abandon.Given as goal

abbrev pub invariant-loop-i : goal.invariant-loop-i
invariant-loop-i l = record {
  made : IsAbandoning l.at l.fn.lists.now l.lists.now (drop l.i l.places.items) l.fn.moves l.moves;
  past : l.lists.past ≡ l.fn.lists.past;
}
