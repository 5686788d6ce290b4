use Rattle.std.proofs.Common.{◌≡◌, take}
use Rattle.std.specs.List.{AllByRecursion}
use Rattle.ow_tenant.specs.Notes.{Notes}
use Rattle.ow_counts.specs.View.{IsRoomy, StandsFor}
use Rattle.ow_counts.proofs.moves.reserve_all.Given as goal

-- what was reserved so far
abbrev pub invariant-loop-moved : goal.invariant-loop-moved
invariant-loop-moved l = record {
  notes : (ns : Notes) → StandsFor l.initial.counts ns → StandsFor l.counts ns;
  busy : l.counts.busy ≡ l.initial.counts.busy;
  room : AllByRecursion (IsRoomy l.count l.counts) (take l.moved-index l.moves);
}
