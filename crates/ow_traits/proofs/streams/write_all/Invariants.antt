use Rattle.std.proofs.Common.{◌≤◌, length}
use Rattle.ow_traits.specs.Streams.{TakesUpTo}
use Rattle.ow_traits.proofs.streams.write_all.Given as goal

abbrev pub invariant-loop-rest : goal.invariant-loop-rest
invariant-loop-rest g l = record {
  so_far : TakesUpTo (g.O.Sink.taken l.fn.out) (g.O.Sink.taken l.out) l.bytes l.rest;
  later : g.O.Sink.faults l.fn.out ≤ g.O.Sink.faults l.out;
}

abbrev pub decreases-loop-rest : goal.decreases-loop-rest
decreases-loop-rest g l = length l.rest
