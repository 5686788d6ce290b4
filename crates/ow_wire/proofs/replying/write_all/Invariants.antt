use Rattle.std.proofs.Common.{◌≡◌, ◌≤◌, length}
use Rattle.ow_traits.specs.Streams.{TakesUpTo}
use Rattle.ow_wire.proofs.replying.write_all.Given as goal

abbrev pub invariant-loop-rest : goal.invariant-loop-rest
invariant-loop-rest g l = record {
  so_far : TakesUpTo (g.K.Link.taken l.fn.link) (g.K.Link.taken l.link) l.bytes l.rest;
  left : g.K.Link.left l.link ≡ g.K.Link.left l.fn.link;
  later : g.K.Link.faults l.fn.link ≤ g.K.Link.faults l.link;
}

abbrev pub decreases-loop-rest : goal.decreases-loop-rest
decreases-loop-rest g l = length l.rest
