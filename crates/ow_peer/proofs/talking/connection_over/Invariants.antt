use Rattle.std.proofs.Common.{◌≤◌}
use Rattle.ow_peer.proofs.Chatting.{SoFar}
use Rattle.ow_peer.proofs.talking.connection_over.Given as goal

abbrev pub invariant-loop : goal.invariant-loop
invariant-loop g l = record {
  so_far : SoFar (g.C.Clock.tells l.fn.clock) (g.K.Link.left l.fn.link) (g.K.Link.left l.link) (g.K.Link.taken l.fn.link) (g.K.Link.taken l.link) l.reader.inbox l.fn.notes.notes l.notes.notes;
  later : g.K.Link.faults l.fn.link ≤ g.K.Link.faults l.link;
}
