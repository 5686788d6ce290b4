use Rattle.std.proofs.Common.{◌≡◌, ◌≤◌, length}
use Rattle.ow_board.specs.Board.{view_of}
use Rattle.ow_desk.specs.Notes.{no_notes}
use Rattle.ow_serve.specs.Duties.{IsServed}
use Rattle.ow_serve.specs.Peers.{Seated}
use Rattle.ow_serve.specs.Working.{fresh_outset, outset}
use Rattle.ow_serve.specs.declared.duty.Work.TheVariants.{Serves}
use Rattle.ow_serve.proofs.accepting.accept_all.Given as goal

abbrev pub invariant-loop : goal.invariant-loop
invariant-loop g l = record {
  seated : Seated (λ t k. (t.work ≡ Serves k) × (t.notes.notes ≡ no_notes) × (outset (g.C.Clock.tells t.clock.value) t.opened (view_of t.pass) ≡ fresh_outset (g.C.Clock.tells l.fn.service.clock.value) l.fn.service.opened))
      (λ k d. IsServed g.K.Link.left g.K.Link.taken (g.C.Clock.tells l.fn.service.clock.value) k d.notes.notes d.ending)
      (g.L.Listener.peers l.fn.listener) (g.L.Listener.peers l.listener) l.fn.crew.tasks l.crew.tasks l.seats.items;
  notes : l.service.notes.notes ≡ l.fn.service.notes.notes;
  clock : l.service.clock ≡ l.fn.service.clock;
  opened : l.service.opened ≡ l.fn.service.opened;
  count : length l.seats.items ≡ l.counter;
  later : g.L.Listener.faults l.fn.listener ≤ g.L.Listener.faults l.listener;
}
