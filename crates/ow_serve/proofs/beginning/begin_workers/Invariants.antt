use Rattle.std.proofs.Common.{◌≡◌, length}
use Rattle.std.specs.Vec.Iter.{into_iter_items, into_iter_len}
use Rattle.ow_board.specs.Board.{view_of}
use Rattle.ow_desk.specs.Notes.{no_notes}
use Rattle.ow_serve.specs.Working.{fresh_outset, outset}
use Rattle.ow_serve.proofs.Begun.{Midway}
use Rattle.ow_serve.proofs.beginning.begin_workers.Given as goal

abbrev pub invariant-loop-runner : goal.invariant-loop-runner
invariant-loop-runner g l = record {
  notes : l.service.notes.notes ≡ l.fn.service.notes.notes;
  clock : (l.service.clock ≡ l.fn.service.clock) × (l.service.opened ≡ l.fn.service.opened);
  begun : Midway (λ t w. (t.work ≡ w) × (t.notes.notes ≡ no_notes) × (outset (g.C.Clock.tells t.clock.value) t.opened (view_of t.pass) ≡ fresh_outset (g.C.Clock.tells l.fn.service.clock.value) l.fn.service.opened))
      (into_iter_items l.initial.runner-iterator) (into_iter_items l.runner-iterator) l.fn.crew.tasks l.crew.tasks;
  left : into_iter_len l.runner-iterator ≡ length (into_iter_items l.runner-iterator);
}
