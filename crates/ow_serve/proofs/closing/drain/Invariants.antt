use Rattle.std.proofs.Common.{◌≡◌}
use Rattle.ow_serve.specs.Ended.{KeepsFirst, StaysOpen}
use Rattle.ow_serve.specs.Working.{Leads}
use Rattle.ow_serve.proofs.closing.drain.Given as goal

abbrev pub invariant-loop : goal.invariant-loop
invariant-loop g l = record {
  stays : Leads (StaysOpen (g.C.Clock.tells l.fn.service.clock.value)) l.fn.service.notes.notes l.service.notes.notes;
  first : KeepsFirst l.fn.service.notes.notes l.service.notes.notes;
  clock : l.service.clock ≡ l.fn.service.clock;
}
