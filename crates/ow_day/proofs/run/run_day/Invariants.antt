use Rattle.std.proofs.Common.{◌≤◌}
use Rattle.ow_day.specs.Run.{IsBounded, work}
use Rattle.ow_day.proofs.Opened.{IsBegun}
use Rattle.ow_day.proofs.run.run_day.Given as goal

abbrev pub invariant-turns : goal.invariant-turns
invariant-turns g l = record {
  begun : IsBegun g.P.Keeper.telling l.fn.tenants l.fn.store (g.S.Source.left l.fn.day) (g.O.Sink.taken l.fn.out) (g.S.Source.left l.day) (g.O.Sink.taken l.out) l.reader;
  bounded : IsBounded l.reader;
  day_later : g.S.Source.faults l.fn.day ≤ g.S.Source.faults l.day;
  out_later : g.O.Sink.faults l.fn.out ≤ g.O.Sink.faults l.out;
}

abbrev pub decreases-turns : goal.decreases-turns
decreases-turns g l = work l.reader
