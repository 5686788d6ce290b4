use Rattle.std.proofs.Common.{◌≡◌}
use Rattle.ow_day.specs.Session.{machine_of}
use Rattle.ow_drill.specs.Counting.{GoesOn}
use Rattle.ow_drill.specs.Drill.{Drills, moment_of, number_of}
use Rattle.ow_drill.proofs.drill.make_calls.Given as goal

abbrev pub invariant-loop-k : goal.invariant-loop-k
invariant-loop-k g l = record {
  made : GoesOn g.P.Keeper.telling l.fn.session l.session (Drills l.fn.seed l.k (machine_of l.fn.session)) l.tally;
  number : l.number ≡ number_of l.fn.seed l.k;
  moment : l.moment ≡ moment_of l.fn.seed l.k;
}
