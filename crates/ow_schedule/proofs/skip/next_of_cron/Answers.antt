use Rattle.std.proofs.Common.{arith}
use Rattle.ow_schedule.proofs.Skipped.{joined}
use Rattle.ow_schedule.proofs.skip.next_of_cron.Goals as goal

pub minutes-preserved : goal.minutes-preserved
minutes-preserved c =
    (omega arith, omega arith, omega arith, joined _ _ _ _ c.minutes.at _ c.minutes.invariant.3 c.free_from-free.ensures.free)

pub returns-then-free-eq0 : goal.returns-then-free-eq0
returns-then-free-eq0 c = record {
  due = c.free_from-free.ensures.due c.if-free-eq0.true;
  not_before = c.minutes.invariant.1;
  not_after = c.minutes-test.true;
  none_before = c.minutes.invariant.3;
}
