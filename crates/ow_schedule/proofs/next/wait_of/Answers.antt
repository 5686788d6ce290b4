use Rattle.std.proofs.Common.{arith}
use Rattle.ow_schedule.proofs.Nexts.{none_in_gap, period_after_gap}
use Rattle.ow_schedule.proofs.next.wait_of.Goals as goal

pub returns-clause-due : goal.returns-clause-due
returns-clause-due c =
    let p = c.args.period in
    period_after_gap p.from p.every c.args.since (omega (arith, p.every_is_long)) (omega arith)

pub returns-clause-none_before : goal.returns-clause-none_before
returns-clause-none_before c =
    let p = c.args.period in
    λ e ge lt. none_in_gap p.from p.every c.args.since e (omega (arith, p.every_is_long)) (omega arith) ge lt
