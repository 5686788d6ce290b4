use Rattle.std.proofs.Common.{eq-eqb, ◌≡◌, ◌%◌, ◌-◌, arith}
use Rattle.std.proofs.lemmas.Bool.Decides.{nat_tests}
use Rattle.ow_schedule.proofs.Moments.{every_due, every_due_rest}
use Rattle.ow_schedule.proofs.due.is_every_due.Goals as goal

pub returns-then-period-at : goal.returns-then-period-at
returns-then-period-at c =
    let p = c.args.period in (
      λ t. let e : (c.args.at - p.from) % p.every ≡ 0 = grind (arith, nat_tests) in every_due p.from p.every c.args.at c.if-period-at.true e,
      λ due. eq-eqb _ _ (every_due_rest p.from p.every c.args.at due),
    )
