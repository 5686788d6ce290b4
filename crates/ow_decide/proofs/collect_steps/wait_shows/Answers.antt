use Rattle.std.proofs.Common.{◌≡◌, ◌-◌, suc, sym, subst, arith, drop, None, true}
use Rattle.ow_decide.specs.Waiting.{wait_shows}
use Rattle.ow_decide.proofs.WaitLaws.{wait_back, wait_found}
use Rattle.ow_decide.proofs.collect_steps.wait_shows.Goals as goal

pub returns-then-eq : goal.returns-then-eq
returns-then-eq c =
    let next : c.loop-i.i ≡ suc (c.loop-i.i - 1) = omega (arith, c.loop-i-test.true) in
    let none = subst (λ n. wait_shows c.args.id (drop n c.args.waits.now) ≡ None) next c.loop-i.invariant in
    sym (wait_found c.args.id (c.loop-i.i - 1) c.args.waits.now _
    (wait_back c.args.id c.args.waits.now (c.loop-i.i - 1) _ true (omega (arith, c.loop-i-test.true, c.loop-i.auto.i)) (sym c.if-eq.ensures) none))
