use Rattle.std.proofs.Common.{◌≡◌, ◌-◌, suc, sym, subst, arith, drop, None, true}
use Rattle.ow_floor.specs.View.{wait_in}
use Rattle.ow_floor.proofs.Blocking.{wait_back, wait_found}
use Rattle.ow_floor.proofs.places.until.Goals as goal

pub returns-then-eq : goal.returns-then-eq
returns-then-eq c =
    let next : c.loop-i.i ≡ suc (c.loop-i.i - 1) = omega (arith, c.loop-i-test.true) in
    let none = subst (λ n. wait_in c.args.id (drop n c.args.blocking.now) ≡ None) next c.loop-i.invariant in
    sym (wait_found c.args.id (c.loop-i.i - 1) c.args.blocking.now _
    (wait_back c.args.id c.args.blocking.now (c.loop-i.i - 1) _ true (omega (arith, c.loop-i-test.true, c.loop-i.auto.i)) (sym c.if-eq.ensures) none))
