use Rattle.std.proofs.Common.{◌≡◌, ◌+◌, ◌∙◌, ap, ap₂, arith, refl, subst, suc, sym, ℕ}
use Rattle.ow_day.specs.Session.{machine_of}
use Rattle.ow_drill.specs.Counting.{GoesOn}
use Rattle.ow_drill.specs.Drill.{Drills, gap, moment_of, next_number, number_of}
use Rattle.ow_drill.proofs.Going.{counts_later, counts_none, drilled_on, later_then, moment_next, none_yet, number_next}
use Rattle.ow_drill.proofs.drill.make_calls.Goals as goal

pub loop-k-init : goal.loop-k-init
unfolding moment_of number_of
loop-k-init g c = record {
  made = none_yet g.P.Keeper.telling c.args.seed c.args.session.now;
  number = refl;
  moment = refl;
}

pub loop-k-preserved : goal.loop-k-preserved
loop-k-preserved g c =
    let k = c.loop-k.k in
    let seed = c.args.seed in
    let one : k + 1 ≡ suc k = omega arith in
    let number = c.next_number-number.ensures ∙ ap next_number c.loop-k.invariant.number ∙ sym (number_next seed k (k + 1) one) in
    let moment = c.in_ok-moment.ensures ∙ ap₂ (λ a b. a + b) c.loop-k.invariant.moment (c.gap.ensures ∙ ap gap number) ∙ sym (moment_next seed k (k + 1) one) in
    record {
      made = drilled_on g.P.Keeper.telling seed k (k + 1) _ c.args.session.now c.loop-k.session c.call.new.session c.loop-k.tally c.in_ok-counted.counted c.in_ok-tally.tally one moment c.in_ok-tally.ensures
          c.loop-k.invariant.made c.in_ok-counted.ensures;
      number = number;
      moment = moment;
    }

pub returns-in_err-moment : goal.returns-in_err-moment
returns-in_err-moment g c =
    counts_none g.P.Keeper.telling c.args.session.now c.loop-k.session _ c.from_residual.result c.from_residual.ensures.0 c.loop-k.invariant.made.later

pub returns-in_err-counted : goal.returns-in_err-counted
returns-in_err-counted g c =
    counts_none g.P.Keeper.telling c.args.session.now c.call.new.session _ c.from_residual-in_err-counted.result c.from_residual-in_err-counted.ensures.0
    (later_then g.P.Keeper.telling c.args.session.now c.loop-k.session c.call.new.session c.loop-k.invariant.made.later
    (counts_later g.P.Keeper.telling c.loop-k.session c.call.new.session _ c.call.result c.call.ensures))

pub returns-in_err-tally : goal.returns-in_err-tally
returns-in_err-tally g c =
    counts_none g.P.Keeper.telling c.args.session.now c.call.new.session _ c.from_residual-in_err-tally.result c.from_residual-in_err-tally.ensures.0
    (later_then g.P.Keeper.telling c.args.session.now c.loop-k.session c.call.new.session c.loop-k.invariant.made.later
    (counts_later g.P.Keeper.telling c.loop-k.session c.call.new.session _ c.call.result c.call.ensures))

pub returns : goal.returns
returns g c =
    let end : c.loop-k.k ≡ c.args.n = omega arith in
    subst (λ (n : ℕ). GoesOn g.P.Keeper.telling c.args.session.now c.loop-k.session (Drills c.args.seed n (machine_of c.args.session.now)) c.loop-k.tally) end c.loop-k.invariant.made
