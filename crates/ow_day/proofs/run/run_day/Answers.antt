use Rattle.std.proofs.Common.{◌≡◌, [], arith, ap, inl, ◌∙◌}
use Rattle.ow_day.specs.Input.{InputView}
use Rattle.ow_day.proofs.Opened.{begun, begun_on, day_answers, day_leaves, day_told, no_opening, over_table, untouched}
use Rattle.ow_day.proofs.Runs.{begins_bounded, if_some}
use Rattle.ow_day.proofs.SoFar.{leaves_all}
use Rattle.ow_day.proofs.run.run_day.Goals as goal

pub returns-in_default-clause-told : goal.returns-in_default-clause-told
returns-in_default-clause-told g c = inl (untouched _ _)

pub returns-in_default-clause-reads : goal.returns-in_default-clause-reads
returns-in_default-clause-reads g c = if_some _ _ (λ bytes told. leaves_all bytes _ told)

pub returns-in-Err-clause-reads : goal.returns-in-Err-clause-reads
returns-in-Err-clause-reads g c = if_some _ _ (λ bytes told. leaves_all bytes _ told)

pub returns-in-Some-clause-told : goal.returns-in-Some-clause-told
returns-in-Some-clause-told g c =
    day_told g.P.Keeper.telling c.args.tenants c.args.store _ _ _ _ _ _ c.turns.reader c.turn.new.self c.in-Some.status c.finish.result c.finish.ensures.store c.in-Some.ensures.own c.turn.ensures.faults_grow c.in-Some.ensures.told
    c.finish.ensures.legal c.finish.ensures.kept c.turns.invariant.begun

pub returns-in-Some-clause-reads : goal.returns-in-Some-clause-reads
returns-in-Some-clause-reads g c =
    day_leaves g.P.Keeper.telling c.args.tenants c.args.store _ _ _ _ _ _ c.turns.reader c.turn.new.self c.in-Some.status c.in-Some.ensures.told c.turns.invariant.begun

pub returns-in-Some-clause-answered : goal.returns-in-Some-clause-answered
returns-in-Some-clause-answered g c = λ fault.
    day_answers g.P.Keeper.telling c.args.tenants c.args.store _ _ _ _ _ _ c.turns.reader c.turn.new.self c.in-Some.status fault c.in-Some.ensures.told c.turns.invariant.begun

pub returns-in-Some-clause-own : goal.returns-in-Some-clause-own
returns-in-Some-clause-own g c = over_table c.in-Some.status c.in-Some.ensures.own

pub returns-in-Some-clause-unbegun : goal.returns-in-Some-clause-unbegun
returns-in-Some-clause-unbegun g c = λ fault. absurd (no_opening c.in-Some.status c.in-Some.ensures.own fault)

pub turns-init : goal.turns-init
turns-init g c =
    let reader = c.new-reader.result in
    let input : reader.input ≡ record { pending = []; taken = 0 } = c.new-reader.ensures.input ∙ c.in-Ok.ensures.value in
    let pending = ap (λ (i : InputView). i.pending) input in
    let taken = ap (λ (i : InputView). i.taken) input in
    record {
      begun = begun g.P.Keeper.telling c.args.tenants c.args.store _ _ _ reader c.in-Ok-new.ensures.begins c.new-reader.ensures.session pending taken c.new-reader.ensures.answers c.new-reader.ensures.number c.new-reader.ensures.ended;
      bounded = begins_bounded reader pending taken c.new-reader.ensures.number;
      day_later = omega arith;
      out_later = omega arith;
    }

pub turns-preserved : goal.turns-preserved
turns-preserved g c = record {
  begun = begun_on g.P.Keeper.telling c.args.tenants c.args.store _ _ _ _ _ _ c.turns.reader c.turn.new.self c.turn.ensures.faults_grow c.in_default-turn.ensures.told c.turns.invariant.begun;
  bounded = c.in_default-turn.ensures.bounded;
  day_later = omega arith;
  out_later = omega arith;
}
