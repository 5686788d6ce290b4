use Rattle.std.proofs.Common.{◌<◌, length, ap, sym, refl, ◌∙◌, arith}
use Rattle.ow_day.specs.Input.{InputView}
use Rattle.ow_day.specs.Line.{statement}
use Rattle.ow_day.proofs.Meeting.{same_session}
use Rattle.ow_day.proofs.Runs.{cut_steps, found_steps, idle_steps, wrong_ends}
use Rattle.ow_day.proofs.Sessions.{carries_later}
use Rattle.ow_day.proofs.run.DayReader.step.Goals as goal

pub returns-then-len-eq0-clause-steps : goal.returns-then-len-eq0-clause-steps
returns-then-len-eq0-clause-steps g c = idle_steps g.P.Keeper.telling c.args.self.now c.without_bytes.result c.requires (sym c.len.ensures ∙ c.if-len-eq0.true) c.without_bytes.ensures

pub returns-in-Done-clause-steps : goal.returns-in-Done-clause-steps
returns-in-Done-clause-steps g c =
    let same = c.newline-newline.ensures.same ∙ c.is_cut.ensures.same in
    let within = rw (c.pending.ensures, same) at c.in-Found.ensures.within in
    let some : 0 < length c.args.self.now.input.pending = omega (arith, c.len.ensures, c.if-len-eq0.false) in
    found_steps g.P.Keeper.telling c.args.self.now _ (statement c.in-Found.statement) c.in-Found.used c.carry_out-step.result c.requires some
    (rw (c.pending.ensures, same) at c.in-Found.ensures.first) within.0 (within.1 some) c.carry_out-step.ensures
    (λ done. (rw same at c.skip.ensures.pending, refl)) (c.skip.ensures.taken ∙ ap (λ (i : InputView). i.taken) same) refl

pub returns-in_default : goal.returns-in_default
returns-in_default g c =
    let same = c.newline-newline.ensures.same ∙ c.is_cut.ensures.same in
    let within = rw (c.pending.ensures, same) at c.in-Found.ensures.within in
    let some : 0 < length c.args.self.now.input.pending = omega (arith, c.len.ensures, c.if-len-eq0.false) in
    record {
      steps = found_steps g.P.Keeper.telling c.args.self.now _ (statement c.in-Found.statement) c.in-Found.used c.carry_out-step.result c.requires some
          (rw (c.pending.ensures, same) at c.in-Found.ensures.first) within.0 (within.1 some) c.carry_out-step.ensures
          (λ done. absurd (c.in_default.not-Done done)) (ap (λ (i : InputView). i.taken) same) refl;
      bounded = λ done. absurd (c.in_default.not-Done done);
      falls = λ done. absurd (c.in_default.not-Done done);
      faults_grow = carries_later g.P.Keeper.telling c.args.self.now.session c.carry_out-step.new.self (statement c.in-Found.statement) c.args.self.now.answers.items c.carry_out-step.new.answers.items c.carry_out-step.result c.carry_out-step.ensures;
    }

pub returns-in-Wrong-clause-steps : goal.returns-in-Wrong-clause-steps
returns-in-Wrong-clause-steps g c =
    let same = c.newline-newline.ensures.same ∙ c.is_cut.ensures.same in
    let some : 0 < length c.args.self.now.input.pending = omega (arith, c.len.ensures, c.if-len-eq0.false) in
    wrong_ends g.P.Keeper.telling c.args.self.now _ c.requires.most some (rw (c.pending.ensures, same) at c.in-Wrong.ensures.first) refl refl refl

pub returns-then-is_cut-clause-steps : goal.returns-then-is_cut-clause-steps
returns-then-is_cut-clause-steps g c =
    let r = c.args.self.now in
    cut_steps g.P.Keeper.telling r _ (sym (c.is_cut.ensures.cut c.if-is_cut.true))
    (ap (λ (i : InputView). record { session = r.session; input = i; ended = r.ended; answers = r.answers; number = r.number }) c.is_cut.ensures.same)

pub returns-in-Cut-clause-steps : goal.returns-in-Cut-clause-steps
returns-in-Cut-clause-steps g c =
    let r = c.args.self.now in
    let same = c.newline-newline.ensures.same ∙ c.is_cut.ensures.same in
    cut_steps g.P.Keeper.telling r _ (rw (c.pending.ensures, same) at c.in-Cut.ensures.first)
    (ap (λ (i : InputView). record { session = r.session; input = i; ended = r.ended; answers = r.answers; number = r.number }) same)

pub returns-in-Awaits-clause-steps : goal.returns-in-Awaits-clause-steps
returns-in-Awaits-clause-steps g c =
    let r = c.args.self.now in
    let same = c.newline-newline.ensures.same ∙ c.is_cut.ensures.same in
    cut_steps g.P.Keeper.telling r _ (rw (c.pending.ensures, same) at c.in-Awaits.ensures.first)
    (ap (λ (i : InputView). record { session = r.session; input = i; ended = r.ended; answers = r.answers; number = r.number }) (c.await_lines.ensures.same ∙ same))

pub returns-in-Done-clause-faults_grow : goal.returns-in-Done-clause-faults_grow
returns-in-Done-clause-faults_grow g c = carries_later g.P.Keeper.telling c.args.self.now.session c.carry_out-step.new.self (statement c.in-Found.statement) c.args.self.now.answers.items c.carry_out-step.new.answers.items c.carry_out-step.result c.carry_out-step.ensures

pub returns-then-len-eq0-clause-faults_grow : goal.returns-then-len-eq0-clause-faults_grow
returns-then-len-eq0-clause-faults_grow g c = same_session g.P.Keeper.telling c.args.self.now.session

pub returns-in-Wrong-clause-faults_grow : goal.returns-in-Wrong-clause-faults_grow
returns-in-Wrong-clause-faults_grow g c = same_session g.P.Keeper.telling c.args.self.now.session

pub returns-then-is_cut-clause-faults_grow : goal.returns-then-is_cut-clause-faults_grow
returns-then-is_cut-clause-faults_grow g c = same_session g.P.Keeper.telling c.args.self.now.session

pub returns-in-Cut-clause-faults_grow : goal.returns-in-Cut-clause-faults_grow
returns-in-Cut-clause-faults_grow g c = same_session g.P.Keeper.telling c.args.self.now.session

pub returns-in-Awaits-clause-faults_grow : goal.returns-in-Awaits-clause-faults_grow
returns-in-Awaits-clause-faults_grow g c = same_session g.P.Keeper.telling c.args.self.now.session
