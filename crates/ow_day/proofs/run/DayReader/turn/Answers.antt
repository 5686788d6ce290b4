use Rattle.std.proofs.Common.{arith, refl}
use Rattle.ow_day.proofs.Ended.{ends_with}
use Rattle.ow_day.proofs.Runs.{done_turns, if_none, of_day, step_tells, unread, was_written}
use Rattle.ow_day.proofs.Sessions.{later_same}
use Rattle.ow_day.proofs.run.DayReader.turn.Goals as goal

pub returns-in-Done : goal.returns-in-Done
returns-in-Done g c = record {
  told = done_turns g.P.Keeper.telling _ _ _ c.args.self.now c.step.new.self c.write_ready.new.self c.write_ready.result c.in-Done.ensures.steps c.write_ready.ensures.told;
  bounded = if_none c.write_ready.result c.write_ready.ensures.bounded;
  falls = if_none c.write_ready.result (omega (arith, c.write_ready.ensures.work, c.in-Done.ensures.falls refl));
  ready = c.write_ready.ensures.ready;
  own = of_day c.write_ready.result c.write_ready.ensures.fault;
  faults_grow = later_same g.P.Keeper.telling c.args.self.now.session c.step.new.self.session c.write_ready.new.self.session c.step.ensures.faults_grow c.write_ready.ensures.session;
  read = λ e. absurd (unread c.write_ready.result c.write_ready.ensures.fault e);
  write = λ e. was_written c.write_ready.result c.write_ready.ensures.write e;
  day_later = omega arith;
  out_later = c.write_ready.ensures.faults_grow;
}

pub returns-in_default : goal.returns-in_default
returns-in_default g c = record {
  told = λ t bytes before u. ends_with g.P.Keeper.telling bytes before _ _ _ c.args.self.now c.step.new.self c.close.result c.requires.most c.close.ensures.read u
      (step_tells g.P.Keeper.telling c.args.self.now c.step.new.self _ _ _ c.step.result c.close.result c.in_default.not-Done c.in_default.not-Cut c.step.ensures.steps c.close.ensures.told t bytes before u);
  bounded = tt;
  falls = tt;
  ready = tt;
  own = c.close.ensures.own;
  faults_grow = c.step.ensures.faults_grow;
  read = λ e. absurd (c.close.ensures.read cc);
  write = λ e. c.close.ensures.write cc;
  day_later = omega arith;
  out_later = c.close.ensures.faults_grow;
}

pub returns-in-Cut-clause-faults_grow : goal.returns-in-Cut-clause-faults_grow
returns-in-Cut-clause-faults_grow g c = later_same g.P.Keeper.telling c.args.self.now.session c.step.new.self.session c.read_on.new.self.session c.step.ensures.faults_grow c.read_on.ensures.session
