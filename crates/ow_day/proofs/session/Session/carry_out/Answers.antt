use Rattle.ow_day.specs.Line.{statement}
use Rattle.ow_day.proofs.Sessions.{end_is, goes_later}
use Rattle.ow_day.proofs.session.Session.carry_out.Goals as goal

pub returns-in-Ok-pushed : goal.returns-in-Ok-pushed
returns-in-Ok-pushed g c = (
  λ e. c.in_default.not-End (end_is c.args.said e),
  (c.in-Ok.outcome, (c.in-Ok.ensures, rw c.in-Ok-pushed.is at c.push_outcome-pushed.ensures.ok)),
)

pub returns-in-Err : goal.returns-in-Err
returns-in-Err g c = goes_later g.P.Keeper.telling c.args.self.now c.perform.new.self (statement c.args.said) c.in-Ok.outcome c.in-Ok.ensures
