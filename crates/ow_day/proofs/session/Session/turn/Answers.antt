use Rattle.ow_day.proofs.Meeting.{stopped_so, turned}
use Rattle.ow_day.proofs.session.Session.turn.Goals as goal

pub returns : goal.returns
returns g c =
    turned g.P.Keeper.telling c.args.self.now c.day_turn.new.hall c.day_turn.new.runner c.day_turn.new.shelf c.in_ok-turned.turned _ _ c.in_ok-turned.ensures.turns

pub returns-in_err-turned : goal.returns-in_err-turned
returns-in_err-turned g c =
    stopped_so g.P.Keeper.telling c.args.self.now c.day_turn.new.hall c.day_turn.new.runner c.day_turn.new.shelf c.day_turn.result c.from_residual.result _ _ c.from_residual.ensures.0 c.day_turn.ensures.turns
