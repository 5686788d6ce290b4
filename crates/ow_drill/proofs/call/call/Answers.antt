use Rattle.std.proofs.Common.{◌∙◌, ap, codes}
use Rattle.ow_day.proofs.Sessions.{goes_later}
use Rattle.ow_day.specs.Statement.{At, Call}
use Rattle.ow_drill.proofs.Going.{called_so, comes_later, counts_none, later_then}
use Rattle.ow_drill.proofs.call.call.Goals as goal

pub returns : goal.returns
returns g c =
    let text = c.as_str.ensures.value ∙ c.in_ok-text.ensures in
    called_so g.P.Keeper.telling c.args.k c.args.moment c.args.session.now c.set_moment.new.self c.call.new.self c.follow.new.session (Call _ c.as_str.result.now) c.set_moment.result c.in_ok-outcome.outcome
    c.is_accepted-accepted.result c.follow.result (ap (λ t. Call (codes "/whisk.system/utils/echo") t) text) c.set_moment.ensures c.in_ok-outcome.ensures c.is_accepted-accepted.ensures c.follow.ensures

pub returns-in_err-text : goal.returns-in_err-text
returns-in_err-text g c =
    counts_none g.P.Keeper.telling c.args.session.now c.set_moment.new.self _ c.from_residual.result c.from_residual.ensures.0
    (goes_later g.P.Keeper.telling c.args.session.now c.set_moment.new.self (At c.args.moment) c.set_moment.result c.set_moment.ensures)

pub returns-in_err-outcome : goal.returns-in_err-outcome
returns-in_err-outcome g c =
    counts_none g.P.Keeper.telling c.args.session.now c.call.new.self _ c.from_residual-in_err-outcome.result c.from_residual-in_err-outcome.ensures.0
    (later_then g.P.Keeper.telling c.args.session.now c.set_moment.new.self c.call.new.self
    (goes_later g.P.Keeper.telling c.args.session.now c.set_moment.new.self (At c.args.moment) c.set_moment.result c.set_moment.ensures)
    (comes_later g.P.Keeper.telling c.set_moment.new.self c.call.new.self (Call _ c.as_str.result.now) c.call.result c.call.ensures))
