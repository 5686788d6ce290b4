use Rattle.std.proofs.Common.{sym, ◌∙◌}
use Rattle.ow_invoker.proofs.Turning.{opened_cold, opened_warm}
use Rattle.ow_invoker.proofs.reports.begin.Goals as goal

pub returns-then-is_warm : goal.returns-then-is_warm
returns-then-is_warm g c = opened_warm g.P.Keeper.telling c.args.hall.now c.args.at c.args.order.now (sym c.is_warm.ensures ∙ c.if-is_warm.true)

pub returns : goal.returns
returns g c =
    opened_cold g.P.Keeper.telling c.args.hall.now c.begun.new.self c.args.at c.args.order.now _ (sym c.is_warm.ensures ∙ c.if-is_warm.false) c.begun.ensures
