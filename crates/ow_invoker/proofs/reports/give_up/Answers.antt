use Rattle.ow_decide.specs.declared.events.Event.TheVariants as events
use Rattle.ow_invoker.proofs.Turning.{both_told}
use Rattle.ow_invoker.proofs.reports.give_up.Goals as goal

pub returns : goal.returns
returns g c =
    both_told g.P.Keeper.telling c.args.hall.now c.lose-lost.new.hall c.report_gone-gone.new.hall c.args.at (events.Lost c.args.run) (events.Gone c.args.slot c.args.generation)
    c.lose-lost.result c.report_gone-gone.result c.lose-lost.ensures c.report_gone-gone.ensures
