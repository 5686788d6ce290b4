use Rattle.ow_floor.proofs.Showing.{show_not_begun}
use Rattle.ow_floor.proofs.runs.begin_run.Goals as goal

pub returns-in-None-clause-made : goal.returns-in-None-clause-made
returns-in-None-clause-made c = show_not_begun c.args.lists.now.now c.args.at c.args.run c.in-None.ensures
