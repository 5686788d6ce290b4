use Rattle.std.proofs.Common.{◌≡◌, Some, None, get_or}
use Rattle.ow_floor.specs.View.{is_number}
use Rattle.ow_floor.specs.Store.{IsCell, run_in}
use Rattle.ow_floor.proofs.Losing.{IsLostSo, lost_made}
use Rattle.ow_floor.proofs.Showing.{show_no_run}
use Rattle.ow_floor.proofs.runs.lose_run.Goals as goal

pub returns-in-None-clause-made : goal.returns-in-None-clause-made
returns-in-None-clause-made c = show_no_run c.args.lists.now.now c.args.run c.in-None.ensures

lost : (c : goal.After-put_run) → IsLostSo c.args.run c.args.lists.now.now c.put_run.new.self.now
lost c =
    let cell : IsCell run_in (is_number c.args.run) c.args.lists.now.now.runs c.in-Some.place = c.in-Some.ensures in
    let here : get_or c.args.lists.now.now.runs c.in-Some.place None ≡ Some c.in-Some-runs.berth = rw (← c.runs.ensures) c.in-Some-runs.is in
    lost_made c.args.lists.now.now c.free_run.new.lists.now c.put_run.new.self.now c.args.run c.in-Some.place c.in-Some-runs.berth cell here c.free_run.ensures.made c.put_run.ensures.now c.requires.lists_fit

pub returns-clause-lists_fit : goal.returns-clause-lists_fit
returns-clause-lists_fit c = (lost c).1

pub returns-clause-made : goal.returns-clause-made
returns-clause-made c = (lost c).0
