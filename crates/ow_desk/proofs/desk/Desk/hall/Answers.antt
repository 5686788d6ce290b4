use Rattle.ow_floor.proofs.Slotting.{runs_in_slots}
use Rattle.ow_hall.specs.History.{seen}
use Rattle.ow_hall.proofs.Beginnings.{keeps_each, keeps_limits, keeps_steps, seen_sound}
use Rattle.ow_desk.proofs.desk.Desk.hall.Goals as goal

pub returns-clause-activations : goal.returns-clause-activations
returns-clause-activations g c = keeps_each c.args.self.now.hall.tenants c.args.self.now.hall.ledger.entries

pub returns-clause-limits : goal.returns-clause-limits
returns-clause-limits g c = keeps_limits c.args.self.now.hall.tenants c.args.self.now.hall.ledger.entries

pub returns-clause-steps : goal.returns-clause-steps
returns-clause-steps g c = keeps_steps c.args.self.now.hall.tenants c.args.self.now.hall.ledger.entries

pub returns-clause-slots : goal.returns-clause-slots
returns-clause-slots g c =
    let t = c.args.self.now.hall.tenants in
    let B = c.args.self.now.hall.ledger.entries in
    runs_in_slots (seen t B).trace (seen_sound t B).slotted
