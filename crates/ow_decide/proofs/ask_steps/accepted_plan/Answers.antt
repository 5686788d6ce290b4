use Rattle.std.proofs.Common.{refl}
use Rattle.ow_decide.proofs.AskLaws.{plan_makes}
use Rattle.ow_decide.proofs.ask_steps.accepted_plan.Goals as goal

pub returns-clause-ok : goal.returns-clause-ok
returns-clause-ok c =
    plan_makes c.args.tenants.now c.args.tables.now.rows c.args.counts.now c.args.keeping.now c.args.now c.args.floor.now.now c.taken_plan.new.floor.now c.args.plan _ _ c.args.shows c.in_ok-taken.taken c.accepted.result
    refl refl c.in_ok-taken.ensures.ok c.accepted.ensures.ok
