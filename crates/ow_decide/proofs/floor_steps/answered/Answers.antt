use Rattle.ow_decide.proofs.FloorLaws.{answered_makes}
use Rattle.ow_decide.proofs.Results.{if_ok_map}
use Rattle.ow_decide.proofs.floor_steps.answered.Goals as goal

pub returns-clause-ok : goal.returns-clause-ok
returns-clause-ok c = if_ok_map c.answered_step.result _ _ (λ s step t k.
    answered_makes t c.args.tables.now.rows k c.args.keeping.now c.args.now c.args.floor.now.now c.answered.new.floor.now c.args.run c.args.reply.now c.in-Ok.recorded c.new-moves.result c.answered.new.moves s step
    c.in-Ok.ensures.told c.new-moves.ensures c.in-Ok.ensures.moved c.in-Ok.ensures.ok) c.answered_step.ensures
