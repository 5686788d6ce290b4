use Rattle.ow_decide.proofs.FireLaws.{record_moved, record_stands}
use Rattle.ow_floor.proofs.Results.{on_more}
use Rattle.ow_decide.proofs.fire_steps.shoot.Goals as goal

pub returns-in-Ok-clause-ok : goal.returns-in-Ok-clause-ok
returns-in-Ok-clause-ok c = on_more c.fire.result _ _ (λ grows S u.
    let past = c.in-Ok.ensures.ok S u in
    record_stands S c.args.fire c.args.rules.now c.fire.new.self.now c.trigger_record.result c.in-Ok.lines c.trigger_record.ensures (c.in-Ok.ensures.lines S u) (grows _ past.stands)) c.fire.ensures.ok

pub returns-in-Ok-clause-moved : goal.returns-in-Ok-clause-moved
returns-in-Ok-clause-moved c = on_more c.fire.result _ _ (λ more S u.
    let past = c.in-Ok.ensures.ok S u in
    record_moved S c.args.fire c.args.rules.now c.trigger_record.result c.in-Ok.lines _ _ c.trigger_record.ensures (c.in-Ok.ensures.lines S u) past.moves more) c.fire.ensures.moved
