use Rattle.std.proofs.Common.{◌∙◌, sym}
use Rattle.ow_decide.proofs.Results.{if_ok_map}
use Rattle.ow_decide.proofs.WholeLaws.{deploy_makes}
use Rattle.ow_decide.proofs.deploy_steps.deploy.Goals as goal

pub returns-in-Ok-Ok-clause-ok : goal.returns-in-Ok-Ok-clause-ok
returns-in-Ok-Ok-clause-ok c = if_ok_map c.settled.result _ _ (λ s settled k S seen.
    deploy_makes S c.args.tenants.now c.args.tables.now.rows k c.args.keeping.now c.args.floor.now.now c.args.now c.args.drafts.now c.as_slice.result.now c.in_ok-work.work c.put_all.new.self s
    c.in-Ok-Ok.field-0 c.in-Ok-Ok.field-0-0 c.in_default.field-0 seen (sym (c.room_for.ensures S seen.counted) ∙ c.in_default.is) c.as_slice.ensures
    c.in_ok-work.ensures.progress c.in_ok-work.ensures.commit c.in-Ok-Ok.field-0-is c.in-Ok-Ok.ensures.put c.in-Ok-Ok.ensures.commit settled) c.settled.ensures.ok
