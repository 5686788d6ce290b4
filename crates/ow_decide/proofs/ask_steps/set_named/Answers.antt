use Rattle.std.proofs.Common.{◌∙◌}
use Rattle.ow_decide.proofs.Results.{if_ok_map}
use Rattle.ow_decide.proofs.SetLaws.{set_changed, set_stays}
use Rattle.ow_decide.proofs.ask_steps.set_named.Goals as goal

pub returns-in-Ok-Some-clause-done : goal.returns-in-Ok-Some-clause-done
returns-in-Ok-Some-clause-done c = if_ok_map c.status_ready.result _ _ (λ d h S rows.
    h ∙ set_changed S c.args.tables.now.rows _ c.args.name.now c.args.active c.in-Ok-Some.ready rows c.set_status.ensures.rows (rw c.in-Ok-Some.field-0-is at c.in-Ok-Some.ensures.change)) c.status_ready.ensures.done

pub returns-in-Ok-None-clause-done : goal.returns-in-Ok-None-clause-done
returns-in-Ok-None-clause-done c = if_ok_map c.status_shown.result _ _ (λ d h S rows.
    set_stays S c.args.tables.now.rows _ c.args.name.now c.args.active _ rows c.set_status.ensures.rows (rw c.in-Ok-None.field-0-is at c.in-Ok-None.ensures.change) h) c.status_shown.ensures.done
