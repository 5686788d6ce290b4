use Rattle.std.proofs.Common.{◌∙◌, List, Result, ap, sym}
use Rattle.ow_entity.specs.declared.rows.Row.{Row}
use Rattle.ow_http.specs.Request.{parts_of}
use Rattle.ow_http.specs.Steps.{◌>>=◌}
use Rattle.ow_http.specs.declared.call.Call.{Call}
use Rattle.ow_http.specs.declared.reason.Reason.{Reason}
use Rattle.ow_reads.specs.Acts.{granted_call}
use Rattle.ow_decide.specs.Asking.{change_done}
use Rattle.ow_decide.proofs.Results.{if_ok_map}
use Rattle.ow_decide.proofs.ask_steps.called_served.Goals as goal

pub returns-in-Ok-clause-done : goal.returns-in-Ok-clause-done
returns-in-Ok-clause-done c = if_ok_map c.call_served.result _ _ (λ d h S k seen.
    h S k seen
    ∙ ap (λ (r : Result Call Reason). r >>= (λ (call : Call). change_done S c.args.holder.now c.args.act call)) (sym c.in-Ok.is ∙ (c.in_ok-call.ensures
    ∙ ap (λ (rs : List Row). granted_call c.args.holder.now rs c.args.act (parts_of c.args.request.now)) (sym seen.rows)))) c.call_served.ensures.done
