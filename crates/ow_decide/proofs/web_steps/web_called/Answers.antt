use Rattle.std.proofs.Common.{◌∙◌, Result, ap, sym}
use Rattle.ow_http.specs.Request.{parts_of}
use Rattle.ow_http.specs.Steps.{◌>>=◌}
use Rattle.ow_http.specs.declared.reason.Reason.{Reason}
use Rattle.ow_tenant.specs.Table.{Table}
use Rattle.ow_value.specs.Value.{Pairs}
use Rattle.ow_decide.specs.Asking.{web_accepted}
use Rattle.ow_decide.specs.WebCalling.{web_given}
use Rattle.ow_decide.proofs.Results.{if_ok_map}
use Rattle.ow_decide.proofs.web_steps.web_called.Goals as goal

pub returns-in-Ok-Ok-clause-done : goal.returns-in-Ok-Ok-clause-done
returns-in-Ok-Ok-clause-done c = if_ok_map c.web_accepted.result _ _ (λ d h S rs k b seen.
    h S seen.stands seen.moment ∙ ap (λ (r : Result Pairs Reason). r >>= (λ (given : Pairs). web_accepted S (parts_of c.args.request.now) c.args.name.now c.args.called given))
    (sym c.in-Ok-Ok.field-0-is ∙ (c.in-Ok-Ok.ensures ∙ ap (λ (t : Table). web_given t c.args.called.effective (parts_of c.args.request.now)) (sym seen.tenants)))) c.web_accepted.ensures.done
