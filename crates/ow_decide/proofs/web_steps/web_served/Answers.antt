use Rattle.std.proofs.Common.{◌∙◌, Result, ap, sym}
use Rattle.ow_http.specs.Request.{parts_of}
use Rattle.ow_http.specs.Steps.{◌>>=◌}
use Rattle.ow_http.specs.declared.reason.Reason.{Reason}
use Rattle.ow_names.specs.declared.full.FullName.{FullName}
use Rattle.ow_decide.specs.Asking.{web_named}
use Rattle.ow_decide.specs.WebCalling.{web_name}
use Rattle.ow_decide.proofs.Results.{if_ok_map}
use Rattle.ow_decide.proofs.web_steps.web_served.Goals as goal

pub returns-in-Ok-clause-done : goal.returns-in-Ok-clause-done
returns-in-Ok-clause-done c = if_ok_map c.web_named.result _ _ (λ d h S k b seen.
    h S k b seen
    ∙ (ap (λ (r : Result FullName Reason). r >>= (λ (name : FullName). web_named S (parts_of c.args.request.now) name)) (sym c.in-Ok.is ∙ c.in_ok-name.ensures)
    ∙ ap (λ (r : Result (Unit {0}) Reason). r >>= (λ (room : Unit {0}). web_name c.args.request.now.route >>= (λ (name : FullName). web_named S (parts_of c.args.request.now) name))) (c.in_default.ensures S seen.counted)))
    c.web_named.ensures.done
