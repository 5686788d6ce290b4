use Rattle.std.proofs.Common.{◌∙◌, Result, ap, sym}
use Rattle.ow_http.specs.Steps.{◌>>=◌}
use Rattle.ow_http.specs.declared.reason.Reason.{Reason}
use Rattle.ow_web.specs.declared.target.Extension.{Extension}
use Rattle.ow_decide.specs.Asking.{web_planned}
use Rattle.ow_decide.proofs.Results.{if_ok_map}
use Rattle.ow_decide.proofs.web_steps.web_accepted.Goals as goal

pub returns-in-Ok-clause-done : goal.returns-in-Ok-clause-done
returns-in-Ok-clause-done c = if_ok_map c.web_planned.result _ _ (λ d h S stands now.
    h S stands now ∙ ap (λ (r : Result Extension Reason). r >>= (λ (x : Extension). web_planned S c.args.name.now.namespace c.args.called c.args.given x)) (sym c.in-Ok.is ∙ c.web_extension.ensures))
    c.web_planned.ensures.done
