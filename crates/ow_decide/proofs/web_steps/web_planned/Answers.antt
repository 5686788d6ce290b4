use Rattle.std.proofs.Common.{◌∙◌, Result, ap, sym}
use Rattle.ow_floor.specs.declared.activations.Plan.{Plan}
use Rattle.ow_http.specs.Steps.{◌>>=◌}
use Rattle.ow_http.specs.declared.reason.Reason.{Reason}
use Rattle.ow_web.specs.declared.target.Extension.{Extension}
use Rattle.ow_decide.specs.Asking.{Done, plan_done}
use Rattle.ow_decide.specs.Sight.{Sight}
use Rattle.ow_decide.specs.declared.waits.Shows.TheVariants.{Web}
use Rattle.ow_decide.proofs.web_steps.web_planned.Goals as goal

abbrev done_by : Sight → Extension → Result Plan Reason → Result Done Reason
done_by S extension r = r >>= (λ (plan : Plan). plan_done S plan (Web extension))

pub returns-in-Ok-clause-done : goal.returns-in-Ok-clause-done
returns-in-Ok-clause-done c = λ S stands now. ap (done_by S c.args.extension) (sym c.in-Ok.is ∙ c.in_ok-plan.ensures.plan S stands now)

pub returns-in-Err-clause-done : goal.returns-in-Err-clause-done
returns-in-Err-clause-done c = λ S stands now. ap (done_by S c.args.extension) (sym c.in-Err.is ∙ c.in_ok-plan.ensures.plan S stands now)
