use Rattle.std.proofs.Common.{◌≡◌, IfOk, subst}
use Rattle.ow_web.specs.Target.{Target}
use Rattle.ow_decide.specs.WebCalling.{target_name}
use Rattle.ow_decide.proofs.web_steps.web_name.Goals as goal

pub returns : goal.returns
returns c = subst (λ (t : Target). IfOk c.target_name.result (λ n. n ≡ target_name t)) c.web_target.ensures c.target_name.ensures
