use Rattle.std.proofs.Common.{◌∙◌, Option, ap, sym}
use Rattle.ow_http.specs.declared.reason.Reason.TheVariants.{Service}
use Rattle.ow_http.specs.declared.service_refusal.ServiceRefusal.TheVariants.{BadExtension}
use Rattle.ow_reads.specs.Steps.{or_else}
use Rattle.ow_web.specs.Target.{Target}
use Rattle.ow_web.specs.declared.target.Extension.{Extension}
use Rattle.ow_decide.proofs.web_steps.web_extension.Goals as goal

pub returns-in-Some : goal.returns-in-Some
returns-in-Some c = ap (λ (o : Option Extension). or_else o (Service BadExtension)) (sym c.in-Some.is ∙ ap (λ (t : Target). t.extension) c.web_target.ensures)

pub returns-in-None : goal.returns-in-None
returns-in-None c = ap (λ (o : Option Extension). or_else o (Service BadExtension)) (sym c.in-None.is ∙ ap (λ (t : Target). t.extension) c.web_target.ensures)
