use Rattle.std.proofs.Common.{◌∙◌, Result, ap, sym}
use Rattle.ow_http.specs.Steps.{◌>>=◌}
use Rattle.ow_http.specs.declared.reason.Reason.{Reason}
use Rattle.ow_records.specs.declared.fires.Fire.{Fire}
use Rattle.ow_decide.specs.Asking.{shot_done}
use Rattle.ow_decide.proofs.FireLaws.{some_rules}
use Rattle.ow_decide.proofs.fire_steps.rules_served.Goals as goal

pub returns-in-Ok-Ok-clause-done : goal.returns-in-Ok-Ok-clause-done
returns-in-Ok-Ok-clause-done c = λ S stands now.
    ap (λ (r : Result Fire Reason). r >>= (λ (f : Fire). shot_done S f c.args.rules)) (sym c.in-Ok-Ok.field-0-is ∙ c.in-Ok-Ok.ensures.plan S stands now)
    ∙ some_rules S c.args.subject.now c.args.name.now c.args.number c.args.trigger.now c.args.given.now c.args.rules (λ none. let h = c.is_empty.ensures.1 none in let f = c.if-is_empty.false in cc)

pub returns-in-Ok-Err-clause-done : goal.returns-in-Ok-Err-clause-done
returns-in-Ok-Err-clause-done c = λ S stands now.
    ap (λ (r : Result Fire Reason). r >>= (λ (f : Fire). shot_done S f c.args.rules)) (sym c.in-Ok-Err.field-0-is ∙ c.in-Ok-Err.ensures.plan S stands now)
    ∙ some_rules S c.args.subject.now c.args.name.now c.args.number c.args.trigger.now c.args.given.now c.args.rules (λ none. let h = c.is_empty.ensures.1 none in let f = c.if-is_empty.false in cc)
