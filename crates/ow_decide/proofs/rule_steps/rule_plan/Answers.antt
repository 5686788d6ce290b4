use Rattle.std.proofs.Common.{List, Option, ap, sym, ◌∙◌}
use Rattle.ow_entity.specs.declared.rows.Row.{Row}
use Rattle.ow_http.specs.Steps.{◌>>=◌}
use Rattle.ow_reads.specs.Reasons.{not_found}
use Rattle.ow_reads.specs.Steps.{or_else}
use Rattle.ow_tenant.specs.Table.{Table}
use Rattle.ow_decide.specs.Calling.{callee_in}
use Rattle.ow_decide.specs.Firing.{called_rule, seeing}
use Rattle.ow_decide.specs.declared.call_steps.Callee.{Callee}
use Rattle.ow_decide.proofs.Results.{if_ok_map}
use Rattle.ow_decide.proofs.rule_steps.rule_plan.Goals as goal

pub returns-in-Some-clause-plan : goal.returns-in-Some-clause-plan
returns-in-Some-clause-plan c = if_ok_map c.called_rule.result _ _ (λ p h S items u.
    h S items c.args.tables.now.rows u
    ∙ ap (λ (o : Option Callee). or_else o not_found >>= (λ (x : Callee). called_rule (seeing items S) c.args.fire.now x))
    (sym c.in-Some.is ∙ (c.in_ok-called.ensures
    ∙ (ap (λ (t : Table). callee_in t c.args.tables.now.rows c.args.rule.now.action c.args.fire.now.namespace) (sym u.tenants)
    ∙ ap (λ (rs : List Row). callee_in S.tenants rs c.args.rule.now.action c.args.fire.now.namespace) (sym u.rows))))) c.called_rule.ensures.plan
