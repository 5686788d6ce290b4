use Rattle.std.proofs.Common.{◌∙◌, false, List, Option, ap, sym}
use Rattle.ow_entity.specs.declared.rows.Row.{Row}
use Rattle.ow_http.specs.Steps.{◌>>=◌}
use Rattle.ow_tenant.specs.Table.{Table}
use Rattle.ow_decide.specs.Calling.{called_plan, callee_in}
use Rattle.ow_reads.specs.Reasons.{not_found}
use Rattle.ow_reads.specs.Steps.{or_else}
use Rattle.ow_decide.specs.declared.call_steps.Callee.{Callee}
use Rattle.ow_decide.proofs.Results.{if_ok_map}
use Rattle.ow_decide.proofs.call_steps.invocation_plan.Goals as goal

pub returns-in-Some-clause-plan : goal.returns-in-Some-clause-plan
returns-in-Some-clause-plan c = if_ok_map c.called_plan.result _ _ (λ p h S k b seen.
    h S seen.stands seen.moment
    ∙ ap (λ (o : Option Callee). or_else o not_found >>= (λ (x : Callee). called_plan S c.args.subject.now c.args.namespace.now c.args.blocking false x c.args.params.now))
    (sym c.in-Some.is ∙ (c.in_ok-called.ensures
    ∙ (ap (λ (t : Table). callee_in t c.args.tables.now.rows c.args.name.now c.args.namespace.now) (sym seen.tenants)
    ∙ ap (λ (rs : List Row). callee_in S.tenants rs c.args.name.now c.args.namespace.now) (sym seen.rows))))) c.called_plan.ensures.plan
