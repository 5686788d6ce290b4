use Rattle.std.proofs.Common.{◌∙◌, List, Option, ap, sym}
use Rattle.ow_entity.specs.declared.rows.Row.{Row}
use Rattle.ow_http.specs.Request.{parts_of}
use Rattle.ow_http.specs.Steps.{◌>>=◌}
use Rattle.ow_tenant.specs.Table.{Table}
use Rattle.ow_decide.specs.Asking.{web_called}
use Rattle.ow_decide.specs.Calling.{callee_in}
use Rattle.ow_reads.specs.Reasons.{not_found}
use Rattle.ow_reads.specs.Steps.{or_else}
use Rattle.ow_decide.specs.declared.call_steps.Callee.{Callee}
use Rattle.ow_decide.proofs.Results.{if_ok_map}
use Rattle.ow_decide.proofs.web_steps.web_named.Goals as goal

pub returns-in-Some-clause-done : goal.returns-in-Some-clause-done
returns-in-Some-clause-done c = if_ok_map c.web_called.result _ _ (λ d h S k b seen.
    h S c.args.tables.now.rows k b seen
    ∙ ap (λ (o : Option Callee). or_else o not_found >>= (λ (x : Callee). web_called S (parts_of c.args.request.now) c.args.name.now x))
    (sym c.in-Some.is ∙ (c.in_ok-called.ensures
    ∙ (ap (λ (t : Table). callee_in t c.args.tables.now.rows c.args.name.now c.args.name.now.namespace) (sym seen.tenants)
    ∙ ap (λ (rs : List Row). callee_in S.tenants rs c.args.name.now c.args.name.now.namespace) (sym seen.rows))))) c.web_called.ensures.done
