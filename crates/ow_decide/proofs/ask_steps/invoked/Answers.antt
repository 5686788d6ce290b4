use Rattle.std.proofs.Common.{◌∙◌, ℕ, List, Option, Result, ap, sym}
use Rattle.ow_floor.specs.declared.activations.Plan.{Plan}
use Rattle.ow_http.specs.Steps.{◌>>=◌}
use Rattle.ow_http.specs.declared.call.Call.{Call}
use Rattle.ow_http.specs.declared.reason.Reason.{Reason}
use Rattle.ow_names.specs.declared.full.FullName.{FullName}
use Rattle.ow_reads.specs.Reasons.{no_route}
use Rattle.ow_reads.specs.Steps.{or_else}
use Rattle.ow_tenant.specs.declared.entries.Holder.{Holder}
use Rattle.ow_decide.specs.Asking.{Done, plan_done}
use Rattle.ow_decide.specs.Calling.{charged_namespace, invocation_plan}
use Rattle.ow_decide.specs.Sight.{Sight}
use Rattle.ow_decide.specs.Waiting.{shows_of}
use Rattle.ow_decide.specs.declared.waits.Shows.{Shows}
use Rattle.ow_decide.proofs.ask_steps.invoked.Goals as goal

abbrev done_by : Sight → Shows → Result Plan Reason → Result Done Reason
done_by S shows r = r >>= (λ (plan : Plan). plan_done S plan shows)

abbrev by_name : Sight → Holder → Call → Option FullName → Result Done Reason
by_name S h call o = or_else o no_route >>= (λ (name : FullName). done_by S (shows_of call.result_only) (invocation_plan S h.subject (charged_namespace h name) call.blocking name call.params))

pub returns-in-Ok-clause-done : goal.returns-in-Ok-clause-done
returns-in-Ok-clause-done c = λ S k b seen.
    ap (plan_done S c.in-Ok.plan) c.shows_of.ensures
    ∙ (ap (done_by S (shows_of c.args.call.now.result_only)) (sym c.in-Ok.is ∙ (c.in_ok-plan.ensures.plan S k b seen
    ∙ ap (λ (ns : List ℕ). invocation_plan S c.args.holder.now.subject ns c.args.call.now.blocking c.in-Some.name c.args.call.now.params) c.charged_namespace.ensures))
    ∙ ap (by_name S c.args.holder.now c.args.call.now) (sym c.in-Some.is))

pub returns-in-Err-clause-done : goal.returns-in-Err-clause-done
returns-in-Err-clause-done c = λ S k b seen.
    ap (done_by S (shows_of c.args.call.now.result_only)) (sym c.in-Err.is ∙ (c.in_ok-plan.ensures.plan S k b seen
    ∙ ap (λ (ns : List ℕ). invocation_plan S c.args.holder.now.subject ns c.args.call.now.blocking c.in-Some.name c.args.call.now.params) c.charged_namespace.ensures))
    ∙ ap (by_name S c.args.holder.now c.args.call.now) (sym c.in-Some.is)
