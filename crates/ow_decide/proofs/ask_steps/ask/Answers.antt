use Rattle.std.proofs.Common.{◌∙◌, ap, subst, sym}
use Rattle.ow_http.specs.Request.{parts_of}
use Rattle.ow_decide.specs.Asking.{plan_done, request_done, shot_done}
use Rattle.ow_decide.specs.Making.{CommitsServed, done_of, served_of}
use Rattle.ow_decide.specs.declared.done.Served.{Served}
use Rattle.ow_decide.proofs.AskLaws.{ask_makes, done_grows, done_makes}
use Rattle.ow_decide.proofs.Results.{if_ok_map}
use Rattle.ow_decide.proofs.ask_steps.ask.Goals as goal

pub returns-in-Done-clause-ok : goal.returns-in-Done-clause-ok
returns-in-Done-clause-ok c = if_ok_map c.step.result _ _ (λ s h S seen.
    ask_makes c.args.floor.now.now c.args.floor.now.now S s (done_of c.in-Done.done) (request_done S (parts_of c.args.request.now)) seen.stands
    (done_grows c.args.floor.now.now c.in-Done.done) (ap (served_of S) (sym c.in-Done.is) ∙ c.in_ok-done.ensures.done S c.args.counts.now seen)
    (h S (subst (λ (d : Served). CommitsServed d S) c.in-Done.is (c.in_ok-done.ensures.commit S c.args.counts.now seen)))) c.step.ensures.ok

pub returns-in-Accepts-clause-ok : goal.returns-in-Accepts-clause-ok
returns-in-Accepts-clause-ok c =
    done_makes c.args.tenants.now c.args.tables.now.rows _ c.args.counts.now c.args.keeping.now c.args.now c.args.floor.now.now c.accepted_plan.new.floor.now (λ S. plan_done S c.in-Accepts.plan c.in-Accepts.shows)
    (λ S. request_done S (parts_of c.args.request.now)) c.accepted_plan.result c.in_ok-done.ensures.rows (λ S seen. ap (served_of S) (sym c.in-Accepts.is) ∙ c.in_ok-done.ensures.done S c.args.counts.now seen) c.accepted_plan.ensures.ok

pub returns-in-Fires-clause-ok : goal.returns-in-Fires-clause-ok
returns-in-Fires-clause-ok c =
    done_makes c.args.tenants.now c.args.tables.now.rows _ c.args.counts.now c.args.keeping.now c.args.now c.args.floor.now.now c.shot.new.floor.now (λ S. shot_done S c.in-Fires.fire c.in-Fires.rules)
    (λ S. request_done S (parts_of c.args.request.now)) c.shot.result c.in_ok-done.ensures.rows (λ S seen. ap (served_of S) (sym c.in-Fires.is) ∙ c.in_ok-done.ensures.done S c.args.counts.now seen) c.shot.ensures.ok
