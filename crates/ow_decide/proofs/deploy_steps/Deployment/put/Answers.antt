use Rattle.std.proofs.Common.{◌≡◌, ◌∙◌, List, map, not, sym, ap}
use Rattle.ow_names.specs.declared.full.FullName.{FullName}
use Rattle.ow_entity.specs.declared.rows.Row.{Row}
use Rattle.ow_tenant.specs.Tenants.{is_listed}
use Rattle.ow_decide.specs.Asking.{put_of}
use Rattle.ow_decide.specs.Deploying.{Progress}
use Rattle.ow_decide.specs.Deployment.{DeploymentView}
use Rattle.ow_decide.proofs.GatherLaws.{gathered_same, stays_then}
use Rattle.ow_decide.proofs.PutAllLaws.{put_of_draft}
use Rattle.ow_decide.proofs.deploy_steps.Deployment.put.Goals as goal

pub returns-in_ok-put_ready-in-Ok-clause-put : goal.returns-in_ok-put_ready-in-Ok-clause-put
returns-in_ok-put_ready-in-Ok-clause-put c =
    let s = c.self.inside in
    let same : (rs : List Row) → Progress = λ rs. record { rows = rs; changes = map put_of s.puts.items; made = s.made; changed = s.changed; same = s.same } in
    put_of_draft c.args.tenants.now c.args.self.now.progress (same c.prepare_put.new.self.rows) c.put_ready.new.self.progress c.args.draft.now c.in_ok-draft.draft c.in-Ok.ready.row s.tables.rows
    c.in_ok-draft.ensures (ap (λ (d : DeploymentView). d.progress.rows) c.self.view_is) (ap same c.in-Ok.ensures.rows ∙ ap (λ (d : DeploymentView). d.progress) c.self.view_is)
    (ap not (sym (c.is_listed.ensures ∙ ap (λ (n : FullName). is_listed n.namespace c.args.tenants.now) c.name.ensures) ∙ c.if-not-is_listed.false))
    c.in-Ok.ensures.unrefused c.in-Ok.ensures.row c.in_ok-put_ready-in-Ok.ensures.put

pub returns-in_ok-put_ready-in-Ok-clause-commit : goal.returns-in_ok-put_ready-in-Ok-clause-commit
returns-in_ok-put_ready-in-Ok-clause-commit c =
    stays_then c.args.self.now _ c.put_ready.new.self
    (gathered_same c.args.self.now _ (c.in-Ok.ensures.rows ∙ ap (λ (d : DeploymentView). d.progress.rows) c.self.view_is) (ap (λ (d : DeploymentView). d.progress.changes) c.self.view_is)
    (ap (λ (d : DeploymentView). d.commit) c.self.view_is)) c.in_ok-put_ready-in-Ok.ensures.commit
