use Rattle.std.proofs.Common.{◌≡◌, Result, Ok, Err, refl, sym, subst}
use Rattle.ow_decide.specs.declared.events.Told.{Told}
use Rattle.ow_decide.specs.declared.events.Told.TheVariants as told
use Rattle.ow_decide.specs.declared.replies.Deployed.{Deployed}
use Rattle.ow_decide.specs.declared.replies.Deployed.TheVariants as deployments
use Rattle.ow_decide.specs.Deploying.{Progress, Refusal, deploy_decision, deployed}
use Rattle.ow_decide.specs.Decision.{commits}
use Rattle.ow_decide.specs.declared.events.Event.TheVariants as events
use Rattle.ow_hall.specs.Comes.{Wants, at_hall, decided}
use Rattle.ow_hall.specs.History.{counted, seen, sight}
use Rattle.ow_hall.proofs.KeepLaws.{stays_same}
use Rattle.ow_hall.proofs.hall.Hall.deploy.Goals as goal

-- the answer to a deployment is a `Deployed`
deploy_told : (r : Result Progress Refusal) → (x : Deployed) × ((deploy_decision r).told ≡ told.Deployed x)
deploy_told (Ok p) = (deployments.Done p.made p.changed p.same, refl)
deploy_told (Err refusal) = (deployments.Refused refusal.0 refusal.1, refl)

pub deployed_in-requires : goal.deployed_in-requires
deployed_in-requires g c =
    let h = c.args.self.now in
    let S = sight h.tenants (seen h.tenants h.ledger.entries) (counted h.ledger.entries) (at_hall h c.args.at) in
    subst (λ (t : Told). (x : Deployed) × (t ≡ told.Deployed x)) (sym c.in-Ok.ensures.comes.0) (deploy_told (deployed S c.args.drafts))
