use Rattle.std.proofs.Common.{Ok, Err, ap, sym, ◌∙◌, ℕ, List}
use Rattle.ow_deploy.specs.Manifest.{manifest_of}
use Rattle.ow_office.proofs.Manifests.{gives_manifest, refused_ungiven}
use Rattle.ow_office.proofs.deploy.read_drafts.Goals as goal

pub returns-in-Ok-clause-ok : goal.returns-in-Ok-clause-ok
returns-in-Ok-clause-ok g c =
    gives_manifest _ _ c.in_ok-text.text.items (Ok c.in-Ok.drafts) c.in_ok-text.ensures.told (ap (λ (xs : List ℕ). manifest_of xs) (sym c.as_slice.ensures.value) ∙ c.in-Ok.ensures.value)

pub returns-clause-err : goal.returns-clause-err
returns-clause-err g c =
    refused_ungiven _ _ c.in-Err.refusal c.refused.result
    (λ whole. gives_manifest _ _ c.in_ok-text.text.items (Err c.in-Err.refusal) c.in_ok-text.ensures.told (ap (λ (xs : List ℕ). manifest_of xs) (sym c.as_slice.ensures.value) ∙ c.in-Err.ensures.value whole))
    c.refused.ensures
