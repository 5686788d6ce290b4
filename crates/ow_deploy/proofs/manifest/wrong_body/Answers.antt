use Rattle.ow_deploy.proofs.ManifestLaws.{wrong_path}
use Rattle.ow_deploy.proofs.manifest.wrong_body.Goals as goal

pub returns-in-Some : goal.returns-in-Some
returns-in-Some c =
    let same = wrong_path c.args.entries.now _ c.first_wrong.ensures in
    rw c.in-Some.is at same

pub returns-in-None : goal.returns-in-None
returns-in-None c =
    let same = wrong_path c.args.entries.now _ c.first_wrong.ensures in
    rw c.in-None.is at same
