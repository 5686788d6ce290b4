use Rattle.std.proofs.Common.{sym, ◌∙◌}
use Rattle.ow_deploy.proofs.ManifestLaws.{all_viewed}
use Rattle.ow_deploy.proofs.manifest.are_shallow.Goals as goal

pub returns : goal.returns
returns c = c.are_within.ensures ∙ sym (all_viewed c.args.entries.now)
