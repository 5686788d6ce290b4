use Rattle.std.proofs.Common.{◌≡◌, true, sym, subst, ◌∙◌}
use Rattle.ow_entity.specs.Given.{IsPlaced}
use Rattle.ow_deploy.specs.Manifest.{is_path}
use Rattle.ow_deploy.proofs.DraftLaws.{placed}
use Rattle.ow_deploy.proofs.drafts.name_at.Goals as goal

pub returns-in-Ok-clause-placed : goal.returns-in-Ok-clause-placed
returns-in-Ok-clause-placed c =
    let fits : is_path c.args.kind c.args.path.now ≡ true = sym c.is_path.ensures ∙ c.if-not-is_path.false in
    subst (IsPlaced c.args.kind) (sym c.known.ensures.value) (placed c.args.kind c.args.home.now c.args.path.now c.in-Ok.name fits c.in-Ok.ensures)
