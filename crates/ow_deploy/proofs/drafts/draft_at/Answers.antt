use Rattle.ow_value.specs.View.{view as value_view}
use Rattle.toml.specs.View.{view}
use Rattle.ow_deploy.proofs.DraftLaws.{given, when_ok}
use Rattle.ow_deploy.proofs.drafts.draft_at.Goals as goal

pub returns-clause-given : goal.returns-clause-given
returns-clause-given c =
    let name = c.in_ok-name.ensures in
    when_ok c.read_entity.result _ _ _ (λ d drafted. given c.args.entry.now.kind c.in_ok-name.name (value_view c.in_ok-body.body) (view c.args.entry.now.body.now) d c.requires c.in_ok-body.ensures name.full name.placed drafted) c.read_entity.ensures
