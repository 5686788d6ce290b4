use Rattle.std.proofs.Common.{◌∙◌, ap}
use Rattle.std.specs.List.{flat_map}
use Rattle.ow_commits.specs.Commits.{changes_of}
use Rattle.ow_decide.proofs.FireLaws.{followed}
use Rattle.ow_decide.proofs.commits.made_of.Goals as goal

pub returns-clause-made : goal.returns-clause-made
returns-clause-made c = followed c.args.keeping.now c.args.moves c.in-Ok.commit (c.in-Ok.ensures.changes ∙ ap (flat_map changes_of) c.items.ensures)
    (λ o rs T items keeps sound right own same. c.in-Ok.ensures.bytes o rs T items keeps sound right own (c.items.ensures ∙ same))
    (λ o rs T items keeps sound right own same. c.in-Ok.ensures.stands o rs T items keeps sound right own (c.items.ensures ∙ same))
