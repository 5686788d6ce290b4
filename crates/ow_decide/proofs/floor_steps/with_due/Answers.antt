use Rattle.std.proofs.Common.{◌++◌, ◌∙◌}
use Rattle.ow_decide.proofs.Results.{if_ok_map}
use Rattle.ow_decide.proofs.floor_steps.with_due.Goals as goal

pub returns-in-Ok-clause-ok : goal.returns-in-Ok-clause-ok
returns-in-Ok-clause-ok c = if_ok_map c.archiving.result _ _ (λ s h S t items carries keeps sound right own stands same.
    h S t items carries keeps sound right own (c.deref.ensures.value ∙ c.in-Ok.ensures.trace (items ++ S.trace) stands) same) c.archiving.ensures.ok
