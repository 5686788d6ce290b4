use Rattle.std.proofs.Common.{◌∙◌, sym, ap}
use Rattle.ow_value.specs.Field.{pairs_in-members_of}
use Rattle.ow_value.specs.View.{view}
use Rattle.ow_records.specs.Outcome.{of_object, of_value}
use Rattle.ow_records.proofs.outcomes.valued.Goals as goal

pub returns-in-Object : goal.returns-in-Object
returns-in-Object c =
    c.told.ensures ∙ ap of_object (sym (pairs_in-members_of c.in-Object.object)) ∙ ap (λ v. of_value (view v)) (sym c.in-Object.is)
