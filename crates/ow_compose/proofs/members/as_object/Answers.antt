use Rattle.std.proofs.Common.{◌∙◌, Some, sym, ap}
use Rattle.ow_value.specs.Field.{pairs_in-members_of}
use Rattle.ow_value.specs.View.{view}
use Rattle.ow_records.specs.FieldsIn.{as_object}
use Rattle.ow_compose.proofs.members.as_object.Goals as goal

pub returns-in-Object : goal.returns-in-Object
returns-in-Object c = ap Some (sym (pairs_in-members_of c.in-Object.members)) ∙ ap (λ v. as_object (view v)) (sym c.in-Object.is)
