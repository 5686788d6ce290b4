use Rattle.ow_http.specs.Reason.{entity_notice}
use Rattle.ow_http.proofs.notice.entity_notice.Goals as goal

pub returns-in-MissingField : goal.returns-in-MissingField
unfolding entity_notice
returns-in-MissingField c = rw c.in-MissingField.is c.with_field.ensures

pub returns-in-WrongType : goal.returns-in-WrongType
unfolding entity_notice
returns-in-WrongType c = rw c.in-WrongType.is c.with_field-in-WrongType.ensures
