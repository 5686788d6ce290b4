use Rattle.ow_tenant.proofs.TextLaws.{utf8-yes, utf8-no}
use Rattle.ow_tenant.proofs.words.is_utf8.Goals as goal

pub returns-in-Ok : goal.returns-in-Ok
returns-in-Ok c = utf8-yes _ c.in-Ok.ensures.cases.1

pub returns-in-Err : goal.returns-in-Err
returns-in-Err c = utf8-no _ c.in-Err.ensures.cases.0
