use Rattle.ow_day.proofs.Utf8.{utf8_some, utf8_none}
use Rattle.ow_day.proofs.line.text_of.Goals as goal

pub returns-in-Ok : goal.returns-in-Ok
returns-in-Ok c = utf8_some _ _ c.in-Ok.ensures.cases.0 c.in-Ok.ensures.cases.1

pub returns-in-Err : goal.returns-in-Err
returns-in-Err c = utf8_none _ c.in-Err.ensures.cases.0
