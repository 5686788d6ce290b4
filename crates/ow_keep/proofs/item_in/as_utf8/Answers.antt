use Rattle.std.proofs.Common.{Some, ap, sym, ◌∙◌}
use Rattle.ow_keep.proofs.Utf8.{no_utf8, utf8_back}
use Rattle.ow_keep.proofs.item_in.as_utf8.Goals as goal

pub returns-in-Ok : goal.returns-in-Ok
returns-in-Ok c = ap Some c.in-Ok.ensures.cases.0 ∙ sym (utf8_back c.args.bytes.now c.in-Ok.ensures.cases.1)

pub returns-in-Err : goal.returns-in-Err
returns-in-Err c = no_utf8 c.args.bytes.now c.in-Err.ensures.cases.0
