use Rattle.std.proofs.Common.{Ok, Err, ap}
use Rattle.ow_http.specs.Request.{parts_of}
use Rattle.ow_decide.specs.Asking.{shown_done}
use Rattle.ow_decide.proofs.OnceLaws.{read_of}
use Rattle.ow_decide.proofs.read_steps.read.Goals as goal

pub returns-in-Ok-clause-done : goal.returns-in-Ok-clause-done
returns-in-Ok-clause-done c = λ S rows_are stands. ap shown_done (read_of S c.args.holder.now c.args.tables.now.rows c.records.result.now.items c.args.floor.now.now c.args.reading (parts_of c.args.request.now) _ (Ok c.in-Ok.value)
    rows_are c.records.ensures stands c.in-Ok.is c.in_ok-shown.ensures)

pub returns-in-Err-clause-done : goal.returns-in-Err-clause-done
returns-in-Err-clause-done c = λ S rows_are stands. ap shown_done (read_of S c.args.holder.now c.args.tables.now.rows c.records.result.now.items c.args.floor.now.now c.args.reading (parts_of c.args.request.now) _ (Err c.in-Err.reason)
    rows_are c.records.ensures stands c.in-Err.is c.in_ok-shown.ensures)
