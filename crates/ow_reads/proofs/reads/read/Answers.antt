use Rattle.std.proofs.Common.{◌∙◌, sym}
use Rattle.std.proofs.lemmas.Result.{IfOk-weaker}
use Rattle.ow_http.specs.Request.{parts_of}
use Rattle.ow_reads.proofs.ReadLaws.{read_refused, read_so}
use Rattle.ow_reads.proofs.reads.read.Goals as goal

pub returns-in-Ok : goal.returns-in-Ok
returns-in-Ok c = IfOk-weaker c.shown.result _ _ (λ r h once.
    h once ∙ sym (read_so c.args.tables.now.rows c.args.records.now.items c.args.holder.now c.args.reading (parts_of c.args.request.now) c.in-Ok.call c.are_ordered.ensures (sym c.in_ok-granted.ensures ∙ c.in-Ok.is))) c.shown.ensures

pub returns-in-Err : goal.returns-in-Err
returns-in-Err c = λ once. sym (read_refused c.args.tables.now.rows c.args.records.now.items c.args.holder.now c.args.reading (parts_of c.args.request.now) c.in-Err.reason c.are_ordered.ensures (sym c.in_ok-granted.ensures ∙ c.in-Err.is))
