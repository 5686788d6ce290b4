use Rattle.std.proofs.Common.{◌∙◌, None, Some}
use Rattle.ow_reads.proofs.RecordLaws.{read_recorded}
use Rattle.ow_reads.proofs.reads.record_of.Goals as goal

pub returns-in-Ok : goal.returns-in-Ok
returns-in-Ok c = λ once. c.record_in.ensures ∙ read_recorded c.args.holder.now.rights c.args.namespace.now c.args.id c.args.records.now.items (Some c.in-Ok.ended.now) c.requires once c.in-Ok.ensures

pub returns-in-Err : goal.returns-in-Err
returns-in-Err c = λ once. read_recorded c.args.holder.now.rights c.args.namespace.now c.args.id c.args.records.now.items None c.requires once c.in-Err.ensures.0
