use Rattle.std.proofs.Common.{◌∙◌, ℕ, List, [], ap}
use Rattle.ow_http.specs.Request.{parts_of}
use Rattle.ow_records.specs.Records.{listing}
use Rattle.ow_reads.proofs.NamedLaws.{records_named}
use Rattle.ow_reads.proofs.RecordLaws.{records_shown}
use Rattle.ow_reads.proofs.reads.records_listed.Goals as goal

pub returns : goal.returns
returns c = λ rows. records_shown rows c.args.records.now.items c.args.holder.now (parts_of c.args.request.now) c.args.call.now _ c.requires.granted
    (c.in_ok-listed.ensures ∙ ap (λ (n : List ℕ). listing n c.args.call.now.skip c.args.call.now.limit c.args.records.now.items) c.in_ok-namespace.ensures)

pub read_namespace-requires : goal.read_namespace-requires
read_namespace-requires c = records_named c.args.holder.now [] (parts_of c.args.request.now) c.args.call.now c.requires.act c.requires.granted
