use Rattle.std.proofs.Common.{◌∙◌, ℕ, List, ap}
use Rattle.ow_http.specs.Request.{parts_of}
use Rattle.ow_tables.specs.Rows.{listing}
use Rattle.ow_reads.proofs.NamedLaws.{rows_named}
use Rattle.ow_reads.proofs.ReadLaws.{rows_shown}
use Rattle.ow_reads.proofs.reads.listed.Goals as goal

pub returns : goal.returns
returns c = λ ended. rows_shown c.args.tables.now.rows ended c.args.holder.now (parts_of c.args.request.now) c.args.call.now c.args.kind _ c.requires.granted
    (c.in_ok-listed.ensures.value ∙ ap (λ (n : List ℕ). listing c.args.kind n c.args.call.now.skip c.args.call.now.limit c.args.tables.now.rows) c.in_ok-namespace.ensures)

pub read_namespace-requires : goal.read_namespace-requires
read_namespace-requires c = rows_named c.args.holder.now c.args.tables.now.rows c.args.kind (parts_of c.args.request.now) c.args.call.now c.requires.act c.requires.granted
