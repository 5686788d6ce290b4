use Rattle.std.proofs.Common.{sym}
use Rattle.std.proofs.lemmas.List.{take_rest}
use Rattle.ow_day.proofs.Searching.{line_found}
use Rattle.ow_day.proofs.search.behind_line.Goals as goal

pub returns-in-Read-clause-search : goal.returns-in-Read-clause-search
returns-in-Read-clause-search c =
    let slice = take_rest c.args.bytes.now c.args.search.line in
    let read = rw slice at c.in-Read.ensures.line in
    let within = rw slice at c.in-Read.ensures.within in
    line_found c.args.bytes.now c.in-Read.field-0.now c.args.search c.in-Read.used c.requires.searched c.requires.left (sym read) within.1
