use Rattle.std.proofs.Common.{ap, ◌∙◌, arith}
use Rattle.ow_records.specs.declared.record.Record.{Record}
use Rattle.ow_records.proofs.DueLaws.{from_first}
use Rattle.ow_records.proofs.retiring.least_end.Goals as goal

pub loop-rest-preserved : goal.loop-rest-preserved
loop-rest-preserved c moment le from =
    let ends = c.end.ensures.value ∙ ap (λ (r : Record). r.span.end) c.get.ensures in
    c.loop-rest.invariant moment (omega (arith, c.min-least.ensures, le))
    (from_first moment c.loop-rest.rest.now c.kept-item.result c.in-len1-up.len_at_least c.kept-item.is (omega (arith, c.min-least.ensures, le, ends)) from)
