use Rattle.ow_names.proofs.PathLaws.{four_cuts}
use Rattle.ow_names.proofs.paths.cut.Goals as goal

pub returns-in-Some-first_part-3 : goal.returns-in-Some-first_part-3
returns-in-Some-first_part-3 c =
    four_cuts c.args.text.now c.in-Some.rest.now c.in-Some-first_part.rest.now c.in-Some-first_part-2.rest.now c.in-Some-first_part-3.field-0.1.now
    _ _ _ _ c.in-Some.ensures c.in-Some-first_part.ensures c.in-Some-first_part-2.ensures c.in-Some-first_part-3.ensures
