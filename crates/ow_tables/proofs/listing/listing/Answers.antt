use Rattle.std.proofs.Common.{◌≡◌, ◌-◌, List, take, drop, length, map, IfOk, subst}
use Rattle.std.proofs.lemmas.List.{take_rest}
use Rattle.ow_entity.specs.declared.rows.Row.{Row}
use Rattle.ow_entity.specs.Written.{summary_value}
use Rattle.ow_tables.proofs.RegionLaws.{cut}
use Rattle.ow_tables.proofs.listing.listing.Goals as goal

pub returns : goal.returns
returns c =
    let part = c.part-part.result.now in
    let first = c.min-first.result in
    let shown = cut part (take (length part - first) (drop first part)) _ first c.min-many.result c.args.skip c.args.limit
    c.part-part.ensures (take_rest part first) c.min-first.ensures c.min-many.ensures in
    subst (λ (rows : List Row). IfOk c.summaries.result (λ vs. vs ≡ map summary_value rows)) shown c.summaries.ensures
