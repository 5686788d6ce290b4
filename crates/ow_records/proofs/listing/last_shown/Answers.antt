use Rattle.std.proofs.Common.{◌≡◌, ◌-◌, List, take, length, map, IfOk, refl, ap, ◌∙◌, subst}
use Rattle.std.specs.Prelude.{reverse}
use Rattle.std.proofs.lemmas.List.{take_rest}
use Rattle.ow_records.specs.declared.record.Record.{Record}
use Rattle.ow_records.specs.Written.{summary_value}
use Rattle.ow_records.proofs.Regions.{last_shown}
use Rattle.ow_records.proofs.listing.last_shown.Goals as goal

pub returns : goal.returns
returns c =
    let all = c.args.records.now in
    let rest = take (length all - c.min-first.result) all in
    let shown = last_shown all rest c.min-first.result c.min-many.result c.args.skip c.args.limit refl c.min-first.ensures c.min-many.ensures in
    subst (λ (rs : List Record). IfOk c.summaries.result (λ vs. vs ≡ map summary_value rs))
    (ap reverse (take_rest rest (length rest - c.min-many.result)) ∙ shown) c.summaries.ensures
