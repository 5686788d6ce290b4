use Rattle.std.proofs.Common.{◌-◌, ◌++◌, length, map, take, ap, ◌∙◌}
use Rattle.std.specs.Prelude.{reverse}
use Rattle.ow_value.specs.View.{views}
use Rattle.ow_records.specs.Written.{summary_value}
use Rattle.ow_records.proofs.Regions.{last_first, shown_more}
use Rattle.ow_records.proofs.listing.summaries.Goals as goal

pub loop-rest-preserved : goal.loop-rest-preserved
loop-rest-preserved c =
    let rest = c.loop-rest.rest.now in
    let shown = c.loop-rest.shown.items in
    let last = c.last-item.result in
    let turned = last_first rest last c.in-len1-up.len_at_least c.last-item.is in
    c.loop-rest.invariant ∙ ap (λ zs. views shown ++ map summary_value zs) turned
    ∙ shown_more shown c.push.new.self.items c.in_ok-write_summary.field-0 (summary_value last) (map summary_value (reverse (take (length rest - 1) rest)))
    c.in_ok-push.ensures.items (c.in_ok-write_summary.ensures ∙ ap summary_value c.get.ensures)
