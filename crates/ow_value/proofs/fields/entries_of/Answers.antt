use Rattle.std.proofs.Common.{ap, ◌∙◌, take}
use Rattle.ow_value.specs.Find.{with_pair}
use Rattle.ow_value.specs.View.{view, pair_views}
use Rattle.ow_value.specs.declared.val.Pair.{Pair}
use Rattle.ow_value.proofs.Finding.{with_next}
use Rattle.ow_value.proofs.fields.entries_of.Goals as goal

pub loop-pair-preserved : goal.loop-pair-preserved
loop-pair-preserved c =
    let l = c.loop-pair in
    let again = c.in_ok-again.again in
    c.in_ok-put_entry.ensures.ok ∙ ap (λ ps. with_pair ps again.name (view again.value)) l.invariant
    ∙ ap (λ (p : Pair). with_pair (pair_views (take l.pair-index c.args.pairs.now)) p.name (view p.value)) c.in_ok-again.ensures
    ∙ with_next c.args.pairs.now l.pair-index c.pair-item.result c.requires c.loop-pair-test.true c.pair-item.is
