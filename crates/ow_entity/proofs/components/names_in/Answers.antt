use Rattle.std.proofs.Common.{◌+◌, ◌++◌, ◌∷◌, drop, sym, ap, ◌∙◌}
use Rattle.std.proofs.lemmas.List.{at_drop_more}
use Rattle.ow_value.specs.Value.{items_of}
use Rattle.ow_value.specs.View.{view, views}
use Rattle.ow_entity.specs.Body.{name_in, names_in}
use Rattle.ow_entity.specs.Chain.{and_then, result_map}
use Rattle.ow_entity.proofs.ComponentLaws.{put_next}
use Rattle.ow_entity.proofs.components.names_in.Goals as goal

pub loop-item-preserved : goal.loop-item-preserved
loop-item-preserved c =
    let xs = c.items-item-items.result.now in
    let i = c.loop-item.item-index in
    let read = c.loop-item.names.items in
    let here = c.args.home.now in
    let rest = names_in here (items_of (views (drop (i + 1) xs))) in
    ap (λ ms. result_map (λ ns. ms ++ ns) rest) c.in_ok-put_name.ensures
    ∙ (put_next read c.in_ok-name.name rest
    ∙ (sym (ap (λ w. result_map (λ ns. read ++ ns) (and_then w (λ n. result_map (λ ns. n ∷ ns) rest))) (ap (λ v. name_in here (view v)) (sym c.item-item.is) ∙ c.in_ok-name.ensures))
    ∙ (sym (at_drop_more (λ vs. result_map (λ ns. read ++ ns) (names_in here (items_of (views vs)))) xs i c.item-item.result c.loop-item-test.true)
    ∙ c.loop-item.invariant)))
