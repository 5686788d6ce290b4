use Rattle.std.proofs.Common.{◌∙◌, rules, tests}
use Rattle.std.proofs.lemmas.Iterator.{YieldsList-from_slice}
use Rattle.std.proofs.lemmas.Iterator.Consumers.{YieldsList-from_filter, count_from_yields_List}
use Rattle.std.proofs.lemmas.List.Sums.{length-filter}
use Rattle.ow_counts.specs.View.{leaves}
use Rattle.ow_counts.proofs.moves.leaves.Goals as goal

pub returns : goal.returns
returns c =
    count_from_yields_List c.filter.result _ c.count.ensures.ran (YieldsList-from_filter _ leaves (YieldsList-from_slice c.args.moves.now (cc)) c.filter.ensures.closure (λ x r q k. search (rules, tests)))
    ∙ length-filter leaves c.args.moves.now
