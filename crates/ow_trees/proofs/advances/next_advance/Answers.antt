use Rattle.std.proofs.Common.{◌∙◌, ap}
use Rattle.ow_floor.proofs.Results.{if_more}
use Rattle.ow_trees.specs.Advance.{used_by}
use Rattle.ow_trees.proofs.Following.{advance_closed, advance_found, advance_unframed}
use Rattle.ow_trees.proofs.advances.next_advance.Goals as goal

pub returns-in_default : goal.returns-in_default
returns-in_default g c = advance_closed (g.L.Lookup.found c.args.rows.now) c.args.floor.now.now c.args.id c.in_default.ensures.value

pub returns-in_default-framed : goal.returns-in_default-framed
returns-in_default-framed g c = advance_unframed (g.L.Lookup.found c.args.rows.now) c.args.floor.now.now c.args.id c.in_default-framed.ensures.value

pub returns : goal.returns
returns g c = if_more c.composite_advance.result _ _ (λ a is. is ∙ advance_found (g.L.Lookup.found c.args.rows.now) c.args.floor.now.now c.args.id c.in-Some-next_id.next c.in-Some.composite.now c.used_by-used.result c.in-Some-framed.frame.now
    c.in-Some.ensures.value c.in-Some-framed.ensures.value c.in-Some-next_id.ensures (c.used_by-used.ensures ∙ ap used_by c.framed-top.ensures.value)) c.composite_advance.ensures
