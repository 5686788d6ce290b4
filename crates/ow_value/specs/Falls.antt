-- Each list and object is nested deeper than its children.
use Rattle.std.specs.Prelude.{◌≤◌, List, [], ◌∷◌}
use Rattle.std.proofs.Common.{arith}
use denote.Param.Weighed.{most}
use Rattle.ow_value.specs.declared.val.Val.{Val}
use Rattle.ow_value.specs.declared.val.Val.TheVariants.{Null, Bool, Int, Text, List as ListOf, Object}
use Rattle.ow_value.specs.declared.val.Pair.{Pair}
use Rattle.ow_value.specs.declared.val.Params.TheDeep.{deep-Val, deep-Pair}
use Rattle.ow_value.specs.declared.val.Params.TheShapes.{weighed-Vals-items, weighed-Params-pairs}
use Rattle.std.specs.declared.option.Option.{Option}
use Rattle.std.specs.declared.option.Option.TheVariants.{None, Some}
use Rattle.std.specs.declared.sync.Arc.{Arc}
use Rattle.std.specs.declared.vec.Vec.{Vec}
use Rattle.std.proofs.Common.{Global}
use Rattle.ow_value.specs.Shared.{shared}
use Rattle.ow_value.specs.Value.{depth, items_depth, members_depth, items_of, members_of}
use Rattle.ow_value.specs.View.{view, views, pair_views}

deep_le-depth : (v : Val) → deep-Val v ≤ depth (view v)
deep_le-depth Null = omega arith
deep_le-depth (Bool b) = omega arith
deep_le-depth (Int z) = omega arith
deep_le-depth (Text s) = omega arith
deep_le-depth (ListOf vs) = omega arith
deep_le-depth (Object ps) = omega arith

most_le-items : (vs : List Val) → most (λ v. deep-Val v) vs ≤ items_depth (items_of (views vs))
most_le-items [] = omega arith
most_le-items (v ∷ vs) = omega (arith, deep_le-depth v, most_le-items vs)

most_le-members : (ps : List Pair) → most (λ p. deep-Pair p) ps ≤ members_depth (members_of (pair_views ps))
most_le-members [] = omega arith
most_le-members (p ∷ ps) = omega (arith, deep_le-depth p.value, most_le-members ps)

pub weight_le-items : (o : Option (Arc (Vec Val Global) Global)) → weighed-Vals-items.weight Val deep-Val o ≤ items_depth (items_of (views (shared o)))
weight_le-items None = omega arith
weight_le-items (Some it) = omega (arith, most_le-items it.value.items)

pub weight_le-members : (o : Option (Arc (Vec Pair Global) Global)) → weighed-Params-pairs.weight Pair deep-Pair o ≤ members_depth (members_of (pair_views (shared o)))
weight_le-members None = omega arith
weight_le-members (Some it) = omega (arith, most_le-members it.value.items)
