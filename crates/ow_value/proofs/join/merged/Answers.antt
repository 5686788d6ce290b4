use Rattle.std.proofs.Common.{◌<◌, ◌≤◌, ◌⊎◌, inl, inr, length, sym, ◌∙◌, arith}
use Rattle.ow_value.proofs.Merging.{less_in_range, greater_in_range, equal_in_range, less_turn, greater_turn, equal_turn, stands, merged}
use Rattle.ow_value.proofs.join.merged.Goals as goal
use Rattle.ow_value.proofs.join.merged.Goals.{then-i-xs, else-i-xs+then-j-ys}

pub merging-preserved-in-Less : goal.merging-preserved-in-Less
merging-preserved-in-Less c =
    let l = c.merging in
    let order = sym c.order_at.ensures ∙ c.in-Less.is in
    let lt = less_in_range c.args.xs.now c.args.ys.now l.i l.j order in
    (omega arith, l.invariant.1, less_turn _ _ c.requires.xs_rise c.requires.ys_rise l.pairs.items c.push.new.self.items l.i l.j c.in_ok-again-in-Less.field-0 _ c.in_ok-push-in-Less.ensures.items l.invariant.2 order (stands c.args.xs.now l.i _ _ c.in_ok-again-in-Less.ensures c.index-xs-i.is))

pub merging-preserved-in-Equal : goal.merging-preserved-in-Equal
merging-preserved-in-Equal c =
    let l = c.merging in
    let order = sym c.order_at.ensures ∙ c.in-Equal.is in
    let more : (l.i < length c.args.xs.now) ⊎ (l.j < length c.args.ys.now) = elim c.if-i-xs.branch [ then-i-xs w ↦ inl w.if-i-xs.true | else-i-xs+then-j-ys w ↦ inr w.if-j-ys.true ] in
    let lt = equal_in_range c.args.xs.now c.args.ys.now l.i l.j more order in
    (omega arith, l.invariant.1, equal_turn _ _ l.pairs.items l.i l.j _ c.requires.xs_rise c.requires.ys_rise lt.0 lt.1 order l.invariant.2)

pub merging-preserved : goal.merging-preserved
merging-preserved c =
    let l = c.merging in
    let order = sym c.order_at.ensures ∙ c.in-Greater.is in
    let lt = greater_in_range c.args.xs.now c.args.ys.now l.i l.j order in
    (l.invariant.0, omega arith, greater_turn _ _ c.requires.xs_rise c.requires.ys_rise l.pairs.items c.push-in-Greater.new.self.items l.i l.j c.in_ok-again-in-Greater.field-0 _ c.in_ok-push-in-Greater.ensures.items l.invariant.2 order (stands c.args.ys.now l.j _ _ c.in_ok-again-in-Greater.ensures c.index-ys-j.is))

pub returns : goal.returns
returns c =
    let l = c.merging in
    let x_end : length c.args.xs.now ≤ l.i = omega arith in
    let y_end : length c.args.ys.now ≤ l.j = omega arith in
    sym (merged c.args.xs.now c.args.ys.now l.pairs.items l.i l.j x_end y_end l.invariant.2)
