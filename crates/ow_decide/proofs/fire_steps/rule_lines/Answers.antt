use Rattle.std.proofs.Common.{◌≡◌, ◌≤◌, ◌<◌, ◌∙◌, ℕ, List, arith, get_or, length, refl, subst, sym}
use Rattle.ow_entity.specs.declared.rules.Rule.{Rule}
use Rattle.ow_floor.proofs.Results.{on_ok}
use Rattle.ow_decide.proofs.FireLaws.{ReachesFrom, reach_first, reach_last, reach_next}
use Rattle.ow_decide.proofs.Results.{if_ok_map}
use Rattle.ow_decide.proofs.fire_steps.rule_lines.Goals as goal

pub loop-rule-init : goal.loop-rule-init
loop-rule-init c = record {
  reaches =
      subst (λ (lines : List (List ℕ)). ReachesFrom c.args.fire.now c.args.rules.now c.args.rules.now c.args.tenants.now c.args.tables.now.rows c.args.counts.now c.args.now c.args.floor.now.now c.args.moves.now c.args.floor.now.now c.args.moves.now lines)
      (sym c.new-lines.ensures.items) (reach_first c.args.fire.now c.args.rules.now c.args.tenants.now c.args.tables.now.rows c.args.counts.now c.args.now c.args.floor.now.now c.args.moves.now);
  firing = refl;
  before = refl;
}

pub loop-rule-preserved : goal.loop-rule-preserved
loop-rule-preserved c = record {
  reaches = reach_next c.args.fire.now c.args.rules.now c.loop-rule.rule-index c.get-rule.result.now c.rule-item.result _ _ _ _ _ _ _ _ _ _ _ _
      (subst (λ (xs : List Rule). c.loop-rule.rule-index < length xs) c.as_slice-rule-items.ensures c.loop-rule-test.true) c.get-rule.ensures
      (subst (λ (xs : List Rule). c.rule-item.result ≡ get_or xs c.loop-rule.rule-index c.rule-item.result) c.as_slice-rule-items.ensures c.rule-item.is)
      c.loop-rule.invariant.reaches c.in_ok-take_rule.ensures.ok c.in_ok-take_rule.ensures.line;
  firing = c.in_ok-take_rule.ensures.firing ∙ c.loop-rule.invariant.firing;
  before = c.take_rule.ensures.before ∙ c.loop-rule.invariant.before;
}

pub returns-clause-ok : goal.returns-clause-ok
returns-clause-ok c =
    let past : length c.as_slice-rule-items.result.now ≤ c.loop-rule.rule-index = omega arith in
    on_ok c.from_vec.result _ (λ S items u. (reach_last c.args.fire.now c.args.rules.now c.loop-rule.rule-index c.args.tenants.now c.args.tables.now.rows c.args.counts.now c.args.now c.args.floor.now.now c.loop-rule.floor.now c.args.moves.now c.loop-rule.moves c.loop-rule.lines.items
    (subst (λ (xs : List Rule). length xs ≤ c.loop-rule.rule-index) c.as_slice-rule-items.ensures past) c.loop-rule.invariant.reaches S items u).0)

pub returns-clause-lines : goal.returns-clause-lines
returns-clause-lines c =
    let past : length c.as_slice-rule-items.result.now ≤ c.loop-rule.rule-index = omega arith in
    if_ok_map c.from_vec.result _ _ (λ ls is S items u. is ∙ (reach_last c.args.fire.now c.args.rules.now c.loop-rule.rule-index c.args.tenants.now c.args.tables.now.rows c.args.counts.now c.args.now c.args.floor.now.now c.loop-rule.floor.now c.args.moves.now
    c.loop-rule.moves c.loop-rule.lines.items (subst (λ (xs : List Rule). length xs ≤ c.loop-rule.rule-index) c.as_slice-rule-items.ensures past) c.loop-rule.invariant.reaches S items u).1) c.from_vec.ensures
