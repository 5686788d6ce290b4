use Rattle.std.proofs.Common.{◌≡◌, drop}
use Rattle.ow_decide.proofs.FireLaws.{ReachesFrom}
use Rattle.ow_decide.proofs.fire_steps.rule_lines.Given as goal

-- the rules that are left go on from what was made so far
abbrev pub invariant-loop-rule : goal.invariant-loop-rule
invariant-loop-rule l = record {
  reaches : ReachesFrom l.fire l.rules (drop l.rule-index l.rules) l.tenants l.tables.rows l.counts l.now l.initial.floor.now l.initial.moves l.floor.now l.moves l.lines.items;
  firing : l.floor.now.firing ≡ l.initial.floor.now.firing;
  before : l.floor.before ≡ l.initial.floor.before;
}
