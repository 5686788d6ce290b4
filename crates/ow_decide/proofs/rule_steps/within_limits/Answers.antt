use Rattle.std.proofs.Common.{◌∙◌, Err, ap, sym}
use Rattle.ow_decide.specs.Sight.{or_limit}
use Rattle.ow_decide.proofs.RuleLaws.{within_after}
use Rattle.ow_decide.proofs.rule_steps.within_limits.Goals as goal

pub returns-in-Ok : goal.returns-in-Ok
returns-in-Ok c = λ S items rs v now same u.
    ap or_limit (sym c.in-Ok.is) ∙ within_after S items c.args.tenants.now rs c.args.counts.now now v c.args.moves.now c.args.namespace.now c.args.at _ _ same u c.limits_of.ensures c.in_ok-admit_after.ensures

pub returns-in-Err : goal.returns-in-Err
returns-in-Err c = λ S items rs v now same u.
    ap Err c.limit_reason.ensures ∙ (ap or_limit (sym c.in-Err.is) ∙ within_after S items c.args.tenants.now rs c.args.counts.now now v c.args.moves.now c.args.namespace.now c.args.at _ _ same u c.limits_of.ensures c.in_ok-admit_after.ensures)
