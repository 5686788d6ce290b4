use Rattle.std.proofs.Common.{◌++◌, ◌∷◌, [], List, Result, ap, subst, sym, ◌∙◌}
use Rattle.ow_floor.proofs.Results.{on_more, on_ok}
use Rattle.ow_floor.specs.declared.activations.Plan.{Plan}
use Rattle.ow_floor.specs.declared.moves.Moved.{Moved}
use Rattle.ow_http.specs.declared.reason.Reason.{Reason}
use Rattle.ow_decide.specs.Firing.{rule_line}
use Rattle.ow_decide.specs.Making.{IsUnderway}
use Rattle.ow_decide.proofs.FireLaws.{rule_left, rule_made}
use Rattle.ow_decide.proofs.Results.{on_both}
use Rattle.ow_decide.proofs.rule_steps.take_rule.Goals as goal

pub returns-in-Ok-clause-ok : goal.returns-in-Ok-clause-ok
returns-in-Ok-clause-ok c = on_both c.accept_rule.result _ _ _ (λ grows noted S items u.
    rule_made S items c.args.tenants.now c.args.tables.now.rows c.args.counts.now c.args.now c.args.floor.now.now c.accept_rule.new.floor.now c.args.moves.now c.accept_rule.new.moves c.args.fire.now c.args.rule.now c.in-Ok.plan
    grows noted (sym c.in-Ok.is ∙ c.in_ok-plan.ensures.plan S items
    (subst (λ (ms : List Moved). IsUnderway S items c.args.tenants.now c.args.tables.now.rows c.args.counts.now c.args.now c.args.floor.now.now ms) (sym c.items.ensures) u)) u)
    c.accept_rule.ensures.ok c.accept_rule.ensures.moved

pub returns-in-Ok-clause-line : goal.returns-in-Ok-clause-line
returns-in-Ok-clause-line c = on_more c.accept_rule.result _ _ (λ line S items u.
    line ∙ ap (λ (p : Result Plan Reason). c.args.lines.now.items ++ rule_line c.args.rule.now p ∷ []) (sym c.in-Ok.is ∙ c.in_ok-plan.ensures.plan S items
    (subst (λ (ms : List Moved). IsUnderway S items c.args.tenants.now c.args.tables.now.rows c.args.counts.now c.args.now c.args.floor.now.now ms) (sym c.items.ensures) u)))
    c.accept_rule.ensures.line

pub returns-in-Err-clause-ok : goal.returns-in-Err-clause-ok
returns-in-Err-clause-ok c = on_ok c.refuse_rule.result _ (λ S items u.
    rule_left S items c.args.tenants.now c.args.tables.now.rows c.args.counts.now c.args.now c.args.floor.now.now c.args.moves.now c.args.fire.now c.args.rule.now c.in-Err.reason
    (sym c.in-Err.is ∙ c.in_ok-plan.ensures.plan S items
    (subst (λ (ms : List Moved). IsUnderway S items c.args.tenants.now c.args.tables.now.rows c.args.counts.now c.args.now c.args.floor.now.now ms) (sym c.items.ensures) u)) u)

pub returns-in-Err-clause-line : goal.returns-in-Err-clause-line
returns-in-Err-clause-line c = on_more c.refuse_rule.result _ _ (λ line S items u.
    line ∙ ap (λ (p : Result Plan Reason). c.args.lines.now.items ++ rule_line c.args.rule.now p ∷ []) (sym c.in-Err.is ∙ c.in_ok-plan.ensures.plan S items
    (subst (λ (ms : List Moved). IsUnderway S items c.args.tenants.now c.args.tables.now.rows c.args.counts.now c.args.now c.args.floor.now.now ms) (sym c.items.ensures) u)))
    c.refuse_rule.ensures
