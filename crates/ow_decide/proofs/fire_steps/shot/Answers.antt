use Rattle.std.proofs.Common.{◌≡◌, ◌∙◌, ℕ, Ok, Err, subst}
use Rattle.ow_decide.specs.Making.{admits_made}
use Rattle.ow_decide.proofs.FireLaws.{back_to, fired_makes, refused_makes}
use Rattle.ow_decide.proofs.fire_steps.shot.Goals as goal

pub returns-in-Ok-clause-ok : goal.returns-in-Ok-clause-ok
returns-in-Ok-clause-ok c =
    fired_makes c.args.tenants.now c.args.tables.now.rows c.args.counts.now c.args.keeping.now c.args.now c.args.floor.now.now c.made_shot.new.floor.now c.args.fire c.args.rules c.in_ok-made.made c.within_fires-limit.result c.fired_step.result
    c.in_ok-made.ensures.made c.in_ok-made.ensures.ok (λ S seen. c.within_fires-limit.ensures S seen.tenants seen.moment seen.counts)
    (subst (λ (n : ℕ). Ok tt ≡ admits_made n c.within_fires-limit.result) c.bytes.ensures c.in-Ok.ensures) c.fired_step.ensures

pub returns-in-Err-clause-ok : goal.returns-in-Err-clause-ok
returns-in-Err-clause-ok c =
    refused_makes c.args.tenants.now c.args.tables.now.rows c.args.counts.now c.args.keeping.now c.args.now c.args.floor.now.now c.back.new.self.now c.args.fire c.args.rules c.in_ok-made.made c.within_fires-limit.result c.in-Err.reason c.step.result
    c.in_ok-made.ensures.made (back_to _ c.args.floor.now.now c.back.new.self.now (c.made_shot.ensures.before ∙ c.requires.held) c.back.ensures.now)
    (λ S seen. c.within_fires-limit.ensures S seen.tenants seen.moment seen.counts) (subst (λ (n : ℕ). Err c.in-Err.reason ≡ admits_made n c.within_fires-limit.result) c.bytes.ensures c.in-Err.ensures) c.step.ensures.ok
