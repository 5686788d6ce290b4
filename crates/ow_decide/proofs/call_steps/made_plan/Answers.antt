use Rattle.ow_floor.proofs.Results.{on_ok, sure}
use Rattle.std.proofs.Common.{◌∙◌, sym}
use Rattle.ow_decide.specs.Calling.{plan_items}
use Rattle.ow_decide.proofs.FireLaws.{next_seen}
use Rattle.ow_decide.proofs.MadeLaws.{plan_own, plan_right}
use Rattle.ow_decide.proofs.PlanLaws.{plan_moved, plan_stands}
use Rattle.ow_decide.proofs.Results.{if_ok_map}
use Rattle.ow_decide.proofs.call_steps.made_plan.Goals as goal

pub returns-clause-made : goal.returns-clause-made
returns-clause-made c = if_ok_map c.made_of.result _ _ (λ m h S t k seen.
    h S (plan_items S c.args.plan) seen.keeping seen.stands.sound
    (plan_right S c.args.plan (next_seen c.args.floor.now.now S.trace c.args.plan.id seen.stands c.requires.next) seen.stands.sound) (plan_own S c.args.plan)
    (plan_moved S c.args.plan c.args.tables.now.rows c.args.now.at c.new-moves.result c.accept.new.moves seen.rows seen.moment c.new-moves.ensures
    (sure c.accept.result _ c.accept.ensures.moved (sym c.if-is_err.false ∙ c.is_err.ensures.value) S.trace seen.stands))) c.made_of.ensures.made

pub returns-clause-ok : goal.returns-clause-ok
returns-clause-ok c = on_ok c.made_of.result _ (λ S t k seen.
    plan_stands S c.args.plan c.args.tables.now.rows c.args.now.at c.accept.new.floor.now seen.rows seen.moment
    (sure c.accept.result _ c.accept.ensures.ok (sym c.if-is_err.false ∙ c.is_err.ensures.value) S.trace seen.stands))
