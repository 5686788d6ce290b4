use Rattle.std.proofs.Common.{[], List, subst, sym}
use Rattle.ow_floor.specs.declared.moves.Moved.{Moved}
use Rattle.ow_floor.proofs.Results.{on_ok}
use Rattle.ow_decide.specs.Firing.{shot_items}
use Rattle.ow_decide.specs.Making.{IsUnderway}
use Rattle.ow_decide.proofs.FireLaws.{next_seen, nothing_made}
use Rattle.ow_decide.proofs.MadeLaws.{shot_own, shot_right}
use Rattle.ow_decide.proofs.Results.{if_ok_map}
use Rattle.ow_decide.proofs.fire_steps.made_shot.Goals as goal

pub returns-in-Ok-clause-made : goal.returns-in-Ok-clause-made
returns-in-Ok-clause-made c = if_ok_map c.made_of.result _ _ (λ m h S seen.
    h S (shot_items S c.args.fire c.args.rules) seen.keeping seen.stands.sound
    (shot_right S c.args.fire c.args.rules (next_seen c.args.floor.now.now S.trace c.args.fire.id seen.stands c.requires.next) seen.stands.sound)
    (shot_own S c.args.fire c.args.rules)
    (c.in-Ok.ensures.moved S (subst (λ (ms : List Moved). IsUnderway S [] c.args.tenants.now c.args.tables.now.rows c.args.counts.now c.args.now c.args.floor.now.now ms) (sym c.new-moves.ensures)
    (nothing_made S c.args.tenants.now c.args.tables.now.rows c.args.counts.now c.args.keeping.now c.args.floor.now.now c.args.now seen)))) c.made_of.ensures.made

pub returns-in-Ok-clause-ok : goal.returns-in-Ok-clause-ok
returns-in-Ok-clause-ok c = on_ok c.made_of.result _ (λ S seen.
    c.in-Ok.ensures.ok S (subst (λ (ms : List Moved). IsUnderway S [] c.args.tenants.now c.args.tables.now.rows c.args.counts.now c.args.now c.args.floor.now.now ms) (sym c.new-moves.ensures)
    (nothing_made S c.args.tenants.now c.args.tables.now.rows c.args.counts.now c.args.keeping.now c.args.floor.now.now c.args.now seen)))
