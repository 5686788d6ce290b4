use Rattle.std.proofs.Common.{sym, subst}
use Rattle.ow_decide.specs.Decisions.{decide}
use Rattle.ow_decide.specs.Making.{Makes}
use Rattle.ow_decide.specs.declared.events.Event.TheVariants as events
use Rattle.ow_decide.specs.declared.step.Step.{Step}
use Rattle.ow_decide.proofs.FloorLaws.{next_makes}
use Rattle.ow_decide.proofs.MadeLaws.{next_quiet}
use Rattle.ow_decide.proofs.floor_steps.next.Goals as goal

pub returns-clause-ok : goal.returns-clause-ok
returns-clause-ok c = λ t rs k b. subst (λ (s : Step). Makes t rs k b c.args.now c.args.floor.now.now c.next.new.self.now (λ S. decide S events.Next) s) (sym c.telling.ensures)
    (next_makes t rs k b c.args.floor.now.now c.next.new.self.now c.args.now c.in_ok-order.order next_quiet c.in_ok-order.ensures.told c.in_ok-order.ensures.ok)
