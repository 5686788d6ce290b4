use Rattle.std.proofs.Common.{◌≡◌, subst}
use Rattle.std.specs.Prelude.{OnErr}
use Rattle.ow_slots.specs.State.{awaits, begun_state, with_state}
use Rattle.ow_floor.specs.Undoable.{SlotsView}
use Rattle.ow_floor.proofs.Refusing.{kept_first}
use Rattle.ow_floor.proofs.kept_slots.KeptSlots.begun.Goals as goal

pub returns-clause-err : goal.returns-clause-err
returns-clause-err c =
    subst (λ (v : SlotsView). OnErr c.begun.result (c.begun.new.self ≡ v.now)) c.self.view_is
    (kept_first (awaits c.args.run) (with_state (begun_state c.args.at)) (λ s. tt) c.args.run c.self.inside.slots c.begun.new.self c.begun.result c.begun.ensures.answer c.begun.ensures.slots)
