use Rattle.std.proofs.Common.{◌≡◌, subst}
use Rattle.std.specs.Prelude.{OnErr}
use Rattle.ow_slots.specs.State.{holds, lost_state, recorded_of, with_state}
use Rattle.ow_floor.specs.Undoable.{SlotsView}
use Rattle.ow_floor.proofs.Refusing.{kept_first}
use Rattle.ow_floor.proofs.kept_slots.KeptSlots.lost.Goals as goal

pub returns-clause-err : goal.returns-clause-err
returns-clause-err c =
    subst (λ (v : SlotsView). OnErr c.lost.result (c.lost.new.self ≡ v.now)) c.self.view_is
    (kept_first (holds c.args.run) (with_state lost_state) (λ s. recorded_of s.state) c.args.run c.self.inside.slots c.lost.new.self c.lost.result c.lost.ensures.answer c.lost.ensures.slots)
