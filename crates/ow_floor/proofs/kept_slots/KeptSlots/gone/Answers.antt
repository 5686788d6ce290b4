use Rattle.std.proofs.Common.{◌≡◌, subst}
use Rattle.std.specs.Prelude.{OnErr}
use Rattle.ow_floor.specs.Undoable.{SlotsView}
use Rattle.ow_floor.proofs.Refusing.{kept_gone}
use Rattle.ow_floor.proofs.kept_slots.KeptSlots.gone.Goals as goal

pub returns-clause-err : goal.returns-clause-err
returns-clause-err c =
    subst (λ (v : SlotsView). OnErr c.gone.result (c.gone.new.self ≡ v.now)) c.self.view_is
    (kept_gone c.args.slot c.args.generation c.self.inside.slots c.gone.new.self c.gone.result c.gone.ensures.answer c.gone.ensures.slots)
