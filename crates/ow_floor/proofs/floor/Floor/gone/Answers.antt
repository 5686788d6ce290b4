use Rattle.std.proofs.Common.{refl, subst}
use Rattle.ow_slot_laws.specs.Life as lives
use Rattle.ow_floor.specs.View.{FloorView}
use Rattle.ow_floor.specs.Laws.{Grows}
use Rattle.ow_floor.specs.Calls.{gone_items}
use Rattle.ow_floor.specs.Store.{show}
use Rattle.ow_floor.proofs.Growing.{gone_done, gone_refused, good_done}
use Rattle.ow_floor.proofs.floor.Floor.gone.Goals as goal

pub invariant_of-self-2 : goal.invariant_of-self-2
invariant_of-self-2 c = (
  good_done c.self.inside.lists.now c.go.new.self.now c.args.at (lives.Gone c.args.slot c.args.generation) c.go.result refl c.go.ensures.now c.if-is_err.ensures.value c.self.invariant.0,
  rw c.go.ensures.held tt,
)

pub returns-clause-grows : goal.returns-clause-grows
returns-clause-grows c =
    subst (λ (w : FloorView). Grows w.now (show c.go.new.self.now) (λ T. gone_items c.args.at c.args.slot c.args.generation T)) c.self.view_is
    (gone_done c.self.inside.lists.now c.go.new.self.now c.args.at c.args.slot c.args.generation c.go.result c.go.ensures.answer c.go.ensures.now c.if-is_err.ensures.value)

pub returns-then-is_err-clause-grows : goal.returns-then-is_err-clause-grows
returns-then-is_err-clause-grows c =
    subst (λ (w : FloorView). Grows w.now (show c.go.new.self.now) (λ T. gone_items c.args.at c.args.slot c.args.generation T)) c.self.view_is
    (gone_refused c.self.inside.lists.now c.go.new.self.now c.args.at c.args.slot c.args.generation c.go.result c.go.ensures.answer c.go.ensures.err c.if-is_err.ensures.value)
