use Rattle.std.proofs.Common.{◌∙◌, sym}
use Rattle.ow_floor.proofs.Results.{sure}
use Rattle.ow_decide.proofs.FloorLaws.{reopened_makes}
use Rattle.ow_decide.proofs.Results.{if_ok_map}
use Rattle.ow_decide.proofs.floor_steps.reopen.Goals as goal

pub returns-clause-ok : goal.returns-clause-ok
returns-clause-ok c = if_ok_map c.reopened_step.result _ _ (λ s step t rs k.
    reopened_makes t rs k c.args.keeping.now c.args.now c.args.floor.now.now c.abandon_into.new.self.now c.new-moves.result c.abandon_into.new.moves s step c.new-moves.ensures
    (sure c.abandon_into.result _ c.abandon_into.ensures.moved (sym c.if-is_err.false ∙ c.is_err.ensures.value))
    (sure c.abandon_into.result _ c.abandon_into.ensures.ok (sym c.if-is_err.false ∙ c.is_err.ensures.value))) c.reopened_step.ensures
