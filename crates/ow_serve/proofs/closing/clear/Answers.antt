use Rattle.std.proofs.Common.{◌∙◌, refl}
use Rattle.ow_serve.proofs.closing.clear.Goals as goal

pub loop-i-init : goal.loop-i-init
loop-i-init g c = record { pass = c.requires; ran = refl }

pub loop-i-preserved : goal.loop-i-preserved
loop-i-preserved g c = record { pass = c.clear_slot.ensures.pass; ran = c.clear_slot.ensures.ran ∙ c.loop-i.invariant.ran }
