use Rattle.std.proofs.Common.{◌≡◌, refl, arith}
use Rattle.std.proofs.lemmas.Grind.{common_steps}
use Rattle.ow_entity.specs.declared.bounds.Limits.{Limits}
use Rattle.ow_records.specs.Outcome.{outcome}
use Rattle.ow_records.specs.declared.outcomes.Ending.TheVariants.{Abandoned}
use Rattle.ow_hall.proofs.opening.abandoned_told.Goals as goal

three : (l : Limits) → (outcome Abandoned l).code ≡ 3
unfolding outcome
three l = refl

pub loop-activation-preserved : goal.loop-activation-preserved
loop-activation-preserved c = grind (arith, common_steps, three)
