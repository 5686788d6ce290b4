use Rattle.std.proofs.Common.{refl}
use Rattle.ow_drill.specs.Drill.{moment_of, number_of}
use Rattle.ow_drill.proofs.laws.a_drill_is_worked.Goals as goal

pub returns : goal.returns
unfolding moment_of number_of
returns c = refl
