use Rattle.ow_floor.proofs.Soundness.{runs_once}
use Rattle.ow_floor.proofs.laws.activations_run_once.Goals as goal

pub returns : goal.returns
returns c = runs_once
