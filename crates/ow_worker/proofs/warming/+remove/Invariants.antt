use Rattle.std.specs.Prelude.{length}
use Rattle.ow_worker.proofs.warming.+remove.Given as goal

abbrev pub decreases-remove : goal.decreases-remove
decreases-remove g l = length l.containers.now
