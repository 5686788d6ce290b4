use Rattle.ow_schedule.proofs.Moments.{shows_one}
use Rattle.ow_schedule.proofs.laws.an_instant_has_one_civil_time.Goals as goal

pub returns : goal.returns
returns c = shows_one
