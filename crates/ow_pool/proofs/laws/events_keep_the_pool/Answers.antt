use Rattle.ow_pool.proofs.EventLaws.{events_keep}
use Rattle.ow_pool.proofs.laws.events_keep_the_pool.Goals as goal

pub returns : goal.returns
returns c = events_keep
