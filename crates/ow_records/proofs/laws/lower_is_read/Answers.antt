use Rattle.ow_records.proofs.LowerIds.{lower_read}
use Rattle.ow_records.proofs.laws.lower_is_read.Goals as goal

pub returns : goal.returns
returns c = lower_read
