use Rattle.ow_value.specs.Field.{pairs_in-members_of}
use Rattle.ow_schedule.proofs.read.read_schedule.Goals as goal

pub returns-in-Object : goal.returns-in-Object
returns-in-Object c = rw (c.in-Object.is, pairs_in-members_of c.in-Object.members) c.read_members.ensures
