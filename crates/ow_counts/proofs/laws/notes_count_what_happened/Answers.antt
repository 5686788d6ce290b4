use Rattle.ow_counts.proofs.Noting.{concurrent_noted, ended_were_invoked, fires_noted, minute_noted}
use Rattle.ow_counts.proofs.laws.notes_count_what_happened.Goals as goal

pub returns-clause-minute : goal.returns-clause-minute
returns-clause-minute c = minute_noted

pub returns-clause-concurrent : goal.returns-clause-concurrent
returns-clause-concurrent c = concurrent_noted

pub returns-clause-ended : goal.returns-clause-ended
returns-clause-ended c = ended_were_invoked

pub returns-clause-fires : goal.returns-clause-fires
returns-clause-fires c = fires_noted
