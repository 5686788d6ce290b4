use Rattle.jiff.specs.Words.{plain_zone}
use Rattle.ow_schedule.proofs.Offsets.{reads_rule}
use Rattle.ow_schedule.proofs.zone.read_zone.Goals as goal

pub returns-in-Ok : goal.returns-in-Ok
returns-in-Ok c = reads_rule c.args.text.now (plain_zone c.in-Ok.zone) c.in-Ok.ensures.value
