use Rattle.ow_schedule.proofs.Offsets.{rule_offsets}
use Rattle.ow_schedule.proofs.zone.offsets_of.Goals as goal

pub returns-in-Posix : goal.returns-in-Posix
returns-in-Posix c = rw (← c.to_plain.ensures, c.in-Posix.is, c.from_plain.ensures, c.from_plain-in-Posix.ensures, c.daylight_offset.ensures) (rule_offsets c.in-Posix.rule)
