use Rattle.std.proofs.Common.{◌≡◌, ◌≤◌, ◌-◌, ◌%◌}
use Rattle.jiff.specs.Words.{plain_zone}
use Rattle.ow_schedule.specs.Due.{IsCronDue}
use Rattle.ow_schedule.specs.Next.{NoneBelow}
use Rattle.ow_schedule.proofs.skip.next_of_cron.Given as goal

abbrev pub invariant-minutes : goal.invariant-minutes
invariant-minutes l =
    (l.at % 60000 ≡ 0) × (l.since ≤ l.at) × (l.at ≤ 253402214400000)
    × NoneBelow (IsCronDue l.fields (plain_zone l.zone) l.from) l.since l.at

abbrev pub decreases-minutes : goal.decreases-minutes
decreases-minutes l = 253402214400001 - l.at
