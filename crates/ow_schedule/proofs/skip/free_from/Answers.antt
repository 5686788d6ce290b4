use Rattle.jiff.specs.Words.{plain_zone}
use Rattle.ow_schedule.specs.Due.{IsCronDue}
use Rattle.ow_schedule.proofs.Skipped.{one_free}
use Rattle.ow_schedule.proofs.skip.free_from.Goals as goal

pub returns-then-is_cron_due-clause-due : goal.returns-then-is_cron_due-clause-due
returns-then-is_cron_due-clause-due c = λ e. c.is_cron_due.ensures.0 c.if-is_cron_due.true

pub returns-else-is_cron_due-clause-free : goal.returns-else-is_cron_due-clause-free
returns-else-is_cron_due-clause-free c =
    let due = IsCronDue c.args.fields.now (plain_zone c.args.zone.now) c.args.from c.args.at in
    let not : ¬ due = λ d. (let t = c.is_cron_due.ensures.1 d in cc) in
    one_free c.args.fields.now (plain_zone c.args.zone.now) c.args.from c.args.at c.requires.minute not

pub returns-then-missed-gt0-clause-free : goal.returns-then-missed-gt0-clause-free
returns-then-missed-gt0-clause-free c = c.missed-missed.ensures.free c.args.from
