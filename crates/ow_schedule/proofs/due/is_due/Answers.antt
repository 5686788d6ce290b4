use Rattle.ow_schedule.proofs.due.is_due.Goals as goal

pub returns-in-Cron : goal.returns-in-Cron
returns-in-Cron c = rw c.in-Cron.is c.is_cron_due.ensures
