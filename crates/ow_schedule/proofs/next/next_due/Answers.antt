use Rattle.ow_schedule.proofs.next.next_due.Goals as goal

pub returns-in-Every : goal.returns-in-Every
returns-in-Every c = rw c.in-Every.is c.next_of_period.ensures

pub returns-in-Cron : goal.returns-in-Cron
returns-in-Cron c = rw c.in-Cron.is c.next_of_cron.ensures
