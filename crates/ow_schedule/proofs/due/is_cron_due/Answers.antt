use Rattle.ow_schedule.proofs.Moments.{cron_due_fits}
use Rattle.ow_schedule.proofs.due.is_cron_due.Goals as goal

pub returns-then-from-at : goal.returns-then-from-at
returns-then-from-at c =
    rw c.fits.ensures (
      λ t. record {
        minute = c.if-at-eq0.true;
        early = c.if-at-lt-LAST_CRON.true;
        begun = c.if-from-at.true;
        shown = (c.civil_at.result, c.civil_at.ensures, t);
      },
      λ due. cron_due_fits _ _ _ _ c.civil_at.result c.civil_at.ensures due,
    )
