use Rattle.std.proofs.Common.{refl}
use Rattle.ow_decide.specs.declared.events.Told.TheVariants as told
use Rattle.ow_invoker.proofs.reports.report_gone.Goals as goal

pub returns-in-Ok : goal.returns-in-Ok
returns-in-Ok g c = (told.Done, (c.in-Ok.ensures, refl))

pub returns-in-Err : goal.returns-in-Err
returns-in-Err g c = (told.Refused _, (c.in-Err.ensures, refl))
