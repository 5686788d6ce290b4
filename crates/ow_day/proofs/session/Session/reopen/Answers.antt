use Rattle.ow_decide.specs.declared.events.Event.TheVariants as events
use Rattle.ow_decide.specs.declared.events.Told.TheVariants as told
use Rattle.ow_day.proofs.Meeting.{failed, met, wanted}
use Rattle.ow_day.proofs.session.Session.reopen.Goals as goal

pub returns-in-Ok : goal.returns-in-Ok
returns-in-Ok g c = met g.P.Keeper.telling c.args.self.now c.reopen_in_place.new.self events.Reopened (told.Reopened c.in-Ok.happened) c.in-Ok.ensures

pub returns-in-Err-StoreFault : goal.returns-in-Err-StoreFault
returns-in-Err-StoreFault g c =
    failed g.P.Keeper.telling c.args.self.now c.reopen_in_place.new.self events.Reopened (rw c.in-Err-StoreFault.field-0-is at c.in-Err-StoreFault.ensures)

pub returns-in-Err-NoMemory : goal.returns-in-Err-NoMemory
returns-in-Err-NoMemory g c =
    wanted g.P.Keeper.telling c.args.self.now c.reopen_in_place.new.self events.Reopened (rw c.in-Err-NoMemory.field-0-is at c.in-Err-NoMemory.ensures)
