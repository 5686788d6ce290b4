use Rattle.std.proofs.Common.{Ok}
use Rattle.ow_day.proofs.Meeting.{asking, unread_bytes}
use Rattle.ow_day.proofs.session.Session.ask.Goals as goal

pub returns-in-Ok : goal.returns-in-Ok
returns-in-Ok g c = asking g.P.Keeper.telling c.args.self.now c.request.new.self c.args.bytes.now (Ok c.in-Ok.request) c.request.result (rw c.in-Ok.is at c.in_ok-request.ensures) c.request.ensures

pub returns-in-Err : goal.returns-in-Err
returns-in-Err g c = unread_bytes g.P.Keeper.telling c.args.self.now c.args.bytes.now c.in-Err.refused c.unread.result (rw c.in-Err.is at c.in_ok-request.ensures) c.unread.ensures
