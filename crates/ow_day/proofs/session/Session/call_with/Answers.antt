use Rattle.ow_day.proofs.session.Session.call_with.Goals as goal

pub returns-in-Calls : goal.returns-in-Calls
returns-in-Calls g c = rw c.in-Calls.is c.invoke.ensures
