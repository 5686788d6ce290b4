use Rattle.std.proofs.Common.{[], arith, refl}
use Rattle.ow_day.specs.declared.session.Session.{Session}
use Rattle.ow_day.specs.Machine.{Does}
use Rattle.ow_day.specs.Session.{machine_of}
use Rattle.ow_day.specs.Statement.{Call}
use Rattle.ow_day.proofs.Meeting.{wants_so}
use Rattle.ow_day.proofs.session.Session.call.Goals as goal

pub returns-in_err-words : goal.returns-in_err-words
returns-in_err-words g c =
    let old = c.args.self.now in
    let new : Session g.row.P.Denot = record { hall = old.hall; given = old.given; scratch = c.call_words.new.scratch; routes = old.routes; runner = old.runner; shelf = old.shelf } in
    wants_so g.P.Keeper.telling old new (Does (machine_of old) (Call c.args.name.now c.args.text.now)) c.from_residual.result c.from_residual.ensures.0 (record { behind = (refl, ([], refl)); count = omega arith })
