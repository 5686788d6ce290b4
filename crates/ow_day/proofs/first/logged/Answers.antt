use Rattle.std.proofs.Common.{refl}
use Rattle.std.proofs.lemmas.List.{take_rest}
use Rattle.ow_day.proofs.Awaiting.{logged_found}
use Rattle.ow_day.proofs.Logging.{cut_more}
use Rattle.ow_day.proofs.first.logged.Goals as goal

pub returns-in-Found-clause-first : goal.returns-in-Found-clause-first
returns-in-Found-clause-first c =
    let slice = take_rest c.args.bytes.now c.args.behind in
    rw slice (logged_found c.args.more c.args.run c.args.count c.args.behind c.in-Found.end c.args.text.now c.args.bytes.now (rw slice at c.in-Found.ensures))

pub returns-in-Cut-clause-awaits : goal.returns-in-Cut-clause-awaits
returns-in-Cut-clause-awaits c = (refl, cut_more c.args.more c.args.count _ c.in-Cut.ensures, refl)
