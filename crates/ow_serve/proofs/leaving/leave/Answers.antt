use Rattle.std.proofs.Common.{map}
use Rattle.ow_hall.proofs.Joined.{ok_of}
use Rattle.ow_serve.proofs.Whole.{book_begins}
use Rattle.ow_serve.proofs.leaving.leave.Goals as goal

pub returns-in-Ok-Ok-clause-begins : goal.returns-in-Ok-Ok-clause-begins
returns-in-Ok-Ok-clause-begins g c =
    book_begins c.args.service.notes.notes _ (map (λ r. r.notes) c.in-Ok-Ok.receipts.items) c.args.stopped c.compared.result.end c.in-Ok-Ok.book c.compared.result.book
    (ok_of _ c.gathered-gathered.result (c.in-Ok-Ok.receipts, c.in-Ok-Ok.endings) c.in-Ok-Ok.is-1 c.gathered-gathered.ensures).0 c.compared.ensures.end c.compared.ensures.book
