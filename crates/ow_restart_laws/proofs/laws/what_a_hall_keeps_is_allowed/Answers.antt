use Rattle.ow_restart_laws.proofs.BookLaws.{books_allowed}
use Rattle.ow_restart_laws.proofs.laws.what_a_hall_keeps_is_allowed.Goals as goal

pub returns : goal.returns
returns g c = books_allowed c.args.hall.now.tenants c.args.hall.now.ledger.entries c.known_homes.ensures c.book.ensures.legal c.known_items.ensures
