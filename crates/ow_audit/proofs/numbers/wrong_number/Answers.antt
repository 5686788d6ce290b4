use Rattle.std.proofs.Common.{◌∙◌, sym}
use Rattle.ow_hall.specs.History.{counted}
use Rattle.ow_audit.specs.Places.{notes_of}
use Rattle.ow_audit.proofs.NumberLaws.{none_above_at}
use Rattle.ow_audit.proofs.numbers.wrong_number.Goals as goal

pub returns-in-None : goal.returns-in-None
returns-in-None g c = record {
  stored = sym c.numbers_of-numbers.ensures.stored ∙ (c.if-numbers-stored.false ∙ c.stored.ensures);
  quiet = sym c.numbers_of-numbers.ensures.quiet ∙ (c.if-numbers-quiet.false ∙ c.quiet.ensures);
  denied = sym c.numbers_of-numbers.ensures.denied ∙ (c.if-numbers-denied.false ∙ c.denied.ensures);
  full = none_above_at c.counted.result (counted c.args.book.now.ledger.entries) (notes_of c.args.receipts.now) c.counted.ensures (c.in-None.ensures {u = tt});
}
