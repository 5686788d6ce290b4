use Rattle.std.proofs.Common.{◌↔◌}
use Rattle.std.specs.Prelude.{IfSome, IsNone, MatchOption}
use Rattle.std.proofs.lemmas.Result.{IfOk-weaker}
use Rattle.ow_audit.specs.Differs.{Differs, Matches, SidesDiffer}
use Rattle.ow_audit.specs.Places.{notes_of}
use Rattle.ow_audit.proofs.MatchLaws.{none_matches, some_sides}
use Rattle.ow_audit.proofs.audit.first_difference.Goals as goal

pub returns-clause-none : goal.returns-clause-none
returns-clause-none g c =
    let all = notes_of c.args.receipts.now in
    let L = c.args.book.now.ledger in
    IfOk-weaker c.compare.result (λ r. MatchOption r (Matches all L) (Differs all L)) (λ r. IsNone r ↔ Matches all L) (none_matches all L) c.compare.ensures

pub returns-clause-sides : goal.returns-clause-sides
returns-clause-sides g c =
    let all = notes_of c.args.receipts.now in
    let L = c.args.book.now.ledger in
    IfOk-weaker c.compare.result (λ r. MatchOption r (Matches all L) (Differs all L)) (λ r. IfSome r (SidesDiffer all)) (some_sides all L) c.compare.ensures
