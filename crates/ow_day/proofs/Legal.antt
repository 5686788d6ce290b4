-- The book of a day is legal.
use Rattle.std.proofs.Common.{◌≡◌, ℕ, false, List, [], ◌∷◌, take}
use Rattle.ow_hall.specs.Comes.{Answers, Comes}
use Rattle.ow_hall.specs.History.{IsLegal, moment}
use Rattle.ow_decide.specs.Given.{IsGivenEvent}
use Rattle.ow_hall.proofs.HallLaws.{not_after, not_before, posted_legal}
use Rattle.ow_hall.proofs.OpenLaws.{opened_legal}
use Rattle.ow_row_text.specs.Sorted.{Entries}
use Rattle.ow_decide.specs.Decisions.{is_opening}
use Rattle.ow_decide.specs.declared.events.Event.{Event}
use Rattle.ow_decide.specs.declared.events.Told.{Told}
use Rattle.ow_tenant.specs.Table.{Table}
use Rattle.ow_day.specs.declared.statement_outcome.StatementOutcome.{StatementOutcome}
use Rattle.ow_day.specs.Statement.{Statement}
use Rattle.ow_day.specs.Machine.{Machine, CarriesOut, Does, hall_of, start, counts_faults}
use Rattle.ow_day.specs.Day.{day_of}
use Rattle.ow_day.specs.Carried.{HasLegalBooks}
use Rattle.ow_day.proofs.Each.{each_statement}

abbrev HasLegalBook : Machine → Type 0
HasLegalBook M = IsLegal M.tenants M.ledger.entries

-- ---- the book after a statement

stays : (M N : Machine) → N.tenants ≡ M.tenants → N.ledger.entries ≡ M.ledger.entries → HasLegalBook M → HasLegalBook N
stays M N tenants entries legal = rw (tenants, entries) legal

joins : (M K N : Machine) → (HasLegalBook M → HasLegalBook K) → (HasLegalBook K → HasLegalBook N) → HasLegalBook M → HasLegalBook N
joins M K N first second legal = second (first legal)

answers : (M N : Machine) (before after : ℕ) (event : Event) (t : Told) → is_opening event ≡ false → IsGivenEvent event
    → Comes {P = ℕ} counts_faults (hall_of M before) (hall_of N after) M.given event (Answers t) → HasLegalBook M → HasLegalBook N
answers M N before after event t later given (told_is, ledger, tenants, holds) legal =
    let L = M.ledger in
    rw (tenants, ledger) (posted_legal M.tenants L (moment L.entries M.given) event t legal (not_before L.entries M.given) (not_after M.tenants L.entries M.given legal) later given told_is)

done_so : (M N : Machine) (s : Statement) (failed : ℕ) (outcome : StatementOutcome) → Does M s failed outcome N → HasLegalBook M → HasLegalBook N
done_so M N s failed outcome does = each_statement (λ M N. HasLegalBook M → HasLegalBook N) stays joins answers M N s failed outcome does

all_so : (M : Machine) (ss : List Statement) (lines : List ℕ) (failed : ℕ) (N : Machine) → CarriesOut M ss lines failed N → HasLegalBook M → HasLegalBook N
all_so M [] lines failed N (none, no_fault, same) legal = rw same legal
all_so M (s ∷ ss) lines failed N (outcome, here, K, later, rest, does, is, sum, then') legal = all_so K ss later rest N then' (done_so M K s here outcome does legal)

begins_legal : (t : Table) (rows : Entries) → HasLegalBook (start t rows)
begins_legal t rows = opened_legal t rows 0

pub legal_books : (t : Table) (bytes : List ℕ) → HasLegalBooks t bytes
legal_books t bytes = λ rows count lines failed N carried. all_so (start t rows) (take count (day_of bytes).statements) lines failed N carried (begins_legal t rows)
