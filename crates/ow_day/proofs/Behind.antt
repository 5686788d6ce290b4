-- Machines that follow others: the book only grows, whatever the outcome of an event.
use Rattle.std.proofs.Common.{◌≡◌, ◌++◌, ◌∙◌, ℕ, false, List, [], ◌∷◌, inl, inr, refl, sym, ap, append_assoc}
use Rattle.ow_traits.specs.Telling.{Telling}
use Rattle.ow_hall.specs.Comes.{Answers, Comes, Fails, HallView, Outcome, Wants, at_hall}
use Rattle.ow_hall.specs.History.{posting}
use Rattle.ow_decide.specs.Given.{IsGivenEvent}
use Rattle.ow_hall.specs.Ledger.{Ledger, posted, posted_as}
use Rattle.ow_hall.specs.declared.entry.Entry.{Entry}
use Rattle.ow_hall.specs.declared.posting.Posting.{Posting}
use Rattle.ow_hall.specs.declared.posting.Posting.TheVariants.{Booked, Denied, Quiet, Unbooked}
use Rattle.ow_decide.specs.Decisions.{is_opening}
use Rattle.ow_decide.specs.declared.events.Event.{Event}
use Rattle.ow_decide.specs.declared.events.Told.{Told}
use Rattle.ow_invoker.specs.Turns.{Chain, ChainTo, ChainUndone, Exchange}
use Rattle.ow_day.specs.declared.statement_outcome.StatementOutcome.{StatementOutcome}
use Rattle.ow_day.specs.Statement.{Statement}
use Rattle.ow_day.specs.Machine.{Machine, Does, IsBehind, hall_of, counts_faults}
use Rattle.ow_day.proofs.Each.{each_statement}

-- ---- machines

pub behind_same : (M N : Machine) → N.tenants ≡ M.tenants → N.ledger.entries ≡ M.ledger.entries → IsBehind M N
behind_same M N tenants entries = (tenants, ([], entries))

pub behind_then : (M K N : Machine) → IsBehind M K → IsBehind K N → IsBehind M N
behind_then M K N (table, (first, before)) (table', (later, after)) =
    (table' ∙ table, (later ++ first, after ∙ ap (λ (B : List Entry). later ++ B) before ∙ sym (append_assoc later first M.ledger.entries)))

-- ---- halls, over whatever store

abbrev HallBehind : {P : Type 0} → HallView P → HallView P → Type 0
HallBehind old new = (new.tenants ≡ old.tenants) × ((later : List Entry) × (new.ledger.entries ≡ later ++ old.ledger.entries))

-- the machine over a hall
abbrev over : {P : Type 0} → HallView P → Machine
over h = record { tenants = h.tenants; ledger = h.ledger; given = 0; shelf = [] }

abbrev entries : Ledger → List Entry
entries L = L.entries

posted_more : (p : Posting) (e : Entry) (L : Ledger) → (later : List Entry) × ((posted_as p e L).entries ≡ later ++ L.entries)
posted_more Booked e L = (e ∷ [], refl)
posted_more Quiet e L = ([], refl)
posted_more Denied e L = ([], refl)
posted_more Unbooked e L = ([], refl)

posted_on : (L : Ledger) (at : ℕ) (event : Event) (t : Told) → (later : List Entry) × ((posted L at event t).entries ≡ later ++ L.entries)
posted_on L at event t = posted_more (posting L.entries t) (record { at = at; event = event; answer = t }) L

module _ {P : Type 0} (telling : P → Telling) where
  pub comes_behind : (old new : HallView P) (at : ℕ) (event : Event) (o : Outcome) → Comes telling old new at event o → HallBehind old new
  comes_behind old new at event (Answers t) (told, ledger, tenants, holds) =
      let p = posted_on old.ledger (at_hall old at) event t in
      (tenants, (p.0, ap entries ledger ∙ p.1))
  comes_behind old new at event Wants (ledger, tenants, stays) = (tenants, ([], ap entries ledger))
  comes_behind old new at event Fails (changes, ledger, tenants, stays, rose) = (tenants, ([], ap entries ledger))

  joins : (old middle new : HallView P) → HallBehind old middle → HallBehind middle new → HallBehind old new
  joins old middle new first second = behind_then (over old) (over middle) (over new) first second

  pub chain_behind : (old new : HallView P) (at : ℕ) (xs : List Exchange) → Chain telling old new at xs → HallBehind old new
  chain_behind old new at [] same = (ap (λ (h : HallView P). h.tenants) same, ([], ap (λ (h : HallView P). h.ledger.entries) same))
  chain_behind old new at (x ∷ xs) (middle, (comes, rest)) = joins old middle new (comes_behind old middle at x.event (Answers x.answer) comes) (chain_behind middle new at xs rest)

  pub chain_to_behind : (old new : HallView P) (at : ℕ) (xs : List Exchange) (event : Event) (o : Outcome) → ChainTo telling old new at xs event o → HallBehind old new
  chain_to_behind old new at xs event o (middle, (chain, comes)) = joins old middle new (chain_behind old middle at xs chain) (comes_behind middle new at event o comes)

  pub undone_behind : (old new : HallView P) (at : ℕ) (xs : List Exchange) (event : Event) → ChainUndone telling old new at xs event → HallBehind old new
  undone_behind old new at xs event (inl wanted) = chain_to_behind old new at xs event Wants wanted
  undone_behind old new at xs event (inr failed) = chain_to_behind old new at xs event Fails failed

-- ---- statements

answered : (M N : Machine) (before after : ℕ) (event : Event) (t : Told) → is_opening event ≡ false → IsGivenEvent event
    → Comes {P = ℕ} counts_faults (hall_of M before) (hall_of N after) M.given event (Answers t) → IsBehind M N
answered M N before after event t later given comes = comes_behind {P = ℕ} counts_faults (hall_of M before) (hall_of N after) M.given event (Answers t) comes

pub done_behind : (M N : Machine) (s : Statement) (failed : ℕ) (outcome : StatementOutcome) → Does M s failed outcome N → IsBehind M N
done_behind M N s failed outcome does = each_statement (λ M N. IsBehind M N) behind_same behind_then answered M N s failed outcome does
