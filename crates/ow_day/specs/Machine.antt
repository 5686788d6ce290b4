-- The plain machine of a day: the outcome of each statement over the book so far, what is written for it, and what is booked.
use Rattle.std.specs.Prelude.{◌≡◌, ◌+◌, ◌⊎◌, ◌++◌, ℕ, pos, List, [], ◌∷◌, None, Result, Ok, Err}
use Rattle.ow_traits.specs.Telling.{Telling}
use Rattle.ow_traits.specs.declared.replies.RunReply.TheVariants as runs
use Rattle.ow_http.specs.Read.{IsRead}
use Rattle.ow_http.specs.Refused.{refusal_of}
use Rattle.ow_http.specs.declared.http_refusal.HttpRefusal.{HttpRefusal}
use Rattle.ow_http.specs.declared.reason.Reason.TheVariants.{Http}
use Rattle.ow_http.specs.declared.request.Request.{Request}
use Rattle.ow_hall.specs.Comes.{Answers, Comes, Fails, HallView, Outcome, Wants, store_failed, store_reply}
use Rattle.ow_hall.specs.History.{counted}
use Rattle.ow_hall.specs.Ledger.{Ledger, opened}
use Rattle.ow_hall.specs.declared.entry.Entry.{Entry}
use Rattle.ow_decide.specs.Sight.{is_full}
use Rattle.ow_decide.specs.declared.events.Event.{Event}
use Rattle.ow_decide.specs.declared.events.Event.TheVariants as events
use Rattle.ow_decide.specs.declared.events.Told.{Told}
use Rattle.ow_decide.specs.declared.events.Told.TheVariants as told
use Rattle.ow_decide.specs.declared.replies.Called.TheVariants as called_replies
use Rattle.ow_decide.specs.declared.replies.Reply.TheVariants as replies
use Rattle.ow_row_text.specs.Sorted.{Entries}
use Rattle.ow_tenant.specs.Table.{Table}
use Rattle.ow_runners.specs.Plain.{plain_giving, plain_tally}
use Rattle.ow_invoker.specs.Turns.{Exchange, IsTurn, OffersTurn, steps_in}
use Rattle.ow_runners.specs.declared.plain_runner.PlainContainer.{PlainContainer}
use Rattle.ow_invoker.specs.declared.shelf.Laid.{Laid}
use Rattle.ow_invoker.specs.declared.turn.TurnStep.TheVariants as turn_steps
use Rattle.ow_invoker.specs.declared.turn.Turned.{Turned}
use Rattle.ow_day.specs.declared.call_words.CallWords.{CallWords}
use Rattle.ow_day.specs.declared.call_words.CallWords.TheVariants as calls
use Rattle.ow_day.specs.declared.statement_outcome.StatementOutcome.{StatementOutcome}
use Rattle.ow_day.specs.declared.statement_outcome.StatementOutcome.TheVariants as outcomes
use Rattle.ow_day.specs.declared.statement_outcome.StatementOutcome.TheVariants.{Silent, Refused, Asked, Called, Ordered, Answered, NoRun, Taken, Denied, Collected, Drained, Reopened, StoreFault}
use Rattle.ow_day.specs.CallWords.{called}
use Rattle.ow_day.specs.Statement.{Statement, At, Call, Ask, Next, Begun, Answer, Logged, Exit, NoStart, Fault, Lost, Gone, Sweep, Turn, Collect, Drain, Reopen, End}
use Rattle.ow_day.specs.Texts.{lines_of}

-- the office table, the book so far, the moment that the day gave last, and the containers that lie between turns
pub record Machine : Type 0 where
  pub tenants : Table
  pub ledger : Ledger
  pub given : ℕ
  pub shelf : List (Laid PlainContainer)

-- the service was just opened over an office table and kept rows, at moment 0
abbrev pub start : Table → Entries → Machine
start t rows = record { tenants = t; ledger = opened t rows 0; given = 0; shelf = [] }

-- `N` follows `M`: it has the same office table, and its book extends the other's
abbrev pub IsBehind : Machine → Machine → Type 0
IsBehind M N = (N.tenants ≡ M.tenants) × ((later : List Entry) × (N.ledger.entries ≡ later ++ M.ledger.entries))

-- ---- what the hall meets

-- a store that reports its count of faults alone
abbrev pub counts_faults : ℕ → Telling
counts_faults faults = record { rows = None; old_rows = None; faults = faults; commits = None }

-- the machine's hall, over a store that doesn't report its rows and has met this many faults
abbrev pub hall_of : Machine → ℕ → HallView ℕ
hall_of M faults = record { tenants = M.tenants; ledger = M.ledger; store = faults }

-- the outcome of a statement, by the hall's answer
abbrev pub outcome_of : Told → StatementOutcome
outcome_of (told.Opened happened) = Silent
outcome_of (told.Asked reply) = Asked reply
outcome_of (told.Full answer) = Asked (replies.Now answer)
outcome_of (told.Called c) = Called c
outcome_of (told.Fired fired) = Silent
outcome_of (told.Deployed d) = Silent
outcome_of (told.Next order) = Ordered order
outcome_of (told.Answered answered) = Answered answered
outcome_of (told.NoRun run reply) = NoRun run
outcome_of told.Done = Taken
outcome_of (told.Refused refusal) = Denied refusal
outcome_of (told.Swept swept) = outcomes.Swept swept
outcome_of (told.Collected c) = Collected c
outcome_of (told.Drain drain) = Drained drain
outcome_of (told.Reopened happened) = Reopened happened

-- its outcome where the store fails at its event
abbrev pub fault_of : Event → StatementOutcome
fault_of (events.Asked request) = Asked store_reply
fault_of (events.Called name params) = Called (called_replies.Refused store_failed)
fault_of event = StoreFault

-- the outcome of a statement by that of its event, and how often the store failed: 0 or 1 times
abbrev pub Ends : Event → Outcome → ℕ → StatementOutcome → Type 0
Ends event (Answers t) failed outcome = (failed ≡ 0) × (outcome ≡ outcome_of t)
Ends event Fails failed outcome = (failed ≡ 1) × (outcome ≡ fault_of event)
Ends event Wants failed outcome = ⊥

-- the hall meets an event at the moment that the day gave last, with this outcome. The shelf stays as it was
abbrev pub Meets : Machine → Event → ℕ → StatementOutcome → Machine → Type 0
Meets M event failed outcome N = (o : Outcome) × (before : ℕ) × (later : ℕ) × Ends event o failed outcome × (N.given ≡ M.given) × (N.shelf ≡ M.shelf)
    × Comes counts_faults (hall_of M before) (hall_of N later) M.given event o

-- one such event, and the hall's answer
abbrev pub Exchanges : Machine → Exchange → Machine → Type 0
Exchanges M x N = (before : ℕ) × (later : ℕ) × (N.given ≡ M.given)
    × Comes counts_faults (hall_of M before) (hall_of N later) M.given x.event (Answers x.answer)

-- such events one after the other, the last of which leaves the machine as `N`, except for its containers
abbrev pub ExchangesAll : Machine → List Exchange → Machine → Type 0
ExchangesAll M [] N = N ≡ record M { shelf = N.shelf }
ExchangesAll M (x ∷ xs) N = (K : Machine) × Exchanges M x K × ExchangesAll K xs N

-- the store fails at one such event
abbrev pub FailsAt : Machine → Event → Machine → Type 0
FailsAt M event N = (before : ℕ) × (later : ℕ) × (N.given ≡ M.given)
    × Comes counts_faults (hall_of M before) (hall_of N later) M.given event Fails

-- a turn of the runner of plain code, which has no faults. It had made `before` runs before the turn and has made `now` after it. The
-- containers are those on the shelf
pub record TakesTurn (M : Machine) (turned : Turned) (N : Machine) : Type 0 where
  pub exchanges : List Exchange
  pub before : ℕ
  pub now : ℕ
  pub turn : IsTurn plain_giving (plain_tally before) (plain_tally now) M.shelf turned.order exchanges N.shelf
  pub met : ExchangesAll M exchanges N
  pub steps : turned.steps ≡ steps_in exchanges

-- the store fails at the runner's reply, and what was booked before it stays booked
pub record FailsTurn (M : Machine) (turned : Turned) (N : Machine) : Type 0 where
  pub exchanges : List Exchange
  pub event : Event
  pub before : ℕ
  pub now : ℕ
  pub turn : OffersTurn plain_giving (plain_tally before) (plain_tally now) M.shelf turned.order exchanges event N.shelf
  pub middle : Machine
  pub met : ExchangesAll M exchanges middle
  pub fails : FailsAt middle event N
  pub steps : turned.steps ≡ turn_steps.StoreFault ∷ []

abbrev pub Turns : Machine → Turned → ℕ → Machine → Type 0
Turns M turned failed N = ((failed ≡ 0) × TakesTurn M turned N) ⊎ ((failed ≡ 1) × FailsTurn M turned N)

-- ---- statements

-- nothing reaches the hall
abbrev pub Rests : Machine → StatementOutcome → ℕ → StatementOutcome → Machine → Type 0
Rests M known failed outcome N = (failed ≡ 0) × (outcome ≡ known) × (N ≡ M)

-- a call that is refused for its own words doesn't reach it
abbrev pub Calls : Machine → CallWords → ℕ → StatementOutcome → Machine → Type 0
Calls M (calls.Refused reason) failed outcome N = Rests M (Refused reason) failed outcome N
Calls M (calls.Calls name params) failed outcome N = Meets M (events.Called name params) failed outcome N

-- the reply to bytes that are no request
abbrev pub unread : HttpRefusal → StatementOutcome
unread e = Asked (replies.Now (refusal_of (Http e)))

-- nor do they
abbrev pub Asks : Machine → Result Request HttpRefusal → ℕ → StatementOutcome → Machine → Type 0
Asks M (Ok request) failed outcome N = Meets M (events.Asked request) failed outcome N
Asks M (Err e) failed outcome N = Rests M (unread e) failed outcome N

-- machine `M` carries out a statement with this `outcome`, and is `N` afterwards. The store failed at it `failed` times, which is
-- 0 or 1
abbrev pub Does : Machine → Statement → ℕ → StatementOutcome → Machine → Type 0
Does M (At moment) failed outcome N = (failed ≡ 0) × (outcome ≡ Silent) × (N ≡ record M { given = moment })
Does M (Call name text) failed outcome N = Calls M (called (is_full (counted M.ledger.entries) 0) name text) failed outcome N
Does M (Ask bytes) failed outcome N = (read : Result Request HttpRefusal) × IsRead bytes read × Asks M read failed outcome N
Does M Next failed outcome N = Meets M events.Next failed outcome N
Does M (Begun run) failed outcome N = Meets M (events.Begun run) failed outcome N
Does M (Answer run text) failed outcome N = Meets M (events.Answered run (runs.Answer text [])) failed outcome N
Does M (Logged run text logs) failed outcome N = Meets M (events.Answered run (runs.Answer text logs)) failed outcome N
Does M (Exit run code) failed outcome N = Meets M (events.Answered run (runs.Exit (pos code) [])) failed outcome N
Does M (NoStart run text) failed outcome N = Meets M (events.Answered run (runs.NoStart text)) failed outcome N
Does M (Fault run) failed outcome N = Meets M (events.Answered run runs.Fault) failed outcome N
Does M (Lost run) failed outcome N = Meets M (events.Lost run) failed outcome N
Does M (Gone slot generation) failed outcome N = Meets M (events.Gone slot generation) failed outcome N
Does M Sweep failed outcome N = Meets M events.Sweep failed outcome N
Does M (Collect id) failed outcome N = Meets M (events.Collected id) failed outcome N
Does M Turn failed outcome N = (turned : Turned) × (outcome ≡ outcomes.Turned turned) × Turns M turned failed N
Does M Drain failed outcome N = Meets M events.Drain failed outcome N
Does M Reopen failed outcome N = Meets M events.Reopened failed outcome N
Does M End failed outcome N = Rests M Silent failed outcome N

-- these statements are carried out one after the other. `lines` is written, the store failed at `failed` of them, and `N` is the
-- machine afterwards
abbrev pub CarriesOut : Machine → List Statement → List ℕ → ℕ → Machine → Type 0
CarriesOut M [] lines failed N = (lines ≡ []) × (failed ≡ 0) × (N ≡ M)
CarriesOut M (s ∷ ss) lines failed N = (outcome : StatementOutcome) × (here : ℕ) × (K : Machine) × (later : List ℕ) × (rest : ℕ)
    × Does M s here outcome K × (lines ≡ lines_of outcome ++ later) × (failed ≡ here + rest) × CarriesOut K ss later rest N
