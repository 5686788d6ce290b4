-- What holds of each event that the hall meets, and from one machine on to the next, holds of each statement.
use Rattle.std.proofs.Common.{◌≡◌, ℕ, pos, false, List, [], ◌∷◌, Result, Ok, Err, inl, inr, refl, ap}
use Rattle.ow_http.specs.declared.http_refusal.HttpRefusal.{HttpRefusal}
use Rattle.ow_http.specs.declared.request.Request.{Request}
use Rattle.ow_traits.specs.declared.replies.RunReply.TheVariants as runs
use Rattle.ow_hall.specs.Comes.{Answers, Comes, Fails, Outcome, Wants}
use Rattle.ow_hall.specs.History.{History, counted}
use Rattle.ow_decide.specs.Given.{IsGivenEvent}
use Rattle.ow_hall.specs.Ledger.{Ledger}
use Rattle.ow_decide.specs.Decisions.{is_opening}
use Rattle.ow_decide.specs.Sight.{is_full}
use Rattle.ow_decide.specs.declared.events.Event.{Event}
use Rattle.ow_decide.specs.declared.events.Event.TheVariants as events
use Rattle.ow_decide.specs.declared.events.Told.{Told}
use Rattle.ow_runners.specs.Plain.{plain_tally}
use Rattle.ow_invoker.specs.Turns.{Exchange}
use Rattle.ow_invoker.specs.declared.turn.Turned.{Turned}
use Rattle.ow_day.specs.declared.call_words.CallWords.{CallWords}
use Rattle.ow_day.specs.declared.call_words.CallWords.TheVariants as calls
use Rattle.ow_day.specs.declared.statement_outcome.StatementOutcome.{StatementOutcome}
use Rattle.ow_day.specs.CallWords.{called as words_of}
use Rattle.ow_day.specs.Statement.{Statement, At, Call, Ask, Next, Begun, Answer, Logged, Exit, NoStart, Fault, Lost, Gone, Sweep, Turn, Collect, Drain, Reopen, End}
use Rattle.ow_day.specs.Machine.{Machine, Asks, Calls, Does, ExchangesAll, FailsAt, Meets, Rests, Turns, hall_of, counts_faults}
use Rattle.ow_day.proofs.Turning.{NoneOpens, day_given, day_unopened, offered_opens, turn_opens}

-- the entries of a ledger
abbrev entries : Ledger → History
entries L = L.entries

abbrev table_same : {M N : Machine} → N ≡ M → N.tenants ≡ M.tenants
table_same same = ap (λ (K : Machine). K.tenants) same

abbrev entries_same : {M N : Machine} → N ≡ M → N.ledger.entries ≡ M.ledger.entries
entries_same same = ap (λ (K : Machine). K.ledger.entries) same

module _ (Is : Machine → Machine → Type 0) (stays : (M N : Machine) → N.tenants ≡ M.tenants → N.ledger.entries ≡ M.ledger.entries → Is M N) (joins : (M K N : Machine) → Is M K → Is K N → Is M N)
    (answers : (M N : Machine) (before after : ℕ) (event : Event) (t : Told) → is_opening event ≡ false → IsGivenEvent event
    → Comes {P = ℕ} counts_faults (hall_of M before) (hall_of N after) M.given event (Answers t) → Is M N) where
  -- ---- one event

  comes : (M N : Machine) (before after : ℕ) (event : Event) (o : Outcome) → is_opening event ≡ false → IsGivenEvent event
      → Comes {P = ℕ} counts_faults (hall_of M before) (hall_of N after) M.given event o → Is M N
  comes M N before after event (Answers t) later given met = answers M N before after event t later given met
  comes M N before after event Wants later given (ledger, tenants, stay) = stays M N tenants (ap entries ledger)
  comes M N before after event Fails later given (changes, ledger, tenants, stay, rose) = stays M N tenants (ap entries ledger)

  met : (M N : Machine) (event : Event) (failed : ℕ) (outcome : StatementOutcome) → is_opening event ≡ false → IsGivenEvent event → Meets M event failed outcome N → Is M N
  met M N event failed outcome later is_given (o, before, after, ends, given, shelf, is) = comes M N before after event o later is_given is

  -- ---- turns

  exchanged : (M N : Machine) (xs : List Exchange) → NoneOpens xs → ExchangesAll M xs N → Is M N
  exchanged M N [] none same = stays M N (table_same same) (entries_same same)
  exchanged M N (x ∷ xs) (later, none) (K, (before, after, given, is), rest) = joins M K N (answers M K before after x.event x.answer (day_unopened x.event later) (day_given x.event later) is) (exchanged K N xs none rest)

  -- a fault of the store books nothing
  failed_at : (M N : Machine) (event : Event) → FailsAt M event N → Is M N
  failed_at M N event (before, after, given, (changes, ledger, tenants, stay, rose)) = stays M N tenants (ap entries ledger)

  turns_so : (M N : Machine) (turn : Turned) (failed : ℕ) → Turns M turn failed N → Is M N
  turns_so M N turn failed (inl (none, t)) = exchanged M N t.exchanges (turn_opens (plain_tally t.before) (plain_tally t.now) M.shelf turn.order t.exchanges N.shelf t.turn) t.met
  turns_so M N turn failed (inr (one, t)) =
      joins M t.middle N (exchanged M t.middle t.exchanges (offered_opens (plain_tally t.before) (plain_tally t.now) M.shelf turn.order t.exchanges t.event N.shelf t.turn) t.met) (failed_at t.middle N t.event t.fails)

  -- ---- statements

  rested : (M N : Machine) (known : StatementOutcome) (failed : ℕ) (outcome : StatementOutcome) → Rests M known failed outcome N → Is M N
  rested M N known failed outcome (none, is, same) = stays M N (table_same same) (entries_same same)

  called : (M N : Machine) (words : CallWords) (failed : ℕ) (outcome : StatementOutcome) → Calls M words failed outcome N → Is M N
  called M N (calls.Refused reason) failed outcome rests = rested M N _ failed outcome rests
  called M N (calls.Calls name params) failed outcome meets = met M N (events.Called name params) failed outcome refl tt meets

  asked : (M N : Machine) (read : Result Request HttpRefusal) (failed : ℕ) (outcome : StatementOutcome) → Asks M read failed outcome N → Is M N
  asked M N (Ok request) failed outcome meets = met M N (events.Asked request) failed outcome refl tt meets
  asked M N (Err e) failed outcome rests = rested M N _ failed outcome rests

  pub each_statement : (M N : Machine) (s : Statement) (failed : ℕ) (outcome : StatementOutcome) → Does M s failed outcome N → Is M N
  each_statement M N (At moment) failed outcome (none, is, same) = stays M N (table_same same) (entries_same same)
  each_statement M N (Call name text) failed outcome does = called M N (words_of (is_full (counted M.ledger.entries) 0) name text) failed outcome does
  each_statement M N (Ask bytes) failed outcome (read, is, asks) = asked M N read failed outcome asks
  each_statement M N Next failed outcome meets = met M N events.Next failed outcome refl tt meets
  each_statement M N (Begun run) failed outcome meets = met M N (events.Begun run) failed outcome refl tt meets
  each_statement M N (Answer run text) failed outcome meets = met M N (events.Answered run (runs.Answer text [])) failed outcome refl tt meets
  each_statement M N (Logged run text logs) failed outcome meets = met M N (events.Answered run (runs.Answer text logs)) failed outcome refl tt meets
  each_statement M N (Exit run code) failed outcome meets = met M N (events.Answered run (runs.Exit (pos code) [])) failed outcome refl tt meets
  each_statement M N (NoStart run text) failed outcome meets = met M N (events.Answered run (runs.NoStart text)) failed outcome refl tt meets
  each_statement M N (Fault run) failed outcome meets = met M N (events.Answered run runs.Fault) failed outcome refl tt meets
  each_statement M N (Lost run) failed outcome meets = met M N (events.Lost run) failed outcome refl tt meets
  each_statement M N (Gone slot generation) failed outcome meets = met M N (events.Gone slot generation) failed outcome refl tt meets
  each_statement M N Sweep failed outcome meets = met M N events.Sweep failed outcome refl tt meets
  each_statement M N (Collect id) failed outcome meets = met M N (events.Collected id) failed outcome refl tt meets
  each_statement M N Turn failed outcome (turn, is, turns) = turns_so M N turn failed turns
  each_statement M N Drain failed outcome meets = met M N events.Drain failed outcome refl tt meets
  each_statement M N Reopen failed outcome meets = met M N events.Reopened failed outcome refl tt meets
  each_statement M N End failed outcome rests = rested M N _ failed outcome rests
