-- The outcome of a statement where the hall meets an event.
use Rattle.std.proofs.Common.{◌≡◌, ℕ, List, [], ◌∷◌, Some, Result, Ok, Err, IfOk, IsErr, inl, inr, refl, sym, ap, subst, arith}
use Rattle.std.proofs.lemmas.Bool.{false≢true}
use Rattle.ow_traits.specs.Telling.{Telling}
use Rattle.ow_value.specs.Value.{Pairs}
use Rattle.ow_value.specs.declared.memory.NoMemory.{NoMemory as Want}
use Rattle.ow_names.specs.declared.full.FullName.{FullName}
use Rattle.ow_traits.specs.declared.change_list.Change.{Change}
use Rattle.ow_traits.specs.declared.replies.RunReply.{RunReply}
use Rattle.ow_floor.specs.declared.answers.AnswerRefusal.{AnswerRefusal}
use Rattle.ow_floor.specs.declared.answers.AnswerRefusal.TheVariants.{NoRun, NoMemory, StoreFault}
use Rattle.ow_floor.specs.declared.answers.FloorRefusal.{FloorRefusal}
use Rattle.ow_http.specs.Read.{IsRead}
use Rattle.ow_http.specs.declared.http_refusal.HttpRefusal.{HttpRefusal}
use Rattle.ow_http.specs.declared.request.Request.{Request as HttpRequest}
use Rattle.ow_decide.specs.Asking.{reply_in}
use Rattle.ow_decide.specs.Decision.{commits}
use Rattle.ow_decide.specs.declared.events.Event.{Event}
use Rattle.ow_decide.specs.declared.events.Event.TheVariants as events
use Rattle.ow_decide.specs.declared.events.Told.{Told}
use Rattle.ow_decide.specs.declared.events.Told.TheVariants as tells
use Rattle.ow_decide.specs.declared.replies.Called.{Called}
use Rattle.ow_decide.specs.declared.replies.Reply.{Reply}
use Rattle.ow_hall.specs.Comes.{Answers, Comes, Fails, HallView, Holds, IsCalled, Outcome, Replies, Wants, decided, done_outcome, reply_outcome}
use Rattle.ow_runners.specs.Plain.{plain_giving, plain_tally}
use Rattle.ow_invoker.specs.Turns.{Chain, Exchange, Turns as TurnsTo}
use Rattle.ow_runners.specs.declared.plain_runner.PlainContainer.{PlainContainer}
use Rattle.ow_runners.specs.declared.plain_runner.PlainRunner.{PlainRunner}
use Rattle.ow_invoker.specs.declared.shelf.Laid.{Laid}
use Rattle.ow_invoker.specs.declared.turn.Turned.{Turned}
use Rattle.ow_invoker.proofs.Faults.{chain_later, chain_to_later, comes_later, undone_later}
use Rattle.ow_day.specs.declared.statement_outcome.StatementOutcome.{StatementOutcome}
use Rattle.ow_day.specs.declared.statement_outcome.StatementOutcome.TheVariants as outcomes
use Rattle.ow_day.specs.declared.statement_outcome.StatementOutcome.TheVariants.{Asked}
use Rattle.ow_day.specs.declared.session.Session.{Session}
use Rattle.ow_day.specs.Machine.{Asks, Does, ExchangesAll, Machine, Meets, outcome_of, fault_of, hall_of, unread, counts_faults}
use Rattle.ow_day.specs.Session.{ComesTo, Denies, GoesTo, IsLater, machine_of, told_of}
use Rattle.ow_day.specs.Statement.{Ask, Turn}
use Rattle.ow_day.proofs.Behind.{chain_behind, chain_to_behind, comes_behind, undone_behind}
use Rattle.ow_day.proofs.Rising.{rose_none, rose_once, rose_then}

-- the session over a hall
abbrev over : {P : Type 0} → Session P → HallView P → Session P
over s hall = record { hall = hall; given = s.given; scratch = s.scratch; routes = s.routes; runner = s.runner; shelf = s.shelf }

-- and after a turn
abbrev pub behind_turn : {P : Type 0} → Session P → HallView P → PlainRunner → List (Laid PlainContainer) → Session P
behind_turn s hall runner left = record { hall = hall; given = s.given; scratch = s.scratch; routes = s.routes; runner = runner; shelf = left }

-- the machine of the session over a hall, with these containers
abbrev with_shelf : {P : Type 0} → Session P → HallView P → List (Laid PlainContainer) → Machine
with_shelf s hall left = record { tenants = hall.tenants; ledger = hall.ledger; given = s.given; shelf = left }

-- a session goes on from itself
pub same_session : {P : Type 0} (telling : P → Telling) (s : Session P) → IsLater telling s s
same_session telling s = record { behind = (refl, ([], refl)); count = omega arith }

-- there was no memory
pub wants_so : {P : Type 0} (telling : P → Telling) (old new : Session P) (Is : ℕ → StatementOutcome → Machine → Type 0) (r : Result StatementOutcome Want) → IsErr r → IsLater telling old new → ComesTo telling old new Is r
wants_so telling old new Is (Ok outcome) never later = absurd (false≢true never)
wants_so telling old new Is (Err e) is later = later

-- before anything was done
pub stays_so : {P : Type 0} (telling : P → Telling) (s : Session P) (Is : ℕ → StatementOutcome → Machine → Type 0) (r : Result StatementOutcome Want) → IsErr r → ComesTo telling s s Is r
stays_so telling s Is r is = wants_so telling s s Is r is (same_session telling s)

-- ---- bytes of requests

pub asking : {P : Type 0} (telling : P → Telling) (old new : Session P) (bytes : List ℕ) (read : Result HttpRequest HttpRefusal) (r : Result StatementOutcome Want) → IsRead bytes read → ComesTo telling old new (Asks (machine_of old) read) r
    → ComesTo telling old new (Does (machine_of old) (Ask bytes)) r
asking telling old new bytes read (Ok outcome) is (n, (asks, rose)) = (n, ((read, is, asks), rose))
asking telling old new bytes read (Err e) is later = later

-- they are no request
pub unread_bytes : {P : Type 0} (telling : P → Telling) (old : Session P) (bytes : List ℕ) (e : HttpRefusal) (r : Result StatementOutcome Want) → IsRead bytes (Err e) → IfOk r (λ outcome. outcome ≡ unread e)
    → ComesTo telling old old (Does (machine_of old) (Ask bytes)) r
unread_bytes telling old bytes e (Ok outcome) is same = (0, ((Err e, is, (refl, same, refl)), rose_none (telling old.hall.store).faults (telling old.hall.store).faults (omega arith)))
unread_bytes telling old bytes e (Err none) is same = same_session telling old

module _ {P : Type 0} (telling : P → Telling) where
  -- over a store that doesn't report its rows
  bare_holds : (changes : List Change) (old new : P) → Holds telling changes old new → Holds {P = ℕ} counts_faults changes (telling old).faults (telling new).faults
  bare_holds [] old new same = ap (λ s. (telling s).faults) same
  bare_holds (c ∷ cs) old new holds = record { rows = refl; old_rows = refl; commits = refl; later = holds.later }

  bare : (old : Session P) (hall : HallView P) (event : Event) (o : Outcome) → (o ≡ Wants → ⊥) → Comes telling old.hall hall old.given event o
      → Comes {P = ℕ} counts_faults (hall_of (machine_of old) (telling old.hall.store).faults) (hall_of (machine_of (over old hall)) (telling hall.store).faults) old.given event o
  bare old hall event (Answers t) some (told, ledger, tenants, holds) = (told, ledger, tenants, bare_holds (commits (decided old.hall old.given event)) old.hall.store hall.store holds)
  bare old hall event Wants some comes = absurd (some refl)
  bare old hall event Fails some (changes, ledger, tenants, refuses, rose) = (changes, ledger, tenants, record { rows = refl; old_rows = refl; commits = refl; later = refuses.later }, rose)

  -- ---- one event

  -- the hall answers
  pub met : (old : Session P) (hall : HallView P) (event : Event) (t : Told) → Comes telling old.hall hall old.given event (Answers t)
      → GoesTo telling old (over old hall) (Meets (machine_of old) event) (outcome_of t)
  met old hall event t comes = (
    0,
    (
      (Answers t, (telling old.hall.store).faults, (telling hall.store).faults, (refl, refl), refl, refl, bare old hall event (Answers t) (λ e. cc) comes),
      rose_none (telling old.hall.store).faults (telling hall.store).faults (comes_later telling old.hall hall old.given event (Answers t) comes),
    ),
  )

  -- or the store fails
  pub failed : (old : Session P) (hall : HallView P) (event : Event) → Comes telling old.hall hall old.given event Fails
      → GoesTo telling old (over old hall) (Meets (machine_of old) event) (fault_of event)
  failed old hall event comes = (
    1,
    (
      (Fails, (telling old.hall.store).faults, (telling hall.store).faults, (refl, refl), refl, refl, bare old hall event Fails (λ e. cc) comes),
      rose_once (telling old.hall.store).faults (telling hall.store).faults comes.3.later comes.4,
    ),
  )

  -- or out of memory: whatever the outcome of the event, the session goes on
  gone_on : (old : Session P) (hall : HallView P) (event : Event) (o : Outcome) → Comes telling old.hall hall old.given event o → IsLater telling old (over old hall)
  gone_on old hall event o comes = record { behind = comes_behind telling old.hall hall old.given event o comes; count = comes_later telling old.hall hall old.given event o comes }

  pub wanted : (old : Session P) (hall : HallView P) (event : Event) → Comes telling old.hall hall old.given event Wants → IsLater telling old (over old hall)
  wanted old hall event comes = gone_on old hall event Wants comes

  pub wanted_so : (old : Session P) (hall : HallView P) (event : Event) (o : Outcome) (r : Result StatementOutcome Want) → IsErr r → Comes telling old.hall hall old.given event o
      → ComesTo telling old (over old hall) (Meets (machine_of old) event) r
  wanted_so old hall event o r is comes = wants_so telling old (over old hall) (Meets (machine_of old) event) r is (gone_on old hall event o comes)

  -- ---- requests

  outcome_of_reply : (t : Told) (reply : Reply) → reply_in t ≡ Some reply → outcome_of t ≡ Asked reply
  outcome_of_reply (tells.Opened happened) reply is = cc
  outcome_of_reply (tells.Asked r) reply is = let e : r ≡ reply = cc in ap Asked e
  outcome_of_reply (tells.Full answer) reply is = cc
  outcome_of_reply (tells.Called called) reply is = cc
  outcome_of_reply (tells.Fired fired) reply is = cc
  outcome_of_reply (tells.Deployed deployed) reply is = cc
  outcome_of_reply (tells.Next order) reply is = cc
  outcome_of_reply (tells.Answered answered) reply is = cc
  outcome_of_reply (tells.NoRun run back) reply is = cc
  outcome_of_reply tells.Done reply is = cc
  outcome_of_reply (tells.Refused refusal) reply is = cc
  outcome_of_reply (tells.Swept swept) reply is = cc
  outcome_of_reply (tells.Collected collected) reply is = cc
  outcome_of_reply (tells.Drain drain) reply is = cc
  outcome_of_reply (tells.Reopened happened) reply is = cc

  asked_by : (old : Session P) (hall : HallView P) (q : HttpRequest) (reply : Reply) (o : Outcome) → Replies (Ok reply) o
      → Comes telling old.hall hall old.given (events.Asked q) o → GoesTo telling old (over old hall) (Meets (machine_of old) (events.Asked q)) (Asked reply)
  asked_by old hall q reply (Answers t) replies comes =
      subst (λ outcome. GoesTo telling old (over old hall) (Meets (machine_of old) (events.Asked q)) outcome) (outcome_of_reply t reply replies) (met old hall (events.Asked q) t comes)
  asked_by old hall q reply Wants never comes = absurd never
  asked_by old hall q reply Fails is comes =
      subst (λ r. GoesTo telling old (over old hall) (Meets (machine_of old) (events.Asked q)) (Asked r)) (sym is) (failed old hall (events.Asked q) comes)

  -- a request is answered
  pub asked : (old : Session P) (hall : HallView P) (q : HttpRequest) (reply : Reply)
      → (o : Outcome) × Replies (Ok reply) o × Comes telling old.hall hall old.given (events.Asked q) o → GoesTo telling old (over old hall) (Meets (machine_of old) (events.Asked q)) (Asked reply)
  asked old hall q reply (o, replies, comes) = asked_by old hall q reply o replies comes

  -- ---- calls

  called_by : (old : Session P) (hall : HallView P) (name : FullName) (params : Pairs) (c : Called) (o : Outcome) → IsCalled (Ok c) o
      → Comes telling old.hall hall old.given (events.Called name params) o → GoesTo telling old (over old hall) (Meets (machine_of old) (events.Called name params)) (outcomes.Called c)
  called_by old hall name params c (Answers t) is comes =
      met old hall (events.Called name params) (tells.Called c) (subst (λ a. Comes telling old.hall hall old.given (events.Called name params) (Answers a)) is comes)
  called_by old hall name params c Wants never comes = absurd never
  called_by old hall name params c Fails is comes =
      subst (λ x. GoesTo telling old (over old hall) (Meets (machine_of old) (events.Called name params)) (outcomes.Called x)) (sym is) (failed old hall (events.Called name params) comes)

  pub called : (old : Session P) (hall : HallView P) (name : FullName) (params : Pairs) (c : Called)
      → (o : Outcome) × IsCalled (Ok c) o × Comes telling old.hall hall old.given (events.Called name params) o → GoesTo telling old (over old hall) (Meets (machine_of old) (events.Called name params)) (outcomes.Called c)
  called old hall name params c (o, is, comes) = called_by old hall name params c o is comes

  -- ---- replies that aren't taken

  pub denied : (old : Session P) (hall : HallView P) (run : ℕ) (reply : RunReply) (refused : AnswerRefusal) (r : Result StatementOutcome Want)
      → Comes telling old.hall hall old.given (events.Answered run reply) (reply_outcome (Err refused)) → Denies refused r
      → ComesTo telling old (over old hall) (Meets (machine_of old) (events.Answered run reply)) r
  denied old hall run reply (NoRun number back) (Ok outcome) comes is =
      subst (λ d. GoesTo telling old (over old hall) (Meets (machine_of old) (events.Answered run reply)) d) (sym is) (met old hall (events.Answered run reply) (tells.NoRun number back) comes)
  denied old hall run reply (NoMemory back) (Ok outcome) comes never = absurd never
  denied old hall run reply (StoreFault back) (Ok outcome) comes is =
      subst (λ d. GoesTo telling old (over old hall) (Meets (machine_of old) (events.Answered run reply)) d) (sym is) (failed old hall (events.Answered run reply) comes)
  denied old hall run reply refused (Err e) comes is = gone_on old hall (events.Answered run reply) (reply_outcome (Err refused)) comes

  -- ---- reports on containers

  pub taken : (old : Session P) (hall : HallView P) (event : Event) (r : Result (Unit {0}) FloorRefusal)
      → Comes telling old.hall hall old.given event (done_outcome r) → GoesTo telling old (over old hall) (Meets (machine_of old) event) (told_of r)
  taken old hall event (Ok tt) comes = met old hall event tells.Done comes
  taken old hall event (Err refusal) comes = met old hall event (tells.Refused refusal) comes

  -- ---- turns

  -- events that the hall met one after the other
  chained : (old : Session P) (hall : HallView P) (left : List (Laid PlainContainer)) (xs : List Exchange) → Chain telling old.hall hall old.given xs
      → ExchangesAll (machine_of old) xs (with_shelf old hall left)
  chained old hall left [] same = ap (λ h. with_shelf old h left) same
  chained old hall left (x ∷ xs) (middle, (comes, rest)) = (
    machine_of (over old middle),
    ((telling old.hall.store).faults, (telling middle.store).faults, refl, bare old middle x.event (Answers x.answer) (λ e. cc) comes),
    chained (over old middle) hall left xs rest,
  )

  pub turned : (old : Session P) (hall : HallView P) (runner : PlainRunner) (left : List (Laid PlainContainer)) (t : Turned) (before now : ℕ)
      → TurnsTo telling plain_giving (plain_tally before) (plain_tally now) old.hall hall old.given old.shelf left (Ok t) → GoesTo telling old (behind_turn old hall runner left) (Does (machine_of old) Turn) (outcomes.Turned t)
  turned old hall runner left t ran now (inl (xs, (turn, chain, steps))) = (
    0,
    (
      (t, refl, inl (refl, record { exchanges = xs; before = ran; now = now; turn = turn; met = chained old hall left xs chain; steps = steps })),
      rose_none (telling old.hall.store).faults (telling hall.store).faults (chain_later telling old.hall hall old.given xs chain),
    ),
  )
  turned old hall runner left t ran now (inr (xs, (event, (turn, (middle, (chain, comes)), steps)))) =
      let before = rose_none (telling old.hall.store).faults (telling middle.store).faults (chain_later telling old.hall middle old.given xs chain) in
      let last = rose_once (telling middle.store).faults (telling hall.store).faults comes.3.later comes.4 in (
        1,
        (
          (
            t,
            refl,
            inr (
              refl,
              record {
                exchanges = xs;
                event = event;
                before = ran;
                now = now;
                turn = turn;
                middle = with_shelf old middle old.shelf;
                met = chained old middle old.shelf xs chain;
                fails = ((telling middle.store).faults, (telling hall.store).faults, refl, bare (over old middle) hall event Fails (λ e. cc) comes);
                steps = steps;
              },
            ),
          ),
          rose_then 0 1 (telling old.hall.store).faults (telling middle.store).faults (telling hall.store).faults before last,
        ),
      )

  -- the turn ends early
  stopped : (old : Session P) (hall : HallView P) (runner : PlainRunner) (left : List (Laid PlainContainer)) (r : Result Turned Want) (before now : ℕ)
      → TurnsTo telling plain_giving (plain_tally before) (plain_tally now) old.hall hall old.given old.shelf left r → IsLater telling old (behind_turn old hall runner left)
  stopped old hall runner left (Ok t) ran now (inl (xs, (turn, chain, steps))) =
      record { behind = chain_behind telling old.hall hall old.given xs chain; count = chain_later telling old.hall hall old.given xs chain }
  stopped old hall runner left (Ok t) ran now (inr (xs, (event, (turn, chain, steps)))) =
      record { behind = chain_to_behind telling old.hall hall old.given xs event Fails chain; count = chain_to_later telling old.hall hall old.given xs event Fails chain }
  stopped old hall runner left (Err e) ran now (inl (xs, (begins, chain))) =
      record { behind = chain_behind telling old.hall hall old.given xs chain; count = chain_later telling old.hall hall old.given xs chain }
  stopped old hall runner left (Err e) ran now (inr (order, (xs, (event, (offers, undone))))) =
      record { behind = undone_behind telling old.hall hall old.given xs event undone; count = undone_later telling old.hall hall old.given xs event undone }

  pub stopped_so : (old : Session P) (hall : HallView P) (runner : PlainRunner) (left : List (Laid PlainContainer)) (t : Result Turned Want) (r : Result StatementOutcome Want) (before now : ℕ) → IsErr r
      → TurnsTo telling plain_giving (plain_tally before) (plain_tally now) old.hall hall old.given old.shelf left t → ComesTo telling old (behind_turn old hall runner left) (Does (machine_of old) Turn) r
  stopped_so old hall runner left t r before now is turns = wants_so telling old (behind_turn old hall runner left) (Does (machine_of old) Turn) r is (stopped old hall runner left t before now turns)
