-- One call of the hall, as one relation: the hall before, the moment, the event, the outcome, and the hall after.
use Rattle.std.specs.Prelude.{◌≡◌, ◌≢◌, ◌≤◌, ◌⊎◌, ℕ, List, [], ◌∷◌, Option, Some, None, Result, Ok, Err}
use Rattle.ow_traits.specs.Telling.{Telling, made, unmade, with_attempt}
use Rattle.ow_traits.specs.Changes.{changed, old_after}
use Rattle.ow_traits.specs.Streams.{Rose}
use Rattle.ow_traits.specs.declared.change_list.Change.{Change}
use Rattle.ow_value.specs.declared.memory.NoMemory.{NoMemory as Want}
use Rattle.ow_http.specs.Refused.{refusal_of}
use Rattle.ow_http.specs.declared.reason.Reason.{Reason}
use Rattle.ow_http.specs.declared.reason.Reason.TheVariants.{Service}
use Rattle.ow_http.specs.declared.service_refusal.ServiceRefusal.TheVariants as services
use Rattle.ow_floor.specs.declared.answers.Answered.{Answered}
use Rattle.ow_floor.specs.declared.answers.AnswerRefusal.{AnswerRefusal}
use Rattle.ow_floor.specs.declared.answers.AnswerRefusal.TheVariants.{NoRun, NoMemory, StoreFault}
use Rattle.ow_floor.specs.declared.answers.Drain.{Drain}
use Rattle.ow_floor.specs.declared.answers.Happening.{Happening}
use Rattle.ow_floor.specs.declared.answers.FloorRefusal.{FloorRefusal}
use Rattle.ow_floor.specs.declared.answers.Order.{Order}
use Rattle.ow_floor.specs.declared.answers.Swept.{Swept}
use Rattle.ow_decide.specs.declared.events.Event.{Event}
use Rattle.ow_decide.specs.declared.events.Told.{Told}
use Rattle.ow_decide.specs.declared.events.Told.TheVariants as told
use Rattle.ow_decide.specs.declared.replies.Called.{Called}
use Rattle.ow_decide.specs.declared.replies.Called.TheVariants as called
use Rattle.ow_decide.specs.declared.replies.Deployed.{Deployed}
use Rattle.ow_decide.specs.declared.replies.Deployed.TheVariants as deployments
use Rattle.ow_decide.specs.declared.replies.Fired.{Fired}
use Rattle.ow_decide.specs.declared.replies.Fired.TheVariants as fires
use Rattle.ow_decide.specs.declared.replies.HallCollected.{HallCollected}
use Rattle.ow_decide.specs.declared.replies.Reply.{Reply}
use Rattle.ow_decide.specs.declared.replies.Reply.TheVariants as replies
use Rattle.ow_tenant.specs.Table.{Table}
use Rattle.ow_decide.specs.Asking.{reply_in}
use Rattle.ow_decide.specs.Decision.{commits, Decision}
use Rattle.ow_decide.specs.Decisions.{taken_told}
use Rattle.ow_commits.specs.Kept.{kept_whole}
use Rattle.ow_hall.specs.History.{Seen, answer, decision, moment, seen}
use Rattle.ow_hall.specs.Ledger.{Ledger, faulted, posted}
use Rattle.ow_hall.specs.declared.refusals.SweepRefusal.{SweepRefusal}
use Rattle.ow_hall.specs.declared.refusals.SweepRefusal.TheVariants as sweeps

-- a hall: the office table, its ledger, and its store
pub record HallView (P : Type 0) : Type 0 where
  pub tenants : Table
  pub ledger : Ledger
  pub store : P

-- the outcome of an event: it is answered, no memory is left, or the store fails
pub data Outcome : Type 0 where
  Answers : (answer : Told) → Outcome
  Wants : Outcome
  Fails : Outcome

-- ---- what is kept by the store

-- rows of a key and a text, where the keeper reports them
abbrev pub KeptRows : Type 0
KeptRows = Option (List (List ℕ × List ℕ))

-- what is kept of all that is seen
abbrev pub kept_of : Seen → List (List ℕ × List ℕ)
kept_of s = kept_whole s.others s.rows s.trace

-- a store that reports its rows holds these; `HoldsBook`: it holds the rows that are kept of a book
abbrev pub HoldsRows : KeptRows → List (List ℕ × List ℕ) → Type 0
HoldsRows None rows = Unit {0}
HoldsRows (Some told) rows = told ≡ rows

abbrev pub HoldsBook : KeptRows → Table → Ledger → Type 0
HoldsBook told t L = HoldsRows told (kept_of (seen t L.entries))

abbrev pub kept_after : List Change → KeptRows → KeptRows
kept_after changes None = None
kept_after changes (Some rows) = Some (changed changes rows)

-- the same of old rows: those that the changes retire are among them
abbrev pub old_kept_after : List Change → KeptRows → KeptRows
old_kept_after changes None = None
old_kept_after changes (Some old_rows) = Some (old_after changes old_rows)

-- a store is asked to commit once, and commits. It holds what it held, with these changes
pub record Makes {P : Type 0} (telling : P → Telling) (changes : List Change) (old new : P) : Type 0 where
  pub rows : (telling new).rows ≡ kept_after changes (telling old).rows
  pub old_rows : (telling new).old_rows ≡ old_kept_after changes (telling old).old_rows
  pub commits : (telling new).commits ≡ with_attempt (made changes) (telling old).commits
  pub later : (telling old).faults ≤ (telling new).faults

-- it is asked once, and doesn't commit. Its rows and its old rows stay
pub record Refuses {P : Type 0} (telling : P → Telling) (changes : List Change) (old new : P) : Type 0 where
  pub rows : (telling new).rows ≡ (telling old).rows
  pub old_rows : (telling new).old_rows ≡ (telling old).old_rows
  pub commits : (telling new).commits ≡ with_attempt (unmade changes) (telling old).commits
  pub later : (telling old).faults ≤ (telling new).faults

-- these changes are committed by one commit; where there is none the store isn't asked
abbrev pub Holds : {P : Type 0} → (P → Telling) → List Change → P → P → Type 0
Holds telling [] old new = new ≡ old
Holds telling (c ∷ cs) old new = Makes telling (c ∷ cs) old new

-- no memory is left, and no change is made: the store isn't asked, or it is asked once, and runs out of memory. Where there is no change
-- to be made it isn't asked
abbrev pub Stays : {P : Type 0} → (P → Telling) → List Change → P → P → Type 0
Stays telling [] old new = new ≡ old
Stays telling (c ∷ cs) old new = (new ≡ old) ⊎ Refuses telling (c ∷ cs) old new

-- ---- the relation

-- at the moment that is booked
abbrev pub at_hall : {P : Type 0} → HallView P → ℕ → ℕ
at_hall h at = moment h.ledger.entries at

abbrev pub decided : {P : Type 0} → HallView P → ℕ → Event → Decision
decided h at event = decision h.tenants h.ledger.entries (at_hall h at) event

-- the answer is the one answer, and it is posted, and kept by the store. Where no memory is left nothing has changed. The store fails
-- only where a change was to be kept, at one commit, and then nothing has changed except the tally
abbrev pub Comes : {P : Type 0} → (P → Telling) → HallView P → HallView P → ℕ → Event → Outcome → Type 0
Comes telling old new at event (Answers t) = (t ≡ answer old.tenants old.ledger.entries (at_hall old at) event)
    × (new.ledger ≡ posted old.ledger (at_hall old at) event t) × (new.tenants ≡ old.tenants)
    × Holds telling (commits (decided old at event)) old.store new.store
Comes telling old new at event Wants = (new.ledger ≡ old.ledger) × (new.tenants ≡ old.tenants) × Stays telling (commits (decided old at event)) old.store new.store
Comes telling old new at event Fails = (commits (decided old at event) ≢ []) × (new.ledger ≡ faulted old.ledger) × (new.tenants ≡ old.tenants)
    × Refuses telling (commits (decided old at event)) old.store new.store × Rose (telling old.store).faults (telling new.store).faults

-- ---- the results of the calls

-- the store failed
abbrev pub store_failed : Reason
store_failed = Service services.StoreFault

-- a call of the office. Where the store fails it is refused
abbrev pub IsCalled : Result Called Want → Outcome → Type 0
IsCalled (Ok c) (Answers t) = t ≡ told.Called c
IsCalled (Ok c) Fails = c ≡ called.Refused store_failed
IsCalled (Ok c) Wants = ⊥
IsCalled (Err e) o = o ≡ Wants

-- a fire of the office. Where the store fails it is refused
abbrev pub IsFired : Result Fired Want → Outcome → Type 0
IsFired (Ok f) (Answers t) = t ≡ told.Fired f
IsFired (Ok f) Fails = f ≡ fires.Refused store_failed
IsFired (Ok f) Wants = ⊥
IsFired (Err e) o = o ≡ Wants

-- a deployment of the office. Where the store fails it is refused as a whole
abbrev pub IsDeployed : Result Deployed Want → Outcome → Type 0
IsDeployed (Ok d) (Answers t) = t ≡ told.Deployed d
IsDeployed (Ok d) Fails = d ≡ deployments.Refused 0 store_failed
IsDeployed (Ok d) Wants = ⊥
IsDeployed (Err e) o = o ≡ Wants

-- a runner that asks
abbrev pub next_outcome : Result Order Want → Outcome
next_outcome (Ok order) = Answers (told.Next order)
next_outcome (Err e) = Wants

-- a runner that replies. A refusal hands the run's number and the reply back
abbrev pub reply_outcome : Result Answered AnswerRefusal → Outcome
reply_outcome (Ok answered) = Answers (told.Answered answered)
reply_outcome (Err (NoRun run reply)) = Answers (told.NoRun run reply)
reply_outcome (Err (NoMemory reply)) = Wants
reply_outcome (Err (StoreFault reply)) = Fails

-- a beginning, a loss or a going
abbrev pub done_outcome : Result (Unit {0}) FloorRefusal → Outcome
done_outcome taken = Answers (taken_told taken)

-- a sweep
abbrev pub swept_outcome : Result Swept SweepRefusal → Outcome
swept_outcome (Ok swept) = Answers (told.Swept swept)
swept_outcome (Err sweeps.NoMemory) = Wants
swept_outcome (Err sweeps.StoreFault) = Fails

-- a service that is opened again
abbrev pub reopened_outcome : Result (List Happening) SweepRefusal → Outcome
reopened_outcome (Ok happened) = Answers (told.Reopened happened)
reopened_outcome (Err sweeps.NoMemory) = Wants
reopened_outcome (Err sweeps.StoreFault) = Fails

-- the office that drains
abbrev pub drain_outcome : Result Drain Want → Outcome
drain_outcome (Ok drain) = Answers (told.Drain drain)
drain_outcome (Err e) = Wants

-- an activation that is collected
abbrev pub collect_outcome : Result HallCollected Want → Outcome
collect_outcome (Ok c) = Answers (told.Collected c)
collect_outcome (Err e) = Wants

-- the result of a runner's reply, by the answer
abbrev pub replied_in : Told → Option (Result Answered AnswerRefusal)
replied_in (told.Answered answered) = Some (Ok answered)
replied_in (told.NoRun run reply) = Some (Err (NoRun run reply))
replied_in t = None

-- what a request is answered where the store fails
abbrev pub store_reply : Reply
store_reply = replies.Now (refusal_of store_failed)

-- a request
abbrev pub Replies : Result Reply Want → Outcome → Type 0
Replies (Ok reply) (Answers t) = reply_in t ≡ Some reply
Replies (Ok reply) Fails = reply ≡ store_reply
Replies (Ok reply) Wants = ⊥
Replies (Err e) o = o ≡ Wants
