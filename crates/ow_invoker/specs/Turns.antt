-- What one turn results in: a chain of calls of the hall, what the turn reports of them, and what lies on the shelf afterwards.
use Rattle.std.specs.Prelude.{◌≡◌, ◌⊎◌, ◌&&◌, ◌++◌, ℕ, Bool, true, false, not, List, [], ◌∷◌, Result, Ok, Err, if◌then◌else◌}
use Rattle.ow_traits.specs.Telling.{Telling}
use Rattle.ow_traits.specs.Runner.{Giving, RanNone, RanOnce, RefusesCode, RefusesStart, Replies, Tally, is_answer}
use Rattle.ow_traits.specs.declared.replies.Kind.{Kind}
use Rattle.ow_traits.specs.declared.replies.RunReply.{RunReply}
use Rattle.ow_value.specs.declared.memory.NoMemory.{NoMemory as Want}
use Rattle.ow_slots.specs.State.{is_cold, is_warm}
use Rattle.ow_slots.specs.declared.keys.Start.{Start}
use Rattle.ow_slots.specs.declared.keys.Start.TheVariants as starts
use Rattle.ow_floor.specs.declared.answers.Answered.TheVariants.{Late, Recorded}
use Rattle.ow_floor.specs.declared.answers.Container.{Container}
use Rattle.ow_floor.specs.declared.answers.Order.{Order}
use Rattle.ow_floor.specs.declared.answers.Order.TheVariants as orders
use Rattle.ow_floor.specs.declared.answers.PrewarmOrder.{PrewarmOrder}
use Rattle.ow_floor.specs.declared.answers.RunOrder.{RunOrder}
use Rattle.ow_decide.specs.declared.events.Event.{Event}
use Rattle.ow_decide.specs.declared.events.Event.TheVariants as events
use Rattle.ow_decide.specs.declared.events.Told.{Told}
use Rattle.ow_decide.specs.declared.events.Told.TheVariants as told
use Rattle.ow_hall.specs.Comes.{Answers, Comes, Fails, HallView, Outcome, Wants}
use Rattle.ow_invoker.specs.Shelf.{IsLaid, lies, without}
use Rattle.ow_invoker.specs.declared.shelf.Laid.{Laid}
use Rattle.ow_invoker.specs.declared.turn.TurnStep.{TurnStep}
use Rattle.ow_invoker.specs.declared.turn.TurnStep.TheVariants.{Gone, Happened, Lost, StoreFault}
use Rattle.ow_invoker.specs.declared.turn.Turned.{Turned}

-- ---- chains

-- an event, and the hall's answer
pub record Exchange : Type 0 where
  pub event : Event
  pub answer : Told

abbrev pub exchange : Event → Told → Exchange
exchange e t = record { event = e; answer = t }

-- events that the hall answered at one moment, the earliest first; without any the hall is what it was
abbrev pub Chain : {P : Type 0} → (P → Telling) → HallView P → HallView P → ℕ → List Exchange → Type 0
Chain telling old new at [] = new ≡ old
Chain {P} telling old new at (x ∷ xs) = (middle : HallView P) × (Comes telling old middle at x.event (Answers x.answer) × Chain telling middle new at xs)

-- after such events follows one more, with this outcome
abbrev pub ChainTo : {P : Type 0} → (P → Telling) → HallView P → HallView P → ℕ → List Exchange → Event → Outcome → Type 0
ChainTo {P} telling old new at xs event outcome = (middle : HallView P) × (Chain telling old middle at xs × Comes telling middle new at event outcome)

-- the last event isn't carried out: there is no memory for it, or the store fails
abbrev pub ChainUndone : {P : Type 0} → (P → Telling) → HallView P → HallView P → ℕ → List Exchange → Event → Type 0
ChainUndone telling old new at xs event = ChainTo telling old new at xs event Wants ⊎ ChainTo telling old new at xs event Fails

-- ---- what a turn reports

-- the loss of a run and the going of a container, where the hall accepted them, and what happened at the end of a run
abbrev pub steps_of : Event → Told → List TurnStep
steps_of (events.Lost run) told.Done = Lost run ∷ []
steps_of (events.Gone slot generation) told.Done = Gone slot generation ∷ []
steps_of (events.Answered run reply) (told.Answered (Recorded happened)) = Happened happened ∷ []
steps_of event answer = []

abbrev pub steps_in : List Exchange → List TurnStep
steps_in [] = []
steps_in (x ∷ xs) = steps_of x.event x.answer ++ steps_in xs

-- ---- events of one order

abbrev pub lost : RunOrder → Event
lost order = events.Lost order.run

-- the container of the order is gone
abbrev pub gone : RunOrder → Event
gone order = events.Gone order.slot order.generation

abbrev pub gone_of : Container → Event
gone_of container = events.Gone container.slot container.generation

-- this event alone
abbrev pub IsAlone : Event → List Exchange → Type 0
IsAlone event xs = (answer : Told) × (xs ≡ exchange event answer ∷ [])

-- these two
abbrev pub AreBoth : Event → Event → List Exchange → Type 0
AreBoth first second xs = (answer : Told) × (later : Told) × (xs ≡ exchange first answer ∷ exchange second later ∷ [])

-- ---- runs

-- whether a sweep had ended what the run carried
abbrev pub is_late : Told → Bool
is_late (told.Answered (Late run at)) = true
is_late answer = false

-- whether the run needs a container that doesn't lie there
abbrev pub is_missing : {B : Type 0} → RunOrder → List (Laid B) → Bool
is_missing order shelf = not (is_cold order.start) && not (lies order.slot order.generation shelf)

-- the shelf while the run has its container: a new one was started, any other one was taken
abbrev pub shelf_at : {B : Type 0} → RunOrder → List (Laid B) → List (Laid B)
shelf_at order shelf = if is_cold order.start then shelf else without order.slot order.generation shelf

-- where a run has a new container, the runner starts those of the code's kind
abbrev pub StartsBy : Start → Giving → Kind → Type 0
StartsBy starts.Cold gives kind = gives.starts kind
StartsBy starts.Prewarmed gives kind = Unit {0}
StartsBy starts.Warm gives kind = Unit {0}

abbrev pub IsStarted : Giving → RunOrder → Type 0
IsStarted gives order = StartsBy order.start gives order.kind

-- the hall is notified that the run began, where its start isn't warm
abbrev pub OpensBy : Bool → RunOrder → List Exchange → Type 0
OpensBy true order xs = xs ≡ []
OpensBy false order xs = IsAlone (events.Begun order.run) xs

-- the hall is notified that the run began, where its start isn't warm. That is left out only where the code is refused, which is then
-- not run; else the code is run once
abbrev pub Opens : Giving → Tally → Tally → RunOrder → RunReply → List Exchange → Type 0
Opens gives before now order reply [] = ((is_warm order.start ≡ true) × RanOnce before now) ⊎ (RefusesCode gives before now order.kind order.code reply × RanNone before now)
Opens gives before now order reply (x ∷ xs) =
    (is_warm order.start ≡ false) × IsStarted gives order × (x.event ≡ events.Begun order.run) × (xs ≡ []) × RanOnce before now

-- after an answer in time the container lies on the shelf
abbrev pub StaysLaid : {B : Type 0} → RunOrder → List (Laid B) → List Exchange → List (Laid B) → Type 0
StaysLaid order shelf xs left = (xs ≡ []) × IsLaid order.slot order.generation shelf left

-- after an answer that came late the container is taken back, and gone
abbrev pub TakenBack : {B : Type 0} → RunOrder → List (Laid B) → List Exchange → List (Laid B) → Type 0
TakenBack {B} order shelf xs left =
    IsAlone (gone order) xs × ((laid : List (Laid B)) × (IsLaid order.slot order.generation shelf laid × (left ≡ without order.slot order.generation laid)))

-- after another reply the container is gone
abbrev pub Ended : {B : Type 0} → RunOrder → List (Laid B) → List Exchange → List (Laid B) → Type 0
Ended order shelf xs left = IsAlone (gone order) xs × (left ≡ shelf)

-- by whether it is an answer, and came late
abbrev pub Rests : {B : Type 0} → Bool → Bool → RunOrder → List (Laid B) → List Exchange → List (Laid B) → Type 0
Rests true false order shelf xs left = StaysLaid order shelf xs left
Rests true true order shelf xs left = TakenBack order shelf xs left
Rests false late order shelf xs left = Ended order shelf xs left

-- a reply is booked, and what becomes of the container follows
pub record IsSettled {B : Type 0} (order : RunOrder) (reply : RunReply) (shelf : List (Laid B)) (xs : List Exchange) (left : List (Laid B)) : Type 0 where
  pub answer : Told
  pub ending : List Exchange
  pub is : xs ≡ exchange (events.Answered order.run reply) answer ∷ ending
  pub rests : Rests (is_answer reply) (is_late answer) order shelf ending left

-- the hall is notified that the run began, where that is due, and of a reply that the runner gives, or of a fault where its count rose
pub record IsCarriedOut {B : Type 0} (gives : Giving) (before now : Tally) (order : RunOrder) (shelf : List (Laid B)) (xs : List Exchange) (left : List (Laid B)) : Type 0 where
  pub reply : RunReply
  pub replies : Replies gives before now order.kind order.code order.params reply
  pub opening : List Exchange
  pub opens : Opens gives before now order reply opening
  pub booking : List Exchange
  pub settled : IsSettled order reply shelf booking left
  pub is : xs ≡ opening ++ booking

-- a run whose container doesn't lie there is lost, and no code is run; any other one is carried out
abbrev pub RunFollows : {B : Type 0} → Bool → Giving → Tally → Tally → RunOrder → List (Laid B) → List Exchange → List (Laid B) → Type 0
RunFollows true gives before now order shelf xs left = IsAlone (lost order) xs × (left ≡ shelf) × RanNone before now
RunFollows false gives before now order shelf xs left = IsCarriedOut gives before now order (shelf_at order shelf) xs left

-- ---- orders

-- a container is laid down before its prewarming has begun
abbrev pub IsWarmed : {B : Type 0} → PrewarmOrder → List (Laid B) → List Exchange → List (Laid B) → Type 0
IsWarmed order shelf xs left = IsAlone (events.Begun order.run) xs × IsLaid order.slot order.generation shelf left

-- a prewarming fails
abbrev pub IsUnwarmed : {B : Type 0} → PrewarmOrder → List (Laid B) → List Exchange → List (Laid B) → Type 0
IsUnwarmed order shelf xs left = AreBoth (events.Lost order.run) (events.Gone order.slot order.generation) xs × (left ≡ shelf)

-- it comes up only where the runner starts containers of its kind, and fails only where the runner refuses its start
abbrev pub PrewarmFollows : {B : Type 0} → Giving → Tally → Tally → PrewarmOrder → List (Laid B) → List Exchange → List (Laid B) → Type 0
PrewarmFollows gives before now order shelf xs left =
    (gives.starts order.kind × IsWarmed order shelf xs left) ⊎ (((reply : RunReply) × RefusesStart gives before now order.kind reply) × IsUnwarmed order shelf xs left)

-- containers are taken where they lie there, and each is gone
abbrev pub Removes : {B : Type 0} → List Container → List (Laid B) → List Exchange → List (Laid B) → Type 0
Removes [] shelf xs left = (xs ≡ []) × (left ≡ shelf)
Removes (c ∷ cs) shelf [] left = ⊥
Removes (c ∷ cs) shelf (x ∷ xs) left = (x.event ≡ gone_of c) × Removes cs (without c.slot c.generation shelf) xs left

-- what follows an order; only a run's runs code
abbrev pub Follows : {B : Type 0} → Giving → Tally → Tally → List (Laid B) → Order → List Exchange → List (Laid B) → Type 0
Follows gives before now shelf (orders.Run order) xs left = RunFollows (is_missing order shelf) gives before now order shelf xs left
Follows gives before now shelf (orders.Prewarm order) xs left = PrewarmFollows gives before now order shelf xs left × RanNone before now
Follows gives before now shelf (orders.Remove containers) xs left = Removes containers shelf xs left × RanNone before now
Follows gives before now shelf (orders.Nothing why) xs left = (xs ≡ []) × (left ≡ shelf) × RanNone before now

-- ---- out of memory, and faults of the store

-- out of memory before there is a reply: the container is stopped, and the run is lost. Its code was run once, as a run that began; or
-- the container wasn't ready, and the code wasn't run
pub record IsGivenUp {B : Type 0} (before now : Tally) (order : RunOrder) (shelf : List (Laid B)) (xs : List Exchange) (left : List (Laid B)) : Type 0 where
  pub opening : List Exchange
  pub opens : (OpensBy (is_warm order.start) order opening × RanOnce before now) ⊎ ((opening ≡ []) × (is_warm order.start ≡ false) × RanNone before now)
  pub ending : List Exchange
  pub ends : AreBoth (lost order) (gone order) ending
  pub is : xs ≡ opening ++ ending
  pub left_is : left ≡ shelf

-- there is no room for the container of an answer: it is stopped, and the reply isn't booked. What was booked before stays booked
pub record IsUnlaid {B : Type 0} (gives : Giving) (before now : Tally) (order : RunOrder) (shelf : List (Laid B)) (xs : List Exchange) (left : List (Laid B)) : Type 0 where
  pub reply : RunReply
  pub replies : Replies gives before now order.kind order.code order.params reply
  pub opens : Opens gives before now order reply xs
  pub left_is : left ≡ shelf

-- the container of an answer lies on the shelf, and any other was stopped
abbrev pub LiesBy : {B : Type 0} → Bool → RunOrder → List (Laid B) → List (Laid B) → Type 0
LiesBy true order shelf left = IsLaid order.slot order.generation shelf left
LiesBy false order shelf left = left ≡ shelf

-- a reply is to be booked: its container lies there already. What was booked before stays booked
pub record IsOffered {B : Type 0} (gives : Giving) (before now : Tally) (order : RunOrder) (reply : RunReply) (shelf : List (Laid B)) (xs : List Exchange) (left : List (Laid B)) : Type 0 where
  pub replies : Replies gives before now order.kind order.code order.params reply
  pub opens : Opens gives before now order reply xs
  pub lies : LiesBy (is_answer reply) order shelf left

abbrev pub RunStops : {B : Type 0} → Bool → Giving → Tally → Tally → RunOrder → List (Laid B) → List Exchange → List (Laid B) → Type 0
RunStops true gives before now order shelf xs left = ⊥
RunStops false gives before now order shelf xs left =
    IsGivenUp before now order (shelf_at order shelf) xs left ⊎ IsUnlaid gives before now order (shelf_at order shelf) xs left

-- what follows an order that isn't carried out to its end
abbrev pub Stops : {B : Type 0} → Giving → Tally → Tally → List (Laid B) → Order → List Exchange → List (Laid B) → Type 0
Stops gives before now shelf (orders.Run order) xs left = RunStops (is_missing order shelf) gives before now order shelf xs left
Stops gives before now shelf (orders.Prewarm order) xs left = IsUnwarmed order shelf xs left × RanNone before now
Stops gives before now shelf (orders.Remove containers) xs left = (xs ≡ []) × (left ≡ shelf) × RanNone before now
Stops gives before now shelf (orders.Nothing why) xs left = ⊥

abbrev pub RunOffers : {B : Type 0} → Bool → Giving → Tally → Tally → RunOrder → List (Laid B) → List Exchange → Event → List (Laid B) → Type 0
RunOffers true gives before now order shelf xs event left = ⊥
RunOffers false gives before now order shelf xs event left =
    (reply : RunReply) × ((event ≡ events.Answered order.run reply) × IsOffered gives before now order reply (shelf_at order shelf) xs left)

-- what follows an order up to its runner's reply, which is the next event
abbrev pub Offers : {B : Type 0} → Giving → Tally → Tally → List (Laid B) → Order → List Exchange → Event → List (Laid B) → Type 0
Offers gives before now shelf (orders.Run order) xs event left = RunOffers (is_missing order shelf) gives before now order shelf xs event left
Offers gives before now shelf other xs event left = ⊥

-- ---- turns

-- a turn: the order, and all that follows it
abbrev pub IsTurn : {B : Type 0} → Giving → Tally → Tally → List (Laid B) → Order → List Exchange → List (Laid B) → Type 0
IsTurn gives before now shelf order [] left = ⊥
IsTurn gives before now shelf order (x ∷ xs) left = (x ≡ exchange events.Next (told.Next order)) × Follows gives before now shelf order xs left

-- the first part of a turn: nothing, or the order, and what follows it until the memory runs out
abbrev pub BeginsTurn : {B : Type 0} → Giving → Tally → Tally → List (Laid B) → List Exchange → List (Laid B) → Type 0
BeginsTurn gives before now shelf [] left = (left ≡ shelf) × RanNone before now
BeginsTurn gives before now shelf (x ∷ xs) left =
    (order : Order) × ((x ≡ exchange events.Next (told.Next order)) × (Stops gives before now shelf order xs left ⊎ Follows gives before now shelf order xs left))

-- the order, and what follows it up to its runner's reply
abbrev pub OffersTurn : {B : Type 0} → Giving → Tally → Tally → List (Laid B) → Order → List Exchange → Event → List (Laid B) → Type 0
OffersTurn gives before now shelf order [] event left = ⊥
OffersTurn gives before now shelf order (x ∷ xs) event left = (x ≡ exchange events.Next (told.Next order)) × Offers gives before now shelf order xs event left

-- the turn is made, and reported
abbrev pub IsMade : {P B : Type 0} → (P → Telling) → Giving → Tally → Tally → HallView P → HallView P → ℕ → List (Laid B) → List (Laid B) → Turned → Type 0
IsMade telling gives before now old new at shelf left turned =
    (xs : List Exchange) × (IsTurn gives before now shelf turned.order xs left × Chain telling old new at xs × (turned.steps ≡ steps_in xs))

-- the store fails at the runner's reply: only that is reported after the order, and the run stays live
abbrev pub HasFailed : {P B : Type 0} → (P → Telling) → Giving → Tally → Tally → HallView P → HallView P → ℕ → List (Laid B) → List (Laid B) → Turned → Type 0
HasFailed telling gives before now old new at shelf left turned =
    (xs : List Exchange) × ((event : Event) × (OffersTurn gives before now shelf turned.order xs event left × ChainTo telling old new at xs event Fails × (turned.steps ≡ StoreFault ∷ [])))

-- the memory runs out: what was booked stays booked
abbrev pub HasStopped : {P B : Type 0} → (P → Telling) → Giving → Tally → Tally → HallView P → HallView P → ℕ → List (Laid B) → List (Laid B) → Type 0
HasStopped telling gives before now old new at shelf left = (xs : List Exchange) × (BeginsTurn gives before now shelf xs left × Chain telling old new at xs)

-- or it runs out for the reply, or after a fault of the store at the reply
abbrev pub HasStoppedLate : {P B : Type 0} → (P → Telling) → Giving → Tally → Tally → HallView P → HallView P → ℕ → List (Laid B) → List (Laid B) → Type 0
HasStoppedLate telling gives before now old new at shelf left =
    (order : Order) × ((xs : List Exchange) × ((event : Event) × (OffersTurn gives before now shelf order xs event left × ChainUndone telling old new at xs event)))

-- the outcome of a turn
abbrev pub Turns : {P B : Type 0} → (P → Telling) → Giving → Tally → Tally → HallView P → HallView P → ℕ → List (Laid B) → List (Laid B) → Result Turned Want → Type 0
Turns telling gives before now old new at shelf left (Ok turned) =
    IsMade telling gives before now old new at shelf left turned ⊎ HasFailed telling gives before now old new at shelf left turned
Turns telling gives before now old new at shelf left (Err e) =
    HasStopped telling gives before now old new at shelf left ⊎ HasStoppedLate telling gives before now old new at shelf left
