-- The parts of a turn, for private clauses.
use Rattle.std.specs.Prelude.{◌≡◌, ◌⊎◌, ◌++◌, ℕ, Bool, true, false, List, [], ◌∷◌, Option, Some, None, Result, Ok, Err}
use Rattle.ow_traits.specs.Telling.{Telling}
use Rattle.ow_traits.specs.Runner.{Giving, RefusesCode, RefusesStart, Tally, is_answer}
use Rattle.ow_traits.specs.declared.replies.RunReply.{RunReply}
use Rattle.ow_value.specs.declared.memory.NoMemory.{NoMemory as Want}
use Rattle.ow_slots.specs.State.{is_warm}
use Rattle.ow_floor.specs.declared.answers.Order.{Order}
use Rattle.ow_floor.specs.declared.answers.PrewarmOrder.{PrewarmOrder}
use Rattle.ow_floor.specs.declared.answers.RunOrder.{RunOrder}
use Rattle.ow_decide.specs.declared.events.Event.{Event}
use Rattle.ow_decide.specs.declared.events.Event.TheVariants as events
use Rattle.ow_decide.specs.declared.events.Told.{Told}
use Rattle.ow_hall.specs.Comes.{Answers, Comes, Fails, HallView, Outcome, Wants}
use Rattle.ow_invoker.specs.Shelf.{IsLaid, without}
use Rattle.ow_invoker.specs.Turns.{Chain, ChainTo, ChainUndone, Exchange, Follows, IsAlone, IsCarriedOut, IsGivenUp, IsOffered, IsSettled, IsStarted, IsUnlaid, LiesBy, Offers, Stops, exchange, gone, is_late, is_missing, shelf_at, steps_in, steps_of}
use Rattle.ow_invoker.specs.declared.readying.Readiness.{Readiness}
use Rattle.ow_invoker.specs.declared.readying.Readiness.TheVariants.{Early, NoMemory, NotHad, Up}
use Rattle.ow_invoker.specs.declared.shelf.Laid.{Laid}
use Rattle.ow_invoker.specs.declared.warming.Warming.{Warming}
use Rattle.ow_invoker.specs.declared.warming.Warming.TheVariants.{Down, Unheld, Warmed}
use Rattle.ow_invoker.specs.declared.turn.TurnStep.{TurnStep}
use Rattle.ow_invoker.specs.declared.turn.TurnStep.TheVariants.{StoreFault}
use Rattle.ow_invoker.specs.declared.turn.Turned.{Turned}

-- ---- the report on an order

abbrev pub listed : Option TurnStep → List TurnStep
listed None = []
listed (Some step) = step ∷ []

-- at most two things
abbrev pub TwoSteps : Type 0
TwoSteps = Option TurnStep × Option TurnStep

abbrev pub both : TwoSteps → List TurnStep
both steps = listed steps.0 ++ listed steps.1

abbrev pub in_order : Result TwoSteps Want → Result (List TurnStep) Want
in_order (Ok steps) = Ok (both steps)
in_order (Err e) = Err e

-- the two steps are put into a list, or there is no memory
abbrev pub Lists : Result TwoSteps Want → Result (List TurnStep) Want → Type 0
Lists (Ok steps) (Ok list) = list ≡ both steps
Lists (Ok steps) (Err e) = Unit {0}
Lists (Err e) (Ok list) = ⊥
Lists (Err e) (Err f) = Unit {0}

-- ---- one event

-- the hall accepts or refuses an event, and this step, if any, is reported
abbrev pub Tells : {P : Type 0} → (P → Telling) → HallView P → HallView P → ℕ → Event → Option TurnStep → Type 0
Tells telling old new at event step = (answer : Told) × (Comes telling old new at event (Answers answer) × (listed step ≡ steps_of event answer))

-- these events, and the steps that are reported
abbrev pub TellsAll : {P : Type 0} → (P → Telling) → HallView P → HallView P → ℕ → List Exchange → List TurnStep → Type 0
TellsAll telling old new at xs steps = Chain telling old new at xs × (steps ≡ steps_in xs)

-- ---- runs

-- the container lies on the shelf where the reply is an answer, unless there is no room
abbrev pub LaysDown : {B : Type 0} → RunOrder → RunReply → List (Laid B) → List (Laid B) → Result (Unit {0}) Want → Type 0
LaysDown order reply shelf laid (Ok done) = LiesBy (is_answer reply) order shelf laid
LaysDown order reply shelf laid (Err e) = laid ≡ shelf

-- what becomes of the container after the reply, by whether the reply is an answer, and whether it came late
abbrev pub EndsBy : {B : Type 0} → Bool → Bool → RunOrder → List (Laid B) → List Exchange → List (Laid B) → Type 0
EndsBy true false order laid xs left = (xs ≡ []) × (left ≡ laid)
EndsBy true true order laid xs left = IsAlone (gone order) xs × (left ≡ without order.slot order.generation laid)
EndsBy false late order laid xs left = IsAlone (gone order) xs × (left ≡ laid)

-- the reply is booked
pub record IsBooked {B : Type 0} (order : RunOrder) (reply : RunReply) (laid : List (Laid B)) (xs : List Exchange) (left : List (Laid B)) : Type 0 where
  pub answer : Told
  pub ending : List Exchange
  pub is : xs ≡ exchange (events.Answered order.run reply) answer ∷ ending
  pub ends : EndsBy (is_answer reply) (is_late answer) order laid ending left

abbrev pub reply_of : RunOrder → RunReply → Event
reply_of order reply = events.Answered order.run reply

-- or the store fails, and that alone is reported
abbrev pub FailsBy : {P : Type 0} → (P → Telling) → HallView P → HallView P → ℕ → Event → TwoSteps → Type 0
FailsBy telling old new at event steps = Comes telling old new at event Fails × (both steps ≡ StoreFault ∷ [])

abbrev pub Books : {P B : Type 0} → (P → Telling) → HallView P → HallView P → ℕ → RunOrder → RunReply → List (Laid B) → List (Laid B) → Result TwoSteps Want → Type 0
Books telling old new at order reply laid left (Ok steps) =
    ((xs : List Exchange) × (IsBooked order reply laid xs left × TellsAll telling old new at xs (both steps)))
    ⊎ ((left ≡ laid) × FailsBy telling old new at (reply_of order reply) steps)
Books telling old new at order reply laid left (Err e) = (left ≡ laid) × Comes telling old new at (reply_of order reply) Wants

-- and the container laid down before, or there is no room for it
abbrev pub Settles : {P B : Type 0} → (P → Telling) → HallView P → HallView P → ℕ → RunOrder → RunReply → List (Laid B) → List (Laid B) → Result TwoSteps Want → Type 0
Settles telling old new at order reply shelf left (Ok steps) =
    ((xs : List Exchange) × (IsSettled order reply shelf xs left × TellsAll telling old new at xs (both steps)))
    ⊎ (LiesBy (is_answer reply) order shelf left × FailsBy telling old new at (reply_of order reply) steps)
Settles telling old new at order reply shelf left (Err e) =
    ((new ≡ old) × (left ≡ shelf)) ⊎ (LiesBy (is_answer reply) order shelf left × Comes telling old new at (reply_of order reply) Wants)

-- a run takes place in its container, up to the booking of its reply, of which this comes
abbrev pub OffersTo : {P B : Type 0} → (P → Telling) → Giving → Tally → Tally → HallView P → HallView P → ℕ → RunOrder → List (Laid B) → List (Laid B) → Outcome → Type 0
OffersTo telling gives before now old new at order shelf left outcome = (xs : List Exchange)
    × ((reply : RunReply) × (IsOffered gives before now order reply shelf xs left × ChainTo telling old new at xs (reply_of order reply) outcome))

-- or to its end
abbrev pub Performs : {P B : Type 0} → (P → Telling) → Giving → Tally → Tally → HallView P → HallView P → ℕ → RunOrder → List (Laid B) → List (Laid B) → Result TwoSteps Want → Type 0
Performs telling gives before now old new at order shelf left (Ok steps) =
    ((xs : List Exchange) × (IsCarriedOut gives before now order shelf xs left × TellsAll telling old new at xs (both steps)))
    ⊎ (OffersTo telling gives before now old new at order shelf left Fails × (both steps ≡ StoreFault ∷ []))
Performs telling gives before now old new at order shelf left (Err e) =
    ((xs : List Exchange) × ((IsGivenUp before now order shelf xs left ⊎ IsUnlaid gives before now order shelf xs left) × Chain telling old new at xs))
    ⊎ OffersTo telling gives before now old new at order shelf left Wants

-- ---- getting a container up and initialised

-- the container is available, and then it is up, or its code is refused, or the memory ran out; or it doesn't lie there
abbrev pub Readied : {B : Type 0} → Giving → Tally → Tally → RunOrder → List (Laid B) → List (Laid B) → Readiness B (Unit {0}) → Type 0
Readied gives before now order shelf left (Up living) = (is_missing order shelf ≡ false) × (left ≡ shelf_at order shelf) × IsStarted gives order
Readied gives before now order shelf left (Early held reply) =
    (is_missing order shelf ≡ false) × (left ≡ shelf_at order shelf) × RefusesCode gives before now order.kind order.code reply
Readied gives before now order shelf left (NotHad seen) = (is_missing order shelf ≡ true) × (left ≡ shelf)
Readied gives before now order shelf left NoMemory = (is_missing order shelf ≡ false) × (left ≡ shelf_at order shelf) × (is_warm order.start ≡ false)

-- ---- orders

-- a container is started ahead
abbrev pub Warms : {B : Type 0} → Giving → Tally → Tally → PrewarmOrder → List (Laid B) → List (Laid B) → Warming → Type 0
Warms gives before now order shelf left Warmed = gives.starts order.kind × IsLaid order.slot order.generation shelf left
Warms gives before now order shelf left Down = ((reply : RunReply) × RefusesStart gives before now order.kind reply) × (left ≡ shelf)
Warms gives before now order shelf left Unheld = left ≡ shelf

-- an order is carried out
abbrev pub CarriesOn : {P B : Type 0} → (P → Telling) → Giving → Tally → Tally → HallView P → HallView P → ℕ → List (Laid B) → List (Laid B) → Order → List TurnStep → Type 0
CarriesOn telling gives before now old new at shelf left order steps =
    (xs : List Exchange) × (Follows gives before now shelf order xs left × TellsAll telling old new at xs steps)

-- or up to its runner's reply, at which the store fails
abbrev pub FailsOn : {P B : Type 0} → (P → Telling) → Giving → Tally → Tally → HallView P → HallView P → ℕ → List (Laid B) → List (Laid B) → Order → List TurnStep → Type 0
FailsOn telling gives before now old new at shelf left order steps =
    (xs : List Exchange) × ((event : Event) × (Offers gives before now shelf order xs event left × ChainTo telling old new at xs event Fails × (steps ≡ StoreFault ∷ [])))

-- the memory runs out for an order
abbrev pub StopsOn : {P B : Type 0} → (P → Telling) → Giving → Tally → Tally → HallView P → HallView P → ℕ → List (Laid B) → List (Laid B) → Order → Type 0
StopsOn telling gives before now old new at shelf left order =
    (xs : List Exchange) × ((Stops gives before now shelf order xs left ⊎ Follows gives before now shelf order xs left) × Chain telling old new at xs)

-- or for its runner's reply
abbrev pub StopsLate : {P B : Type 0} → (P → Telling) → Giving → Tally → Tally → HallView P → HallView P → ℕ → List (Laid B) → List (Laid B) → Order → Type 0
StopsLate telling gives before now old new at shelf left order =
    (xs : List Exchange) × ((event : Event) × (Offers gives before now shelf order xs event left × ChainUndone telling old new at xs event))

abbrev pub Carries : {P B : Type 0} → (P → Telling) → Giving → Tally → Tally → HallView P → HallView P → ℕ → List (Laid B) → List (Laid B) → Order → Result (List TurnStep) Want → Type 0
Carries telling gives before now old new at shelf left order (Ok steps) =
    CarriesOn telling gives before now old new at shelf left order steps ⊎ FailsOn telling gives before now old new at shelf left order steps
Carries telling gives before now old new at shelf left order (Err e) =
    StopsOn telling gives before now old new at shelf left order ⊎ StopsLate telling gives before now old new at shelf left order

-- and reported, with its order
abbrev pub TellsOf : {P B : Type 0} → (P → Telling) → Giving → Tally → Tally → HallView P → HallView P → ℕ → List (Laid B) → List (Laid B) → Order → Result Turned Want → Type 0
TellsOf telling gives before now old new at shelf left order (Ok turned) = (turned.order ≡ order) × Carries telling gives before now old new at shelf left order (Ok turned.steps)
TellsOf telling gives before now old new at shelf left order (Err e) = Carries telling gives before now old new at shelf left order (Err e)
