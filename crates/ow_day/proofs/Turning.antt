-- Each event of a turn is one of a day.
use Rattle.std.proofs.Common.{◌≡◌, ◌++◌, Bool, true, false, List, [], ◌∷◌, inl, inr, refl, ap}
use Rattle.ow_traits.specs.Runner.{Tally, is_answer}
use Rattle.ow_traits.specs.declared.replies.RunReply.{RunReply}
use Rattle.ow_floor.specs.declared.answers.Container.{Container}
use Rattle.ow_floor.specs.declared.answers.Order.{Order}
use Rattle.ow_floor.specs.declared.answers.Order.TheVariants as orders
use Rattle.ow_floor.specs.declared.answers.PrewarmOrder.{PrewarmOrder}
use Rattle.ow_floor.specs.declared.answers.RunOrder.{RunOrder}
use Rattle.ow_decide.specs.declared.events.Event.{Event}
use Rattle.ow_decide.specs.declared.events.Event.TheVariants as events
use Rattle.ow_decide.specs.Decisions.{is_opening}
use Rattle.ow_decide.specs.Given.{IsGivenEvent}
use Rattle.ow_runners.specs.Plain.{plain_giving}
use Rattle.ow_invoker.specs.Turns.{AreBoth, Exchange, Follows, IsAlone, IsCarriedOut, IsTurn, Offers, OffersTurn, Opens, PrewarmFollows, Removes, Rests, RunFollows, RunOffers, exchange, is_late, is_missing}
use Rattle.ow_runners.specs.declared.plain_runner.PlainContainer.{PlainContainer}
use Rattle.ow_invoker.specs.declared.shelf.Laid.{Laid}

-- neither an opening, nor a deployment, nor a fire of the office
abbrev is_of_day : Event → Bool
is_of_day (events.Opened rows) = false
is_of_day (events.Fired trigger params note) = false
is_of_day (events.Deployed drafts) = false
is_of_day event = true

pub day_unopened : (event : Event) → is_of_day event ≡ true → is_opening event ≡ false
day_unopened (events.Opened rows) of_day = cc
day_unopened (events.Fired trigger params note) of_day = refl
day_unopened (events.Deployed drafts) of_day = refl
day_unopened (events.Asked r) of_day = refl
day_unopened (events.Called name params) of_day = refl
day_unopened events.Next of_day = refl
day_unopened (events.Begun run) of_day = refl
day_unopened (events.Answered run reply) of_day = refl
day_unopened (events.Lost run) of_day = refl
day_unopened (events.Gone slot generation) of_day = refl
day_unopened events.Sweep of_day = refl
day_unopened (events.Collected id) of_day = refl
day_unopened events.Drain of_day = refl
day_unopened events.Reopened of_day = refl

pub day_given : (event : Event) → is_of_day event ≡ true → IsGivenEvent event
day_given (events.Fired trigger params note) of_day = cc
day_given (events.Deployed drafts) of_day = cc
day_given event of_day = tt

abbrev Shelved : Type 0
Shelved = List (Laid PlainContainer)

abbrev pub NoneOpens : List Exchange → Type 0
NoneOpens [] = Unit {0}
NoneOpens (x ∷ xs) = (is_of_day x.event ≡ true) × NoneOpens xs

both_open : (xs ys : List Exchange) → NoneOpens xs → NoneOpens ys → NoneOpens (xs ++ ys)
both_open [] ys none later = later
both_open (x ∷ xs) ys (first, none) later = (first, both_open xs ys none later)

alone : (event : Event) (xs : List Exchange) → is_of_day event ≡ true → IsAlone event xs → NoneOpens xs
alone event xs later (answer, is) = rw is (later, tt)

one : (x : Exchange) → is_of_day x.event ≡ true → NoneOpens (x ∷ [])
one x later = (later, tt)

pair : (first second : Event) (xs : List Exchange) → is_of_day first ≡ true → is_of_day second ≡ true → AreBoth first second xs → NoneOpens xs
pair first second xs a b (answer, later, is) = rw is (a, one (exchange second later) b)

-- ---- runs

opening_opens : (a b : Tally) (order : RunOrder) (reply : RunReply) (xs : List Exchange) → Opens plain_giving a b order reply xs → NoneOpens xs
opening_opens a b order reply [] opens = tt
opening_opens a b order reply (x ∷ xs) (cold, started, event, none, once) = (ap is_of_day event, rw none tt)

rest_opens : (answers late : Bool) (order : RunOrder) (shelf : Shelved) (xs : List Exchange) (left : Shelved) → Rests answers late order shelf xs left → NoneOpens xs
rest_opens true false order shelf xs left rests = rw rests.0 tt
rest_opens true true order shelf xs left rests = alone _ xs refl rests.0
rest_opens false late order shelf xs left rests = alone _ xs refl rests.0

carried_opens : (a b : Tally) (order : RunOrder) (shelf : Shelved) (xs : List Exchange) (left : Shelved) → IsCarriedOut plain_giving a b order shelf xs left → NoneOpens xs
carried_opens a b order shelf xs left c =
    let s = c.settled in
    let ending = rest_opens (is_answer c.reply) (is_late s.answer) order shelf s.ending left s.rests in
    let booking : NoneOpens c.booking = rw s.is (refl, ending) in
    rw c.is (both_open c.opening c.booking (opening_opens a b order c.reply c.opening c.opens) booking)

run_opens : (a b : Tally) (missing : Bool) (order : RunOrder) (shelf : Shelved) (xs : List Exchange) (left : Shelved) → RunFollows missing plain_giving a b order shelf xs left → NoneOpens xs
run_opens a b true order shelf xs left follows = alone _ xs refl follows.0
run_opens a b false order shelf xs left follows = carried_opens a b order _ xs left follows

-- ---- other orders

prewarm_opens : (a b : Tally) (order : PrewarmOrder) (shelf : Shelved) (xs : List Exchange) (left : Shelved) → PrewarmFollows plain_giving a b order shelf xs left → NoneOpens xs
prewarm_opens a b order shelf xs left (inl (started, warmed)) = alone _ xs refl warmed.0
prewarm_opens a b order shelf xs left (inr (refused, unwarmed)) = pair _ _ xs refl refl unwarmed.0

removal_opens : (cs : List Container) (shelf : Shelved) (xs : List Exchange) (left : Shelved) → Removes cs shelf xs left → NoneOpens xs
removal_opens [] shelf xs left removes = rw removes.0 tt
removal_opens (c ∷ cs) shelf [] left never = absurd never
removal_opens (c ∷ cs) shelf (x ∷ xs) left (event, rest) = (ap is_of_day event, removal_opens cs _ xs left rest)

follow_opens : (a b : Tally) (shelf : Shelved) (order : Order) (xs : List Exchange) (left : Shelved) → Follows plain_giving a b shelf order xs left → NoneOpens xs
follow_opens a b shelf (orders.Run order) xs left follows = run_opens a b (is_missing order shelf) order shelf xs left follows
follow_opens a b shelf (orders.Prewarm order) xs left follows = prewarm_opens a b order shelf xs left follows.0
follow_opens a b shelf (orders.Remove containers) xs left follows = removal_opens containers shelf xs left follows.0
follow_opens a b shelf (orders.Nothing why) xs left follows = rw follows.0 tt

pub turn_opens : (a b : Tally) (shelf : Shelved) (order : Order) (xs : List Exchange) (left : Shelved) → IsTurn plain_giving a b shelf order xs left → NoneOpens xs
turn_opens a b shelf order [] left never = absurd never
turn_opens a b shelf order (x ∷ xs) left (is, follows) = (ap (λ (e : Exchange). is_of_day e.event) is, follow_opens a b shelf order xs left follows)

-- ---- up to a runner's reply

offer_opens : (a b : Tally) (missing : Bool) (order : RunOrder) (shelf : Shelved) (xs : List Exchange) (event : Event) (left : Shelved) → RunOffers missing plain_giving a b order shelf xs event left → NoneOpens xs
offer_opens a b true order shelf xs event left never = absurd never
offer_opens a b false order shelf xs event left (reply, (is, offered)) = opening_opens a b order reply xs offered.opens

order_offers : (a b : Tally) (shelf : Shelved) (order : Order) (xs : List Exchange) (event : Event) (left : Shelved) → Offers plain_giving a b shelf order xs event left → NoneOpens xs
order_offers a b shelf (orders.Run order) xs event left offers = offer_opens a b (is_missing order shelf) order shelf xs event left offers
order_offers a b shelf (orders.Prewarm order) xs event left never = absurd never
order_offers a b shelf (orders.Remove containers) xs event left never = absurd never
order_offers a b shelf (orders.Nothing why) xs event left never = absurd never

pub offered_opens : (a b : Tally) (shelf : Shelved) (order : Order) (xs : List Exchange) (event : Event) (left : Shelved) → OffersTurn plain_giving a b shelf order xs event left → NoneOpens xs
offered_opens a b shelf order [] event left never = absurd never
offered_opens a b shelf order (x ∷ xs) event left (is, offers) = (ap (λ (e : Exchange). is_of_day e.event) is, order_offers a b shelf order xs event left offers)
