-- The parts of a run, each with the notes before and after it.
use Rattle.std.specs.Prelude.{◌≡◌, ◌⊎◌, ℕ, Bool, true, false, Option, Some}
use Rattle.ow_traits.specs.Runner.{Giving, RefusesCode, Tally, is_answer}
use Rattle.ow_traits.specs.declared.replies.RunReply.{RunReply}
use Rattle.ow_slots.specs.State.{is_cold, is_warm}
use Rattle.ow_floor.specs.declared.answers.RunOrder.{RunOrder}
use Rattle.ow_decide.specs.declared.events.Told.{Told}
use Rattle.ow_invoker.specs.Turns.{IsStarted, is_late}
use Rattle.ow_invoker.specs.declared.readying.Readiness.{Readiness}
use Rattle.ow_invoker.specs.declared.readying.Readiness.TheVariants.{Early, NoMemory, NotHad, Up}
use Rattle.ow_board.specs.declared.view.View.{View}
use Rattle.ow_desk.specs.Notes.{Notes}
use Rattle.ow_worker.specs.declared.outcome.Laid.{Laid}
use Rattle.ow_worker.specs.declared.outcome.Laid.TheVariants.{Put, Taken, Stopped}
use Rattle.ow_worker.specs.declared.outcome.Job.{Job}
use Rattle.ow_worker.specs.declared.outcome.Turn.{Turn}
use Rattle.ow_worker.specs.declared.outcome.Turn.TheVariants as turns
use Rattle.ow_worker.specs.Shown.{IsSecond, WasHad, WasNotHad, WasPut, WasTaken, WordTaken}
use Rattle.ow_worker.specs.Noted.{FaultNoted, GoneNoted, ReplyNoted}

-- ---- for private clauses: getting a container up and initialised

module _ (gives : Giving) (before now : Tally) where
  -- the container is obtained, and is up, or the code is refused, or memory ran out after that; or it isn't obtained
  abbrev pub Readied : {B : Type 0} → RunOrder → View → View → Readiness B ℕ → Type 0
  Readied order v w (Up living) = IsStarted gives order × WasHad order v w
  Readied order v w (Early held reply) = (is_warm order.start ≡ false) × RefusesCode gives before now order.kind order.code reply × WasHad order v w
  Readied order v w (NotHad seen) = (is_cold order.start ≡ false) × WasNotHad order.slot order.generation seen v.steps w
  Readied order v w NoMemory = (is_warm order.start ≡ false) × WasHad order v w

-- ---- what becomes of it

-- each call of the hall is at the clock's moment, where it reports one
module _ (tells : Option ℕ) where
  -- where there is a reply: a container that answered was put on the board at the second of its put, since the opening, or its
  -- slot's word was taken and it is gone; for any other container, which is stopped, the pass made no step
  abbrev pub LaidDown : ℕ → RunOrder → RunReply → Notes → Notes → View → View → Laid → Type 0
  LaidDown opening order reply n m v w Put = (is_answer reply ≡ true) × (m ≡ n) × ((second : ℕ) × IsSecond tells opening second × WasPut order.slot order.generation second v.steps w)
  LaidDown opening order reply n m v w Taken = (is_answer reply ≡ true) × WordTaken order.slot v.steps w × GoneNoted tells order.slot order.generation n m
  LaidDown opening order reply n m v w Stopped = (is_answer reply ≡ false) × (m ≡ n) × (w ≡ v)

  -- a container that still lay on the board was taken, and is gone
  abbrev pub TakenBack : ℕ → ℕ → Notes → Notes → ℕ → View → Type 0
  TakenBack slot generation n m start w =
      (GoneNoted tells slot generation n m × WasTaken slot generation start w) ⊎ ((m ≡ n) × ((seen : ℕ) × WasNotHad slot generation seen start w))

  -- after the booked reply, by what became of the container, and whether the reply came late
  abbrev pub Ended : RunOrder → Notes → Notes → ℕ → View → View → Laid → Bool → Type 0
  Ended order n m start v w Stopped late = GoneNoted tells order.slot order.generation n m × (w ≡ v)
  Ended order n m start v w Taken late = (m ≡ n) × (w ≡ v)
  Ended order n m start v w Put false = (m ≡ n) × (w ≡ v)
  Ended order n m start v w Put true = TakenBack order.slot order.generation n m start w

  -- ---- booking

  -- the reply is booked, or refused since its run isn't live
  pub record Replied (order : RunOrder) (reply : RunReply) (laid : Laid) (n m : Notes) (start : ℕ) (v w : View) : Type 0 where
    pub told : Told
    pub after : Notes
    pub noted : ReplyNoted tells order.run reply told n after
    pub ended : Ended order after m start v w laid (is_late told)

  -- what is still to be booked
  pub record IsJob (order : RunOrder) (reply : RunReply) (laid : Laid) (job : Job) : Type 0 where
    pub order_is : job.order ≡ order
    pub reply_is : job.reply ≡ reply
    pub laid_is : job.laid ≡ laid

  -- the reply is booked, or the store failed at it, or memory ran out for it
  abbrev pub Booked : RunOrder → RunReply → Laid → Notes → Notes → ℕ → View → View → Turn → Type 0
  Booked order reply laid n m start v w turns.Ran = Replied order reply laid n m start v w
  Booked order reply laid n m start v w (turns.StoreFault job) = FaultNoted tells order.run reply n m × IsJob order reply laid job × (w ≡ v)
  Booked order reply laid n m start v w (turns.NoMemory (Some job)) = (m ≡ n) × IsJob order reply laid job × (w ≡ v)
  Booked order reply laid n m start v w turn = ⊥

  -- a container is laid down, and then the reply is booked
  pub record Settled (opening : ℕ) (order : RunOrder) (reply : RunReply) (n m : Notes) (v w : View) (turn : Turn) : Type 0 where
    pub laid : Laid
    pub down : Notes
    pub middle : View
    pub lays : LaidDown opening order reply n down v middle laid
    pub books : Booked order reply laid down m v.steps middle w turn
