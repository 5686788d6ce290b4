-- What a turn of a worker adds to its receipts, and what its pass shows of the board.
use Rattle.std.specs.Prelude.{◌≡◌, ◌⊎◌, ℕ, true, false, List, [], ◌∷◌, Option, None}
use Rattle.ow_traits.specs.Runner.{Giving, RanNone, RanOnce, RefusesCode, RefusesStart, Replies, Tally}
use Rattle.ow_traits.specs.declared.replies.RunReply.{RunReply}
use Rattle.ow_slots.specs.State.{is_cold, is_warm}
use Rattle.ow_floor.specs.declared.answers.Container.{Container}
use Rattle.ow_floor.specs.declared.answers.Order.{Order}
use Rattle.ow_floor.specs.declared.answers.Order.TheVariants as orders
use Rattle.ow_floor.specs.declared.answers.PrewarmOrder.{PrewarmOrder}
use Rattle.ow_floor.specs.declared.answers.RunOrder.{RunOrder}
use Rattle.ow_invoker.specs.Turns.{IsStarted}
use Rattle.ow_board.specs.declared.view.View.{View}
use Rattle.ow_board.specs.View.{KeepsOthers}
use Rattle.ow_desk.specs.Notes.{Notes}
use Rattle.ow_worker.specs.declared.outcome.Turn.{Turn}
use Rattle.ow_worker.specs.declared.outcome.Turn.TheVariants as turns
use Rattle.ow_worker.specs.declared.outcome.Warming.{Warming}
use Rattle.ow_worker.specs.declared.outcome.Warming.TheVariants as warmings
use Rattle.ow_worker.specs.Shown.{WasHad, WasNotHad, WasPut, WordTaken, prewarmed}
use Rattle.ow_worker.specs.Noted.{BegunNoted, LostAndGone, LostNoted, NextNoted}
use Rattle.ow_worker.specs.Parts.{Settled, TakenBack}

-- ---- runs

-- each call of the hall is at the clock's moment, where it reports one
module _ (tells : Option ℕ) where
  -- it is reported that the run began, where its start isn't warm
  abbrev pub ToldBegun : RunOrder → Notes → Notes → Type 0
  ToldBegun order n m = (BegunNoted tells order.run n m × (is_warm order.start ≡ false)) ⊎ ((m ≡ n) × (is_warm order.start ≡ true))

  -- memory ran out before there was a reply: the run is lost and its container gone. Its code was run once, as a run that began, or the
  -- container wasn't ready and the code wasn't run
  pub record IsGivenUp (before now : Tally) (order : RunOrder) (n m : Notes) : Type 0 where
    pub opened : Notes
    pub opens : (ToldBegun order n opened × RanOnce before now) ⊎ ((opened ≡ n) × (is_warm order.start ≡ false) × RanNone before now)
    pub gives_up : LostAndGone tells order.run order.slot order.generation opened m

  -- the container of a warm or a prewarmed start isn't obtained, and no code is run
  pub record NotCarried (before now : Tally) (order : RunOrder) (seen : ℕ) (n m : Notes) (start : ℕ) (w : View) : Type 0 where
    pub start_is : is_cold order.start ≡ false
    pub shown : WasNotHad order.slot order.generation seen start w
    pub lost : LostNoted tells order.run n m
    pub ran : RanNone before now

module _ (gives : Giving) (before now : Tally) where
  -- a container doesn't come up only where the runner refuses its start
  abbrev pub IsDown : PrewarmOrder → Type 0
  IsDown order = (reply : RunReply) × RefusesStart gives before now order.kind reply

module _ (gives : Giving) (before now : Tally) (tells : Option ℕ) where
  -- that the run began is left out only where the code is refused, which is then not run; else it is run once, and a new container is of a
  -- kind that the runner starts
  abbrev pub Opens : RunOrder → RunReply → Notes → Notes → Type 0
  Opens order reply n m = (IsStarted gives order × ToldBegun tells order n m × RanOnce before now)
      ⊎ ((m ≡ n) × RefusesCode gives before now order.kind order.code reply × RanNone before now)

  module _ (opening : ℕ) where
    -- once it has its container, a run has a reply: one that the runner gives, or a fault where its count rose
    pub record Carried (order : RunOrder) (n m : Notes) (v w : View) (turn : Turn) : Type 0 where
      pub reply : RunReply
      pub replies : Replies gives before now order.kind order.code order.params reply
      pub opened : Notes
      pub opens : Opens order reply n opened
      pub settles : Settled tells opening order reply opened m v w turn

    -- its container isn't obtained; or it is, and the run goes on from there, or is given up with no later step on that slot
    abbrev pub RunTurn : RunOrder → Notes → Notes → View → View → Turn → Type 0
    RunTurn order n m v w (turns.Lost seen) = NotCarried tells before now order seen n m v.steps w
    RunTurn order n m v w (turns.NoMemory None) = WasHad order v w × IsGivenUp tells before now order n m
    RunTurn order n m v w turn = (ready : View) × WasHad order v ready × Carried order n m ready w turn

  -- ---- containers ahead

  -- it has begun: it was put on the board, and is of a kind that the runner starts; or it is given up: its start is refused or memory
  -- ran out, and the pass made no step, or its slot wasn't empty
  abbrev pub WarmTurn : PrewarmOrder → Notes → Notes → View → View → Turn → Type 0
  WarmTurn order n m v w turns.Warmed = (BegunNoted tells order.run n m × gives.starts order.kind × WasPut order.slot order.generation prewarmed v.steps w)
      ⊎ (LostAndGone tells order.run order.slot order.generation n m × ((IsDown gives before now order × (w ≡ v)) ⊎ WordTaken order.slot v.steps w))
  WarmTurn order n m v w (turns.NoMemory None) = LostAndGone tells order.run order.slot order.generation n m × (w ≡ v)
  WarmTurn order n m v w turn = ⊥

-- ---- removals

module _ (tells : Option ℕ) where
  -- each container is taken back, where it lies there
  abbrev pub Removes : List Container → Notes → Notes → View → View → Type 0
  Removes [] n m v w = (m ≡ n) × (w ≡ v)
  Removes (c ∷ cs) n m v w = (between : View) × (middle : Notes) × TakenBack tells c.slot c.generation n middle v.steps between × KeepsOthers c.slot v between
      × Removes cs middle m between w

-- ---- turns

module _ (gives : Giving) (before now : Tally) (tells : Option ℕ) (opening : ℕ) where
  -- what follows an order, of which only a run's runs code; a run and a prewarming leave what was shown of other slots
  abbrev pub Follows : Order → Notes → Notes → View → View → Turn → Type 0
  Follows (orders.Run order) n m v w turn = RunTurn gives before now tells opening order n m v w turn × KeepsOthers order.slot v w
  Follows (orders.Prewarm order) n m v w turn = WarmTurn gives before now tells order n m v w turn × KeepsOthers order.slot v w × RanNone before now
  Follows (orders.Remove containers) n m v w turn = (turn ≡ turns.Removed) × Removes tells containers n m v w × RanNone before now
  Follows (orders.Nothing why) n m v w turn = (turn ≡ turns.Idle) × (m ≡ n) × (w ≡ v) × RanNone before now

  pub record CarriesOut (n m : Notes) (v w : View) (turn : Turn) : Type 0 where
    pub order : Order
    pub taken : Notes
    pub next : NextNoted tells n taken order
    pub follows : Follows order taken m v w turn

  -- no order since memory ran out; or an order, and what follows it
  abbrev pub Turned : Notes → Notes → View → View → Turn → Type 0
  Turned n m v w turn = ((m ≡ n) × (w ≡ v) × (turn ≡ turns.NoMemory None) × RanNone before now) ⊎ CarriesOut n m v w turn

-- ---- for private clauses: a container ahead, and a run in its container

module _ (gives : Giving) (before now : Tally) where
  -- it was put on the board, or its slot wasn't empty; else the pass made no step
  abbrev pub Warms : PrewarmOrder → View → View → Warming → Type 0
  Warms order v w warmings.Up = gives.starts order.kind × WasPut order.slot order.generation prewarmed v.steps w
  Warms order v w warmings.Down = IsDown gives before now order × (w ≡ v)
  Warms order v w warmings.Taken = WordTaken order.slot v.steps w
  Warms order v w warmings.Wanting = w ≡ v

  module _ (tells : Option ℕ) (opening : ℕ) where
    -- the run is given up, and the pass made no step; or it has a reply
    abbrev pub Performs : RunOrder → Notes → Notes → View → View → Turn → Type 0
    Performs order n m v w (turns.Lost seen) = ⊥
    Performs order n m v w (turns.NoMemory None) = IsGivenUp tells before now order n m × (w ≡ v)
    Performs order n m v w turn = Carried gives before now tells opening order n m v w turn
