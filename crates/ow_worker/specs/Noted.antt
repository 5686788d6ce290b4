-- What is reported to the hall of an order, as the receipts hold it.
use Rattle.std.specs.Prelude.{◌≡◌, ℕ, Option, Result}
use Rattle.ow_traits.specs.declared.replies.RunReply.{RunReply}
use Rattle.ow_floor.specs.declared.answers.FloorRefusal.{FloorRefusal}
use Rattle.ow_floor.specs.declared.answers.Order.{Order}
use Rattle.ow_floor.specs.declared.answers.Swept.{Swept}
use Rattle.ow_decide.specs.declared.events.Event.{Event}
use Rattle.ow_decide.specs.declared.events.Event.TheVariants as events
use Rattle.ow_decide.specs.declared.events.Told.{Told}
use Rattle.ow_decide.specs.declared.events.Told.TheVariants as told
use Rattle.ow_hall.specs.Comes.{Answers, Fails, done_outcome}
use Rattle.ow_desk.specs.Notes.{CalledBy, Notes}
use Rattle.ow_worker.specs.declared.outcome.Watch.{Watch}
use Rattle.ow_worker.specs.declared.outcome.Watch.TheVariants as watches

-- each call is at the clock's moment, where it reports one
module _ (tells : Option ℕ) where
  -- an order, which is booked or tallied
  abbrev pub NextNoted : Notes → Notes → Order → Type 0
  NextNoted n m order = CalledBy tells events.Next (Answers (told.Next order)) n m

  -- a beginning, a loss or a going: its entry, or the mark that it was refused
  abbrev pub DoneNoted : Event → Notes → Notes → Type 0
  DoneNoted event n m = (taken : Result (Unit {0}) FloorRefusal) × CalledBy tells event (done_outcome taken) n m

  abbrev pub BegunNoted : ℕ → Notes → Notes → Type 0
  BegunNoted run n m = DoneNoted (events.Begun run) n m

  abbrev pub LostNoted : ℕ → Notes → Notes → Type 0
  LostNoted run n m = DoneNoted (events.Lost run) n m

  abbrev pub GoneNoted : ℕ → ℕ → Notes → Notes → Type 0
  GoneNoted slot generation n m = DoneNoted (events.Gone slot generation) n m

  -- the runner's reply: its entry, or the mark that its run isn't live
  abbrev pub ReplyNoted : ℕ → RunReply → Told → Notes → Notes → Type 0
  ReplyNoted run reply t n m = CalledBy tells (events.Answered run reply) (Answers t) n m

  -- the mark that the store failed at it
  abbrev pub FaultNoted : ℕ → RunReply → Notes → Notes → Type 0
  FaultNoted run reply n m = CalledBy tells (events.Answered run reply) Fails n m

  -- a loss and a going
  pub record LostAndGone (run slot generation : ℕ) (n m : Notes) : Type 0 where
    pub middle : Notes
    pub lost : LostNoted run n middle
    pub gone : GoneNoted slot generation middle m

  -- one sweep: its entry, or the mark that the store failed at it, or nothing
  abbrev pub Watched : Notes → Notes → Watch → Type 0
  Watched n m watches.Swept = (swept : Swept) × CalledBy tells events.Sweep (Answers (told.Swept swept)) n m
  Watched n m watches.StoreFault = CalledBy tells events.Sweep Fails n m
  Watched n m watches.NoMemory = m ≡ n
