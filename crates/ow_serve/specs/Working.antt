-- What workers, the sweeper and the reaper do until they are to end, call by call.
use Rattle.std.specs.Prelude.{◌≡◌, ◌≤◌, ◌++◌, ℕ, List, [], ◌∷◌, Option, Some, None, IfSome}
use Rattle.ow_traits.specs.Runner.{Giving, RanNone, Tally}
use Rattle.ow_board.specs.View.{KeepsOthers, fresh_view}
use Rattle.ow_board.specs.declared.view.View.{View}
use Rattle.ow_desk.specs.Notes.{Notes, no_notes}
use Rattle.ow_worker.specs.Noted.{Watched}
use Rattle.ow_worker.specs.Parts.{Booked}
use Rattle.ow_worker.specs.Reaped.{HasReaped}
use Rattle.ow_worker.specs.Turned.{Turned}
use Rattle.ow_worker.specs.declared.outcome.Job.{Job}
use Rattle.ow_worker.specs.declared.outcome.Turn.{Turn}
use Rattle.ow_worker.specs.declared.outcome.Turn.TheVariants as turns
use Rattle.ow_worker.specs.declared.outcome.Watch.{Watch}
use Rattle.ow_serve.specs.declared.working.Next.{Next}
use Rattle.ow_serve.specs.declared.working.Next.TheVariants as nexts

-- any number of steps, each from where the one before led
pub data Leads {S : Type 0} (Step : S → S → Type 0) : S → S → Type 0 where
  stays : {s : S} → Leads Step s s
  goes_on : {s t u : S} → Leads Step s t → Step t u → Leads Step s u

-- ---- how a thread begins

-- what its clock reports, the moment of the opening, and what its pass shows of the board
pub record Outset : Type 0 where
  pub tells : Option ℕ
  pub opened : ℕ
  pub view : View

abbrev pub outset : Option ℕ → ℕ → View → Outset
outset tells opened view = record { tells = tells; opened = opened; view = view }

-- a pass that shows nothing
abbrev pub fresh_outset : Option ℕ → ℕ → Outset
fresh_outset tells opened = outset tells opened fresh_view

-- ---- workers

-- the state of a worker: its notes, what its pass shows of the board, and its runner's counts of faults and runs
pub record Stand : Type 0 where
  pub notes : Notes
  pub view : View
  pub tally : Tally

-- the state with these parts
abbrev pub stand : Notes → View → Tally → Stand
stand n v tally = record { notes = n; view = v; tally = tally }

-- the reply that a turn, or a call that books one, leaves to be booked
abbrev pub to_book : Turn → Option Job
to_book (turns.StoreFault job) = Some job
to_book (turns.NoMemory job) = job
to_book turn = None

-- the reply that is to be booked next, for private clauses
abbrev pub next_job : Next → Option Job
next_job (nexts.Book job) = Some job
next_job next = None

-- one call that books the reply which is left, and runs no code: the reply that is left and the worker's state, before it and after it
pub record BooksOnce (tells : Option ℕ) (old new : Option Job × Stand) : Type 0 where
  pub job : Job
  pub turn : Turn
  pub is_left : old.0 ≡ Some job
  pub booked : Booked tells job.order job.reply job.laid old.1.notes new.1.notes old.1.view.steps old.1.view new.1.view turn
  pub others : KeepsOthers job.order.slot old.1.view new.1.view
  pub leaves : new.0 ≡ to_book turn
  pub later : old.1.tally.faults ≤ new.1.tally.faults
  pub ran : RanNone old.1.tally new.1.tally

-- one turn, followed by the calls that book its reply, until none is left
pub record WorksOnce (gives : Giving) (tells : Option ℕ) (opening : ℕ) (old new : Stand) : Type 0 where
  pub turn : Turn
  pub behind : Stand
  pub turned : Turned gives old.tally behind.tally tells opening old.notes behind.notes old.view behind.view turn
  pub later : old.tally.faults ≤ behind.tally.faults
  pub books : Leads (BooksOnce tells) (to_book turn, behind) (None, new)

-- a worker's turns, one after the other, with a runner that gave this at first, at these counts, and is at those now: after the last turn
-- it ran no code
pub record MakesTurns (gives : Giving) (tally now : Tally) (o : Outset) (n m : Notes) : Type 0 where
  pub last : Stand
  pub works : Leads (WorksOnce gives o.tells o.opened) (stand n o.view tally) last
  pub notes : m ≡ last.notes
  pub ran : RanNone last.tally now

-- ---- the sweeper and the reaper

-- one sweep
abbrev pub SweepsOnce : Option ℕ → Notes → Notes → Type 0
SweepsOnce tells n m = (watch : Watch) × Watched tells n m watch

-- the sweeper's sweeps, one after the other
abbrev pub MakesSweeps : Option ℕ → Notes → Notes → Type 0
MakesSweeps tells n m = Leads (SweepsOnce tells) n m

-- one reaping of the first `slots` slots, of which `count` were taken
abbrev pub ReapsOnce : Option ℕ → ℕ → Notes × View → Notes × View → Type 0
ReapsOnce tells opened old new = (slots : ℕ) × (count : ℕ) × HasReaped tells opened old.0 new.0 old.1 new.1 slots count

-- the reaper's reapings, one after the other
pub record MakesReapings (o : Outset) (n m : Notes) : Type 0 where
  pub view : View
  pub reaps : Leads (ReapsOnce o.tells o.opened) (n, o.view) (m, view)

-- ---- all of them

-- a worker made turns from receipts of nothing on
abbrev pub HasWorked : Giving → Tally → Outset → Notes → Type 0
HasWorked gives tally o n = (now : Tally) × MakesTurns gives tally now o no_notes n

-- each of these runners has a worker
abbrev pub AllWorked : {R : Type 0} → (R → Giving) → (R → Tally) → Outset → List R → List Notes → Type 0
AllWorked gives tally o [] [] = Unit {0}
AllWorked gives tally o (r ∷ rs) (n ∷ ns) = HasWorked (gives r) (tally r) o n × AllWorked gives tally o rs ns
AllWorked gives tally o rs ns = ⊥

-- each runner but the last has a worker; the workers are followed by the sweeper, and by the reaper, who has the last runner
pub record AllWork {R : Type 0} (gives : R → Giving) (tally : R → Tally) (o : Outset) (runners : List R) (others : List Notes) : Type 0 where
  pub workers : List R
  pub last : R
  pub runners_are : runners ≡ workers ++ last ∷ []
  pub by_workers : List Notes
  pub by_sweeper : Notes
  pub by_reaper : Notes
  pub others_are : others ≡ by_workers ++ by_sweeper ∷ by_reaper ∷ []
  pub worked : AllWorked gives tally o workers by_workers
  pub swept : MakesSweeps o.tells no_notes by_sweeper
  pub reaped : MakesReapings o no_notes by_reaper

-- they began with a pass that shows nothing, at some moment, which is that of the clock where it reports one
abbrev pub AllWorkBy : {R : Type 0} → (R → Giving) → (R → Tally) → Option ℕ → List R → List Notes → Type 0
AllWorkBy gives tally tells runners others = (opened : ℕ) × IfSome tells (λ m. opened ≡ m) × AllWork gives tally (fresh_outset tells opened) runners others
