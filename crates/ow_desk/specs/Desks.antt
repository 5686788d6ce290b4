-- A hall on a desk, and a call of it through receipts.
use Rattle.std.specs.Prelude.{◌≡◌, ◌+◌, ◌<◌, ◌≤◌, ℕ}
use Rattle.ow_traits.specs.Telling.{Telling}
use Rattle.ow_decide.specs.declared.events.Event.{Event}
use Rattle.ow_hall.specs.Comes.{Comes, HallView, Outcome, at_hall}
use Rattle.ow_desk.specs.Notes.{Notes, noted}

-- the hall; how many calls of its store had failed when it was laid there, and how many of them its book had tallied
pub record DeskView (P : Type 0) : Type 0 where
  pub hall : HallView P
  pub since : ℕ
  pub before : ℕ

-- since the hall was laid there, the book has tallied no more faults than calls of the store have failed; a count that is the greatest u64
-- says nothing
abbrev pub IsWithinFaults : ℕ → ℕ → ℕ → ℕ → Type 0
IsWithinFaults faults since stored before = faults < 18446744073709551615 → since + stored ≤ faults + before

-- one call of the hall, with this outcome, and its receipt
pub record IsReceived {P : Type 0} (telling : P → Telling) (d e : DeskView P) (at : ℕ) (event : Event) (o : Outcome) (n m : Notes) : Type 0 where
  pub comes : Comes telling d.hall e.hall at event o
  pub notes : m ≡ noted d.hall.ledger.entries (at_hall d.hall at) event o n
  pub since : e.since ≡ d.since
  pub before : e.before ≡ d.before
