-- How a service is opened over a store, and opened again.
use Rattle.std.specs.Prelude.{◌≡◌, ◌≤◌, ◌⊎◌, ℕ, List, Option, IfSome, Result, Ok, Err, IsOk}
use Rattle.ow_traits.specs.Telling.{Attempt, Telling, unmade, with_attempt}
use Rattle.ow_traits.specs.declared.change_list.Change.{Change}
use Rattle.ow_traits.specs.Streams.{Rose}
use Rattle.ow_keep.specs.Judged.{judged}
use Rattle.ow_keep.specs.Kept.{IsBadRow}
use Rattle.ow_decide.specs.declared.events.Event.TheVariants as events
use Rattle.ow_decide.specs.declared.events.Told.{Told}
use Rattle.ow_tenant.specs.Table.{Table}
use Rattle.ow_hall.specs.Comes.{Answers, Comes, Fails, HallView, Makes, Wants}
use Rattle.ow_hall.specs.Ledger.{opened}
use Rattle.ow_hall.specs.declared.refusals.Reopened.{Reopened}
use Rattle.ow_hall.specs.declared.refusals.Reopened.TheVariants as reopens
use Rattle.ow_hall.specs.declared.refusals.StartFault.{StartFault}
use Rattle.ow_hall.specs.declared.refusals.StartFault.TheVariants as starts
use Rattle.ow_hall.specs.declared.refusals.StartRefusal.{StartRefusal}

-- ---- openings

-- a service was opened over an office table and the rows that were loaded from a store, which are allowed. Where the store reports its
-- rows, they are these. It made one commit
pub record Opens {P : Type 0} (telling : P → Telling) (store : P) (t : Table) (at : ℕ) (h : HallView P) : Type 0 where
  pub loaded : List (List ℕ × List ℕ)
  pub told : IfSome (telling store).rows (λ kept. loaded ≡ kept)
  pub allowed : IsOk (judged loaded)
  pub tenants : h.tenants ≡ t
  pub ledger : h.ledger ≡ opened t loaded at
  pub later : (telling store).faults ≤ (telling h.store).faults
  pub changes : List Change
  pub makes : Makes telling changes store h.store

-- why it wasn't: the key of the first bad one of the rows, a fault of the store, or no memory
abbrev pub HasStartCause : {P : Type 0} → (P → Telling) → P → P → StartFault → Type 0
HasStartCause telling store back (starts.BadKept key) = (loaded : List (List ℕ × List ℕ)) × IfSome (telling store).rows (λ kept. loaded ≡ kept) × IsBadRow loaded key
HasStartCause telling store back starts.StoreFault = Rose (telling store).faults (telling back).faults
HasStartCause telling store back starts.NoMemory = Unit {0}

-- a store was asked to commit nothing, or once, and didn't commit
abbrev pub IsAskedOnce : Option (List Attempt) → Option (List Attempt) → Type 0
IsAskedOnce before after = (after ≡ before) ⊎ ((changes : List Change) × (after ≡ with_attempt (unmade changes) before))

-- a service wasn't opened: why, and what is handed back
pub record IsUnopened {P : Type 0} (telling : P → Telling) (store : P) (t : Table) (refusal : StartRefusal P) : Type 0 where
  pub cause : HasStartCause telling store refusal.store refusal.why
  pub tenants : refusal.tenants ≡ t
  pub rows_stay : (telling refusal.store).rows ≡ (telling store).rows
  pub old_rows_stay : (telling refusal.store).old_rows ≡ (telling store).old_rows
  pub later : (telling store).faults ≤ (telling refusal.store).faults
  pub commits : IsAskedOnce (telling store).commits (telling refusal.store).commits

-- a service was opened again, or goes on as it was
abbrev pub IsReopened : {P : Type 0} → (P → Telling) → HallView P → ℕ → Result (HallView P) (Reopened P) → Type 0
IsReopened telling old at (Ok new) = (t : Told) × Comes telling old new at events.Reopened (Answers t)
IsReopened telling old at (Err (reopens.StoreFault new)) = Comes telling old new at events.Reopened Fails
IsReopened telling old at (Err (reopens.NoMemory new)) = Comes telling old new at events.Reopened Wants
