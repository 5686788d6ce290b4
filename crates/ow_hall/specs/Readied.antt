-- What is made ready of an opening, and what it leaves, for private clauses.
use Rattle.std.specs.Prelude.{◌≡◌, ◌≤◌, ℕ, List, [], None, Some, IfSome, IsOk}
use Rattle.ow_traits.specs.Telling.{Telling}
use Rattle.ow_traits.specs.Rows.{AreRows}
use Rattle.ow_tables.specs.Builtin.{builtin}
use Rattle.ow_tables.specs.Rows.{resumed}
use Rattle.ow_floor.specs.Laws.{Stands}
use Rattle.ow_traits.specs.declared.change_list.Change.{Change}
use Rattle.ow_traits.specs.declared.keepers.KeeperError.{KeeperError}
use Rattle.ow_traits.specs.declared.keepers.KeeperError.TheVariants.{Failed, NoMemory}
use Rattle.ow_keep.specs.Judged.{judged}
use Rattle.ow_keep.specs.Kept.{IsBadRow}
use Rattle.ow_keep.specs.Split.{HoldsItems, Parts}
use Rattle.ow_commits.specs.Keeping.{StandsFollowing}
use Rattle.ow_commits.specs.Opening.{opened_trace, opening_changes, others_of}
use Rattle.ow_tenant.specs.Table.{Table}
use Rattle.ow_tenant.specs.Tenants.{pool_of}
use Rattle.ow_counts.specs.View.{StandsFor}
use Rattle.ow_hall.specs.Comes.{HoldsBook, Makes}
use Rattle.ow_hall.specs.History.{seen}
use Rattle.ow_hall.specs.Ledger.{HasRoom, opened, opening_moment}
use Rattle.ow_hall.specs.Openings.{HasStartCause, IsAskedOnce}
use Rattle.ow_hall.specs.State.{Keeps, StateView, kept_with}
use Rattle.ow_hall.specs.declared.opening.Opened.{Opened}
use Rattle.ow_hall.specs.declared.opening.Ready.{Ready}
use Rattle.ow_hall.specs.declared.refusals.StartFault.{StartFault}
use Rattle.ow_hall.specs.declared.refusals.StartFault.TheVariants as starts

-- floor and rows have taken these parts over at a moment; nobody waits, and nothing is noted
pub record IsOver (t : Table) (at : ℕ) (p : Parts) (w : StateView) : Type 0 where
  pub stands : Stands w.floor.now (opened_trace at p (pool_of t) t.wants)
  pub free : w.floor.before ≡ None
  pub rows : w.rows ≡ resumed p.entities builtin
  pub waits : w.waits ≡ []
  pub counts : StandsFor w.counts []
  pub others : w.others ≡ others_of p

-- floor, rows, waits and counts are what they were
pub record IsBeside (w v : StateView) : Type 0 where
  pub floor : v.floor ≡ w.floor
  pub rows : v.rows ≡ w.rows
  pub waits : v.waits ≡ w.waits
  pub counts : v.counts ≡ w.counts
  pub others : v.others ≡ w.others

-- an opening over these rows is ready to be committed
pub record IsReadied (t : Table) (rows : List (List ℕ × List ℕ)) (at : ℕ) (r : Ready) : Type 0 where
  pub parts : Parts
  pub order : AreRows rows
  pub holds : HoldsItems rows parts
  pub over : IsOver t (opening_moment rows at) parts r.opened.state
  pub ledger : r.opened.book.ledger ≡ opened t rows at
  pub changes : r.commit.changes ≡ opening_changes (opening_moment rows at) parts
  pub stands : StandsFollowing r.commit (others_of parts) (resumed parts.entities builtin) (opened_trace (opening_moment rows at) parts (pool_of t) t.wants)

-- rows were loaded from a store, which holds them still
pub record IsLoaded {P : Type 0} (telling : P → Telling) (old new : P) (loaded : List (List ℕ × List ℕ)) : Type 0 where
  pub told : IfSome (telling old).rows (λ kept. loaded ≡ kept)
  pub same : (telling new).rows ≡ (telling old).rows
  pub old_rows : (telling new).old_rows ≡ (telling old).old_rows
  pub commits : (telling new).commits ≡ (telling old).commits
  pub later : (telling old).faults ≤ (telling new).faults

-- it was committed to a store
pub record IsOpenedOver {P : Type 0} (telling : P → Telling) (old new : P) (t : Table) (at : ℕ) (o : Opened) : Type 0 where
  pub loaded : List (List ℕ × List ℕ)
  pub told : IfSome (telling old).rows (λ kept. loaded ≡ kept)
  pub allowed : IsOk (judged loaded)
  pub ledger : o.book.ledger ≡ opened t loaded at
  pub keeps : Keeps o.state t o.book.ledger
  pub room : HasRoom (seen t o.book.ledger.entries).trace o.book.ledger o.book.room
  pub holds : HoldsBook (telling new).rows t o.book.ledger
  pub later : (telling old).faults ≤ (telling new).faults
  pub changes : List Change
  pub makes : Makes telling changes old new

-- the commit was made
pub record IsKeptBy (r : Ready) (o : Opened) : Type 0 where
  pub beside : IsBeside r.opened.state o.state
  pub keeping : o.state.keeping ≡ kept_with (Some r.commit) r.opened.state.keeping
  pub book : o.book ≡ r.opened.book

-- it was not, and the store holds what it held
pub record IsRefused {P : Type 0} (telling : P → Telling) (old new : P) (fault : StartFault) : Type 0 where
  pub cause : HasStartCause telling old new fault
  pub rows_stay : (telling new).rows ≡ (telling old).rows
  pub old_rows_stay : (telling new).old_rows ≡ (telling old).old_rows
  pub later : (telling old).faults ≤ (telling new).faults
  pub commits : IsAskedOnce (telling old).commits (telling new).commits

-- a fault of the store, and running out of memory
abbrev pub fault_of : KeeperError → StartFault
fault_of Failed = starts.StoreFault
fault_of NoMemory = starts.NoMemory

-- nothing is made ready of rows that are not allowed: the refusal has the key of the first bad one
abbrev pub TellsUnready : List (List ℕ × List ℕ) → StartFault → Type 0
TellsUnready rows (starts.BadKept key) = IsBadRow rows key
TellsUnready rows starts.StoreFault = ⊥
TellsUnready rows starts.NoMemory = Unit {0}
