-- How windows agree with what was noted.
use Rattle.std.specs.Prelude.{◌≡◌, ◌≢◌, ◌+◌, ◌^◌, ◌≤◌, ◌<◌, ℕ, List, [], Option, Some, None, count_by}
use Rattle.ow_value.specs.ByText.{ByText, value_at}
use Rattle.ow_tenant.specs.Notes.{Notes, concurrent, counts_at, fires, is_ended, is_invoked, latest, minute}
use Rattle.ow_tenant.specs.Queue.{AllUpTo, Rise}
use Rattle.ow_tenant.specs.declared.window.Window.{Window}

-- ---- one namespace

-- of the namespace's notes the window counts what counts from the latest on
pub record Stands (namespace : List ℕ) (w : Window) (notes : Notes) : Type 0 where
  pub invoked : (now : ℕ) → latest notes ≤ now → count_by (counts_at now) w.invocations.moments ≡ minute notes namespace now
  pub fired : (now : ℕ) → latest notes ≤ now → count_by (counts_at now) w.fires.moments ≡ fires notes namespace now
  pub running : w.running ≡ concurrent notes namespace
  pub ended : count_by (is_ended namespace) notes ≤ count_by (is_invoked namespace) notes
  pub invoked_rise : Rise w.invocations.moments
  pub invoked_up_to : AllUpTo (latest notes) w.invocations.moments
  pub fired_rise : Rise w.fires.moments
  pub fired_up_to : AllUpTo (latest notes) w.fires.moments

-- there is room for n more invocations and f more fires
pub record HasRoom (n f : ℕ) (w : Window) : Type 0 where
  pub invoked : n ≤ w.invocations.room
  pub fired : f ≤ w.fires.room
  pub counter : w.running + n < 2 ^ 64

-- ---- all namespaces

-- that of which nothing was noted
abbrev pub no_window : Window
no_window = record { invocations = record { moments = []; room = 0 }; fires = record { moments = []; room = 0 }; running = 0 }

abbrev pub or_none : Option Window → Window
or_none None = no_window
or_none (Some w) = w

-- the window of a namespace
abbrev pub window_of : List ℕ → ByText Window → Window
window_of namespace ws = or_none (value_at namespace ws)

-- each namespace's window agrees with these notes
abbrev pub StandsAs : ByText Window → Notes → Type 0
StandsAs ws notes = (namespace : List ℕ) → Stands namespace (window_of namespace ws) notes

-- a namespace has room for n more invocations and f more fires
abbrev pub HasRoomIn : List ℕ → ℕ → ℕ → ByText Window → Type 0
HasRoomIn namespace n f ws = HasRoom n f (window_of namespace ws)

-- the windows of all other namespaces are the same
abbrev pub KeepsOthers : List ℕ → ByText Window → ByText Window → Type 0
KeepsOthers namespace old new = (other : List ℕ) → other ≢ namespace → window_of other new ≡ window_of other old
