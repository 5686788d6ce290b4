-- How the counts agree with what happened.
use Rattle.std.specs.Prelude.{◌≡◌, ◌+◌, ◌&&◌, ◌^◌, ◌≤◌, ◌<◌, ℕ, List, [], ◌∷◌, Bool, true, false, count_by, is_none, length, if◌then◌else◌}
use Rattle.std.specs.List.{AllByRecursion}
use Rattle.std.specs.Str.{bytes_eq}
use Rattle.ow_floor.specs.declared.moves.Moved.{Moved}
use Rattle.ow_floor.specs.declared.moves.Moved.TheVariants as moves
use Rattle.ow_floor.specs.Trace.{Item, Trace, Accepted, Ended, Fired, accepted}
use Rattle.ow_floor.specs.Trace as trace
use Rattle.ow_value.specs.ByText.{ByText}
use Rattle.ow_tenant.specs.Notes.{Note, Notes, counts_at, fired, invoked, ended, is_ended, is_invoked, latest}
use Rattle.ow_tenant.specs.Windows.{HasRoomIn, StandsAs}
use Rattle.ow_tenant.specs.declared.window.Window.{Window}

-- ---- what is noted of what happened

abbrev pub noted_if : Bool → Note → Notes → Notes
noted_if b note notes = if b then note ∷ notes else notes

-- what no other activation caused is noted as it is accepted, and as it ends; a fire as it is recorded
abbrev pub noted_after : Item → Notes → Notes
noted_after (Accepted a) notes = noted_if (is_none a.cause) (invoked a.namespace a.at) notes
noted_after (Ended e) notes = noted_if (is_none e.task.cause) (ended e.task.namespace) notes
noted_after (Fired r) notes = fired r.namespace r.span.start ∷ notes
noted_after item notes = notes

-- the newest first
abbrev pub notes_of : Trace → Notes
notes_of [] = []
notes_of (item ∷ T) = noted_after item (notes_of T)

-- what is noted of one move
abbrev pub noted_moved : Moved → Notes → Notes
noted_moved (moves.Accepted a) notes = noted_if (is_none a.cause) (invoked a.namespace a.at) notes
noted_moved (moves.Ended r) notes = noted_if (is_none r.cause) (ended r.namespace) notes
noted_moved (moves.Drawn id) notes = notes
noted_moved (moves.Fired r) notes = fired r.namespace r.span.start ∷ notes

-- of all that moved, the earliest first
abbrev pub noted_moves : List Moved → Notes → Notes
noted_moves [] notes = notes
noted_moves (m ∷ ms) notes = noted_moves ms (noted_moved m notes)

-- ---- counts of all namespaces

abbrev pub is_invocation : Note → Bool
is_invocation (invoked namespace at) = true
is_invocation note = false

abbrev pub is_end : Note → Bool
is_end (ended namespace) = true
is_end note = false

-- ---- counts of what moved

-- an invocation of some namespace
abbrev pub comes : Moved → Bool
comes (moves.Accepted a) = is_none a.cause
comes m = false

-- of this one
abbrev pub comes_in : List ℕ → Moved → Bool
comes_in namespace (moves.Accepted a) = is_none a.cause && bytes_eq a.namespace namespace
comes_in namespace m = false

-- in the minute at `now`
abbrev pub comes_at : List ℕ → ℕ → Moved → Bool
comes_at namespace now (moves.Accepted a) = is_none a.cause && (bytes_eq a.namespace namespace && counts_at now a.at)
comes_at namespace now m = false

-- the end of an invocation of some namespace
abbrev pub leaves : Moved → Bool
leaves (moves.Ended r) = is_none r.cause
leaves m = false

-- of this one
abbrev pub leaves_in : List ℕ → Moved → Bool
leaves_in namespace (moves.Ended r) = is_none r.cause && bytes_eq r.namespace namespace
leaves_in namespace m = false

-- ---- what is kept

-- the windows of the namespaces, and how many invocations have not ended
pub record CountsView : Type 0 where
  pub windows : ByText Window
  pub busy : ℕ

-- the counts agree with these notes
pub record StandsFor (v : CountsView) (notes : Notes) : Type 0 where
  pub windows : StandsAs v.windows notes
  pub busy : v.busy + count_by is_end notes ≡ count_by is_invocation notes

-- there is room for `count` more invocations of a namespace
pub record HasRoomFor (namespace : List ℕ) (count : ℕ) (v : CountsView) : Type 0 where
  pub window : HasRoomIn namespace count 0 v.windows
  pub counter : v.busy + count < 2 ^ 64

-- an invocation of the namespace has not ended, and so one of all has not
pub record MayEnd (namespace : List ℕ) (notes : Notes) : Type 0 where
  pub here : count_by (is_ended namespace) notes < count_by (is_invoked namespace) notes
  pub everywhere : count_by is_end notes < count_by is_invocation notes

-- ---- notes of moves

-- what is accepted or fired is of no earlier moment than the notes, and what ends is an invocation that has not ended
abbrev pub MayMove : Moved → Notes → Type 0
MayMove (moves.Accepted a) notes = latest notes ≤ a.at
MayMove (moves.Ended r) notes = is_none r.cause ≡ true → MayEnd r.namespace notes
MayMove (moves.Drawn id) notes = Unit {0}
MayMove (moves.Fired r) notes = latest notes ≤ r.span.start

-- each may move after those before it
abbrev pub MayAllMove : List Moved → Notes → Type 0
MayAllMove [] notes = Unit {0}
MayAllMove (m ∷ ms) notes = MayMove m notes × MayAllMove ms (noted_moved m notes)

-- there is room for that many more invocations and fires of the namespace
abbrev pub HasRoomOf : List ℕ → ℕ → CountsView → Type 0
HasRoomOf namespace n v = HasRoomIn namespace n n v.windows

-- there is room for that many more notes of what was accepted, where no other activation caused it, and of a fire
abbrev pub IsRoomy : ℕ → CountsView → Moved → Type 0
IsRoomy n v (moves.Accepted a) = is_none a.cause ≡ true → HasRoomOf a.namespace n v
IsRoomy n v (moves.Ended r) = Unit {0}
IsRoomy n v (moves.Drawn id) = Unit {0}
IsRoomy n v (moves.Fired r) = HasRoomOf r.namespace n v

-- there is room for that many notes, and the moves are no more
pub record HasRoomOver (n : ℕ) (ms : List Moved) (v : CountsView) : Type 0 where
  pub windows : AllByRecursion (IsRoomy n v) ms
  pub counter : v.busy + n < 2 ^ 64
  pub within : length ms ≤ n

-- there is room for the notes of all that moved
abbrev pub HasRoomForMoves : List Moved → CountsView → Type 0
HasRoomForMoves ms v = HasRoomOver (length ms) ms v

-- what an item accepts or fires is of this moment
abbrev pub IsNotedAt : ℕ → Item → Type 0
IsNotedAt now (Accepted a) = a.at ≡ now
IsNotedAt now (Fired r) = r.span.start ≡ now
IsNotedAt now item = Unit {0}

abbrev pub AreNotedAt : ℕ → Trace → Type 0
AreNotedAt now items = AllByRecursion (IsNotedAt now) items

-- no activation was accepted, and nothing fired, after this moment
abbrev pub AreUpTo : ℕ → Trace → Type 0
AreUpTo now T = AllByRecursion (λ a. a.at ≤ now) (accepted T) × AllByRecursion (λ r. r.span.start ≤ now) (trace.fired T)
