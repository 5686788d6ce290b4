-- For private clauses: ends of activations over the kept lists.
use Rattle.std.specs.Prelude.{◌≡◌, ◌⊎◌, ◌++◌, ◌+◌, ℕ, Bool, true, List, [], ◌∷◌, Option, Some, None, length, slice_index_or}
use Rattle.std.specs.List.{find, IsDistinct}
use Rattle.std.specs.declared.cmp.Ordering.{Ordering}
use Rattle.std.specs.List.Sorted.{IsPermutation, IsSorted}
use Rattle.ow_value.specs.Value.{text_cmp}
use Rattle.ow_records.specs.Records.{id_numbers}
use Rattle.ow_records.specs.declared.outcomes.Ending.{Ending}
use Rattle.ow_records.specs.declared.outcomes.Ending.TheVariants.{Abandoned, Overran, Replied}
use Rattle.ow_traits.specs.declared.replies.RunReply.{RunReply}
use Rattle.ow_records.specs.declared.activations.Activation.{Activation}
use Rattle.ow_floor.specs.declared.activations.Open.{Open}
use Rattle.ow_floor.specs.declared.answers.Order.{Order}
use Rattle.ow_floor.specs.declared.moves.Moved.{Moved}
use Rattle.ow_floor.specs.declared.moves.Moved.TheVariants as moves
use Rattle.ow_floor.specs.declared.by_id.OpenPlace.{OpenPlace}
use Rattle.ow_floor.specs.declared.lists.Berth.{Berth}
use Rattle.ow_floor.specs.declared.runs.Run.{Run}
use Rattle.ow_floor.specs.View.{begun, is_number, is_of, remove_first, same_open}
use Rattle.ow_floor.specs.Trace.{End, Trace, record_of}
use Rattle.ow_floor.specs.Growth.{freed, grown}
use Rattle.ow_slot_laws.specs.Life as lives
use Rattle.ow_slots.specs.Slots.{IsThere, first_with, change_first}
use Rattle.ow_slots.specs.State.{IsUnrecorded, runs as is_busy_with}
use Rattle.ow_floor.specs.Calls.{abandoned_items, end_items, ended_by, first_late, has_items, is_late, items_on, late_of, moved, order_on, overrun_items, sorted_by_id}
use Rattle.ow_floor.specs.Frames.{frames_ended, part_of}
use Rattle.ow_floor.specs.Store.{IsGood, IsSpot, Store, ended_in, event_in, freed_in, opens, run_in, show, there, with_frames}

-- the activation at this place has ended so, and its cause hears it
abbrev pub end_in : ℕ → End → Store → Store
end_in place e R = ended_in e.at place (record_of e) (with_frames (frames_ended (part_of e.task) (record_of e).response R.frames) R)

-- the activation there has ended, and it is noted that it moved
pub record IsEndedAt (at : ℕ) (ending : Ending) (run : Option Run) (place : ℕ) (old new : Store) (before after : List Moved) : Type 0 where
  pub task : Activation
  pub here : slice_index_or old.tasks place None ≡ Some task
  pub now : new ≡ end_in place (ended_by at ending run task) old
  pub noted : after ≡ before ++ moves.Ended (record_of (ended_by at ending run task)) ∷ []

-- what the run carries is late and at this place, and no sweep recorded it
pub record IsLateSpot (at : ℕ) (r : Run) (R : Store) (place : ℕ) : Type 0 where
  pub spot : IsSpot (is_of r.id) R.spots R.tasks place
  pub late : is_late at r spot.item.task ≡ true
  pub unrecorded : IsThere IsUnrecorded (first_with (is_busy_with r.number) R.slots)

-- the activation there has overrun, which is noted and recorded
pub record IsOverrunAt (at : ℕ) (r : Run) (place : ℕ) (old new : Store) (before after : List Moved) : Type 0 where
  pub middle : Store
  pub ended : IsEndedAt at Overran (Some r) place old middle before after
  pub now : new ≡ event_in at (lives.Overran r.number at) middle

-- what the run carries is late and at this place, or isn't late
abbrev pub IsLateEnd : ℕ → Run → Store → Option ℕ → Type 0
IsLateEnd at r R None = late_of at r (show R) ≡ []
IsLateEnd at r R (Some place) = IsLateSpot at r R place

-- these items were made, and what moved was noted
pub record IsMade (items : Trace) (old new : Store) (before after : List Moved) : Type 0 where
  pub shows : show new ≡ grown items (show old)
  pub good : IsGood new
  pub runs : new.runs ≡ old.runs
  pub noted : after ≡ before ++ moved items

-- what the run carries has ended by a reply, or had ended before
pub record IsEndedRun (at : ℕ) (r : Run) (reply : RunReply) (old new : Store) (before after : List Moved) : Type 0 where
  pub shows : show new ≡ grown (end_items at (Replied reply) (Some r) (find (is_of r.id) (opens old.spots old.tasks))) (show old)
  pub good : IsGood new
  pub runs : new.runs ≡ old.runs
  pub slots : new.slots ≡ old.slots
  pub noted : after ≡ before ++ moved (end_items at (Replied reply) (Some r) (find (is_of r.id) (opens old.spots old.tasks)))

-- the end of what this run carries, where it is late
abbrev pub late_at : ℕ → Option Berth → Store → Trace
late_at at None R = []
late_at at (Some b) R = late_of at b.run (show R)

abbrev pub IsSweptOne : ℕ → Option Berth → Store → Store → List Moved → List Moved → Type 0
IsSweptOne at cell old new before after = IsMade (late_at at cell old) old new before after

abbrev pub first_swept : ℕ → Store → Trace
first_swept at R = first_late at (show R).live (show R)

-- what the first late run carries has ended, if there is one
pub record IsFirstSwept (at : ℕ) (late : Bool) (old new : Store) (before after : List Moved) : Type 0 where
  pub made : IsMade (first_swept at old) old new before after
  pub tells : late ≡ has_items (first_swept at old)

abbrev pub sweeps : ℕ → Store → Trace
sweeps at R = overrun_items at (show R).live (show R)

abbrev pub abandons : ℕ → Store → Trace
abandons at R = abandoned_items at (sorted_by_id (show R).open_items)

-- ---- by their ids

-- what is open of these, with the places from this one on
abbrev pub placed : ℕ → List (Option Activation) → List OpenPlace
placed k [] = []
placed k (None ∷ ts) = placed (k + 1) ts
placed k (Some a ∷ ts) = record { id = a.id; place = k } ∷ placed (k + 1) ts

abbrev pub place_cmp : OpenPlace → OpenPlace → Ordering
place_cmp a b = text_cmp (id_numbers a.id) (id_numbers b.id)

-- what is open of these, with its places, in the order of the ids
pub record IsByIds (ts : List (Option Activation)) (ps : List OpenPlace) : Type 0 where
  pub same : IsPermutation (placed 0 ts) ps
  pub sorted : IsSorted place_cmp ps

-- these activations are at these places
abbrev pub ArePlaced : List (Option Activation) → List OpenPlace → List Open → Type 0
ArePlaced ts [] [] = Unit {0}
ArePlaced ts [] (o ∷ os) = ⊥
ArePlaced ts (p ∷ ps) [] = ⊥
ArePlaced ts (p ∷ ps) (o ∷ os) = (p.id ≡ o.task.id) × (slice_index_or ts p.place None ≡ Some o.task) × ArePlaced ts ps os

-- ---- under way

-- these runs are still to be swept
pub record IsSweeping (at : ℕ) (old now : Store) (cells : List (Option Berth)) (before after : List Moved) : Type 0 where
  pub shows : grown (overrun_items at (there run_in cells) (show now)) (show now) ≡ grown (sweeps at old) (show old)
  pub noted : after ++ moved (overrun_items at (there run_in cells) (show now)) ≡ before ++ moved (sweeps at old)
  pub runs : now.runs ≡ old.runs
  pub good : IsGood now

-- what the runs before these carry isn't late
abbrev pub IsSeeking : ℕ → Store → List (Option Berth) → Type 0
IsSeeking at R cells = first_swept at R ≡ first_late at (there run_in cells) (show R)

-- there is a run, and what it carries is late and at this place; or it isn't late
abbrev pub IsLateCell : ℕ → Option Berth → Store → Option (ℕ × Run) → Type 0
IsLateCell at cell R None = late_at at cell R ≡ []
IsLateCell at cell R (Some found) = (late_at at cell R ≡ late_of at found.1 (show R)) × IsLateSpot at found.1 R found.0

-- the first late run, and the place of what it carries
abbrev pub IsFirstLate : ℕ → Store → Option (ℕ × Run) → Type 0
IsFirstLate at R None = first_swept at R ≡ []
IsFirstLate at R (Some found) = (first_swept at R ≡ late_of at found.1 (show R)) × IsLateSpot at found.1 R found.0

-- what is left to be abandoned is at these places
pub record IsLeft (at : ℕ) (old now : Store) (ps : List OpenPlace) (before after : List Moved) : Type 0 where
  pub left : List Open
  pub placed : ArePlaced now.tasks ps left
  pub others : IsDistinct same_open left
  pub apart : IsDistinct same_open (opens now.spots now.tasks)
  pub shows : grown (abandoned_items at left) (show now) ≡ grown (abandons at old) (show old)
  pub noted : after ++ moved (abandoned_items at left) ≡ before ++ moved (abandons at old)

-- these places are still to be abandoned, where the ids of all that is open differ
pub record IsAbandoning (at : ℕ) (old now : Store) (ps : List OpenPlace) (before after : List Moved) : Type 0 where
  pub ends : IsDistinct same_open (opens old.spots old.tasks) → IsLeft at old now ps before after
  pub size : length now.tasks ≡ length old.tasks
  pub runs : now.runs ≡ old.runs
  pub good : IsGood now

abbrev pub IsAbandonedAt : ℕ → ℕ → Store → Store → List Moved → List Moved → Type 0
IsAbandonedAt at place old new before after = IsEndedAt at Abandoned None place old new before after

-- all has ended as abandoned, where the ids of all that is open differ
abbrev pub AreAbandoned : ℕ → Store → Store → List Moved → List Moved → Type 0
AreAbandoned at old new before after = IsDistinct same_open (opens old.spots old.tasks) → IsMade (abandons at old) old new before after

-- what the run carries waits again at its place, or isn't open
abbrev pub IsFreed : Run → Store → Store → Type 0
IsFreed r old new = ((find (is_of r.id) (opens old.spots old.tasks) ≡ None) × (new ≡ old))
    ⊎ ((place : ℕ) × IsSpot (is_of r.id) old.spots old.tasks place × (new ≡ freed_in place old))

-- an order was carried out and returned
pub record IsOrdered (at : ℕ) (old new : Store) (order : Order) : Type 0 where
  pub shows : show new ≡ grown (items_on at (show old)) (show old)
  pub tells : order ≡ order_on (show old)

-- the live run of this number has begun, where there is one
abbrev pub IsRunBegun : ℕ → ℕ → Store → Store → Type 0
IsRunBegun at run old new = show new ≡ record (show old) { live = change_first (is_number run) (begun at) (show old).live }

-- the live run of this number is no more, and what it carried waits again, where it is open
abbrev pub IsRunLost : ℕ → Store → Store → Type 0
IsRunLost run old new = show new ≡ record (show old) {
  open_items = freed (find (is_number run) (show old).live) (show old).open_items;
  live = remove_first (is_number run) (show old).live;
}
