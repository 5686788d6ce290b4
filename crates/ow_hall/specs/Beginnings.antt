-- What is kept of every activation, by every legal book and each of its beginnings.
use Rattle.std.specs.Prelude.{◌≡◌, ◌≤◌, ◌++◌, List, [], ◌∷◌, Some, None}
use Rattle.ow_records.specs.Response.{ResponseView}
use Rattle.ow_records.specs.declared.activations.Activation.{Activation}
use Rattle.ow_records.specs.declared.ids.Id.{Id}
use Rattle.ow_records.specs.declared.outcomes.Ending.TheVariants.{Composed}
use Rattle.ow_slots.specs.Slots.{memory_held}
use Rattle.ow_floor.specs.Trace.{Accepted, End, Ended, Trace, firing, pool_of, slots}
use Rattle.ow_floor.specs.Laws.{EndedWereAccepted, IsParted, RunOnce}
use Rattle.ow_floor.specs.Calls.{AllRecorded, drain_answer}
use Rattle.ow_tenant.specs.Table.{Table}
use Rattle.ow_tenant.specs.Tenants.{limits_of}
use Rattle.ow_counts.specs.Within.{AreWithin}
use Rattle.ow_tables.specs.Rows.{standing}
use Rattle.ow_trees.specs.Owed.{AreOwed}
use Rattle.ow_trees.specs.Steps.{step}
use Rattle.ow_hall.specs.declared.entry.Entry.{Entry}
use Rattle.ow_hall.specs.History.{History, decision, seen}

-- of what happened on the floor: each accepted activation is exactly one of waiting, running and recorded, once, and has one live run at
-- most; each fire is recorded, once, in the event that draws its id; what has ended was accepted, as it was planned; where `drain` would
-- answer drained, each is recorded, once; and the containers hold no more memory than the pool
pub record IsKept (T : Trace) : Type 0 where
  pub parted : IsParted T
  pub once : RunOnce T
  pub known : EndedWereAccepted T
  pub drained : AllRecorded T (drain_answer T)
  pub closed : firing T ≡ None
  pub within : memory_held (slots T) ≤ pool_of T

-- a book, and each of its beginnings
abbrev pub KeepsEach : Table → History → Type 0
KeepsEach t [] = IsKept (seen t []).trace
KeepsEach t (e ∷ B) = IsKept (seen t (e ∷ B)).trace × KeepsEach t B

-- by a book, and each of its beginnings, no acceptance and no fire of a trigger passes the limits of its namespace
abbrev pub KeepsLimits : Table → History → Type 0
KeepsLimits t [] = AreWithin (λ namespace. limits_of namespace t) (seen t []).trace
KeepsLimits t (e ∷ B) = AreWithin (λ namespace. limits_of namespace t) (seen t (e ∷ B)).trace × KeepsLimits t B

-- ---- what composites do

-- what happened at an entry, the newest first
abbrev pub items_at : Table → Entry → History → Trace
items_at t e B = (decision t B e.at e.event).items

-- by a book, and each of its beginnings, what another activation caused is the step that its cause owed there, and a composite's end the
-- step that it owed itself
abbrev pub KeepsSteps : Table → History → Type 0
KeepsSteps t [] = Unit {0}
KeepsSteps t (e ∷ B) = AreOwed (standing (seen t B).rows) e.at (items_at t e B) (seen t B).trace × KeepsSteps t B

-- where a composite has ended of itself at an entry, that is the step that it owed: by its children so far, and the rows before the entry
abbrev pub EndsAreSteps : Table → Entry → History → Type 0
EndsAreSteps t e B = (later before : Trace) (end : End) (response : ResponseView) (children : List Id) → items_at t e B ≡ later ++ (Ended end ∷ before)
    → end.ending ≡ Composed response children → step (standing (seen t B).rows) e.at (before ++ (seen t B).trace) end.task.id ≡ Some (Ended end)

-- where an activation was accepted at an entry that another caused, that is the step that its cause owed
abbrev pub ChildrenAreSteps : Table → Entry → History → Type 0
ChildrenAreSteps t e B = (later before : Trace) (a : Activation) (cause : Id) → items_at t e B ≡ later ++ (Accepted a ∷ before) → a.cause ≡ Some cause
    → step (standing (seen t B).rows) e.at (before ++ (seen t B).trace) cause ≡ Some (Accepted a)
