-- For private clauses: steps and sweeps under way.
use Rattle.std.specs.Prelude.{◌≡◌, ◌+◌, ◌++◌, ℕ, List, [], ◌∷◌, length, Option, Some, None}
use Rattle.ow_packages.specs.Access.{Standing}
use Rattle.ow_records.specs.declared.activations.Activation.{Activation}
use Rattle.ow_records.specs.declared.ids.Id.{Id}
use Rattle.ow_floor.specs.Calls.{accept_items, compose_items, moved}
use Rattle.ow_floor.specs.Laws.{Stands}
use Rattle.ow_floor.specs.Trace.{Item, Trace, open_items}
use Rattle.ow_floor.specs.View.{Shown, last_of}
use Rattle.ow_floor.specs.declared.moves.Moved.{Moved}
use Rattle.ow_floor.specs.declared.moves.Moved.TheVariants as moves
use Rattle.std.specs.Option.{option_or}
use Rattle.ow_trees.specs.Steps.{items_by, late_in, next_of, stepped, swept_all, swept_on, unless_leaf}
use Rattle.ow_trees.specs.declared.advances.Advance.{Advance}
use Rattle.ow_trees.specs.declared.advances.Advance.TheVariants.{Call, End}
use Rattle.ow_trees.specs.declared.bounds.TheConstants.{MOST_STEPS}

-- ---- one step

-- a child's id is the next of its namespace
abbrev pub IsCallable : Advance → List Id → Type 0
IsCallable (Call plan) drawn = plan.id.count ≡ last_of drawn plan.id.namespace + 1
IsCallable (End r) drawn = Unit {0}

-- what a floor adds for it
abbrev pub made_items : ℕ → Id → Advance → Trace → Trace
made_items at id (Call plan) T = accept_items at plan
made_items at id (End r) T = compose_items at id r T

abbrev pub items_of : Option Item → Trace
items_of o = items_by o (λ item. item ∷ [])

abbrev pub next_by : Option Item → Option Id
next_by None = None
next_by (Some item) = next_of item

abbrev pub cause_of : Option Activation → Option Id
cause_of None = None
cause_of (Some a) = a.cause

-- ---- what moved

-- which composite may owe a step after a move
abbrev pub next_moved : Moved → Option Id
next_moved (moves.Accepted a) = unless_leaf a.form a.id
next_moved (moves.Ended r) = r.cause
next_moved m = None

-- by the last of these moves that names one
abbrev pub last_next : List Moved → Option Id
last_next [] = None
last_next (m ∷ ms) = option_or (last_next ms) (next_moved m)

-- ---- under way

-- this many steps are left, and some were made
pub record IsFollowing (rs : Standing) (at : ℕ) (start : Option Id) (left : ℕ) (next : Option Id) (T : Trace) (now : Shown) (before after : List Moved) : Type 0 where
  pub made : Trace
  pub stands : Stands now (made ++ T)
  pub rest : stepped left rs at (made ++ T) next ++ made ≡ stepped MOST_STEPS rs at T start
  pub noted : after ≡ before ++ moved made

-- this many runs were late, and what they carried has ended
pub record IsSweeping (rs : Standing) (at late : ℕ) (T : Trace) (now : Shown) (before after : List Moved) : Type 0 where
  pub made : Trace
  pub left : ℕ
  pub stands : Stands now (made ++ T)
  pub fuel : left + late ≡ length (open_items T)
  pub rest : swept_on left rs at (made ++ T) ++ made ≡ swept_all rs at T
  pub count : late ≡ late_in made
  pub noted : after ≡ before ++ moved made
