-- What is true of the steps that follow an event, and of a sweep.
use Rattle.std.specs.Prelude.{◌≡◌, ◌⊎◌, ◌++◌, ℕ, [], ◌∷◌, Option, Some, None}
use Rattle.std.specs.List.{AllByRecursion}
use Rattle.ow_packages.specs.Access.{Standing}
use Rattle.ow_compose.specs.declared.steps.Step.TheVariants.{Done}
use Rattle.ow_records.specs.Response.{ResponseView}
use Rattle.ow_records.specs.declared.activations.Activation.{Activation}
use Rattle.ow_records.specs.declared.frames.Frame.{Frame}
use Rattle.ow_records.specs.declared.frames.Used.{Used}
use Rattle.ow_records.specs.declared.ids.Id.{Id}
use Rattle.ow_records.specs.declared.outcomes.Ending.{Ending}
use Rattle.ow_records.specs.declared.outcomes.Ending.TheVariants.{Composed}
use Rattle.ow_traits.specs.declared.replies.RunReply.{RunReply}
use Rattle.ow_floor.specs.Calls.{accept_items, answered_items, overrun_first}
use Rattle.ow_floor.specs.Growth.{AreRight}
use Rattle.ow_floor.specs.Laws.{IsSound}
use Rattle.ow_floor.specs.Owed.{rises}
use Rattle.ow_floor.specs.Trace.{Accepted, Ended, Item, Swept, Trace, firing, moment_of, shown}
use Rattle.ow_floor.specs.declared.activations.Plan.{Plan}
use Rattle.ow_trees.specs.Each.{AreEach}
use Rattle.ow_trees.specs.Driven.{AreDriven, IsAnswer, IsDriven, IsStep}
use Rattle.ow_trees.specs.Owed.{AreOwed}
use Rattle.ow_trees.specs.Steps.{late_in, next_in, stepped, steps_after, sweep_items}

-- ---- the steps keep traces sound
pub record StepsAreRight : Type 0 where
  pub steps : (n : ℕ) (rs : Standing) (at : ℕ) (T : Trace) (next : Option Id) → IsSound T → AreRight (stepped n rs at T next) (shown T)
  pub after : (rs : Standing) (at : ℕ) (items T : Trace) → IsSound T → AreRight items (shown T) → AreRight (steps_after rs at T items) (shown T)
  pub sweep : (rs : Standing) (at : ℕ) (T : Trace) → IsSound T → AreRight (sweep_items rs at T) (shown T)

-- ---- each step is one of an open composite

-- what a sweep adds: the end of what is late, a step that follows, or the sweep itself
abbrev pub IsSweptItem : Standing → ℕ → Item → Trace → Type 0
IsSweptItem rs at item T = IsDriven rs at item T ⊎ ((overrun_first at T ≡ item ∷ []) ⊎ (item ≡ Swept at))

-- each of these items over the items before it
abbrev pub AreSweptItems : Standing → ℕ → Trace → Trace → Type 0
AreSweptItems rs at items T = AreEach (IsSweptItem rs at) items T

pub record StepsAreDriven : Type 0 where
  pub steps : (n : ℕ) (rs : Standing) (at : ℕ) (T : Trace) (next : Option Id) → AreDriven rs at (stepped n rs at T next) T
  pub sweep : (rs : Standing) (at : ℕ) (T : Trace) → AreSweptItems rs at (sweep_items rs at T) T
  pub answers : (a : Activation) (used : Used) (f : Frame) (r : ResponseView) → IsStep a used f (Done r) → IsAnswer f r

-- ---- each child, and each end of a composite, is the step that is owed there
pub record StepsAreOwed : Type 0 where
  pub steps : (n : ℕ) (rs : Standing) (at : ℕ) (T : Trace) (next : Option Id) → AreOwed rs at (stepped n rs at T next) T
  pub after : (rs : Standing) (at : ℕ) (items T : Trace) → AreOwed rs at items T → AreOwed rs at (steps_after rs at T items) T
  pub sweep : (rs : Standing) (at : ℕ) (T : Trace) → AreOwed rs at (sweep_items rs at T) T
  pub accept : (rs : Standing) (at : ℕ) (plan : Plan) (T : Trace) → plan.cause ≡ None → AreOwed rs at (accept_items at plan) T
  pub answered : (rs : Standing) (at run : ℕ) (reply : RunReply) (T : Trace) → AreOwed rs at (answered_items at run reply T) T
  pub overrun : (rs : Standing) (at : ℕ) (T : Trace) → AreOwed rs at (overrun_first at T) T

-- ---- the steps are acceptances of children and ends of composites

abbrev pub IsSome : Option Id → Type 0
IsSome None = ⊥
IsSome (Some id) = Unit {0}

abbrev pub IsComposedEnd : Ending → Type 0
IsComposedEnd (Composed response children) = Unit {0}
IsComposedEnd ending = ⊥

-- a child is accepted, or a composite ends, at this moment
abbrev pub IsStepItem : ℕ → Item → Type 0
IsStepItem at (Accepted a) = (a.at ≡ at) × IsSome a.cause
IsStepItem at (Ended e) = (e.at ≡ at) × IsComposedEnd e.ending
IsStepItem at item = ⊥

pub record StepsArePlain : Type 0 where
  pub kinds : (n : ℕ) (rs : Standing) (at : ℕ) (T : Trace) (next : Option Id) → AllByRecursion (IsStepItem at) (stepped n rs at T next)
  pub moments : (n : ℕ) (rs : Standing) (at : ℕ) (T : Trace) (next : Option Id) → AllByRecursion (λ item. moment_of item ≡ at) (stepped n rs at T next)
  pub raises : (n : ℕ) (rs : Standing) (at : ℕ) (T : Trace) (next : Option Id) → rises (stepped n rs at T next) ≡ 0
  pub after : (rs : Standing) (at : ℕ) (items T : Trace) → rises (steps_after rs at T items) ≡ rises items
  pub sweep : (rs : Standing) (at : ℕ) (T : Trace) → rises (sweep_items rs at T) ≡ 0
  pub swept : (rs : Standing) (at : ℕ) (T : Trace) → AllByRecursion (λ item. moment_of item ≡ at) (sweep_items rs at T)
  pub fires : (rs : Standing) (at : ℕ) (items T : Trace) → firing (steps_after rs at T items ++ T) ≡ firing (items ++ T)
  pub late : (n : ℕ) (rs : Standing) (at : ℕ) (T : Trace) (next : Option Id) → late_in (stepped n rs at T next) ≡ 0
  pub none : (rs : Standing) (at : ℕ) (items T : Trace) → next_in items ≡ None → steps_after rs at T items ≡ items
