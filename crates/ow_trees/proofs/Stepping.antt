-- What is known of a step, and of all that follow.
use Rattle.std.proofs.Common.{◌≡◌, ◌++◌, ℕ, zero, suc, [], ◌∷◌, Option, Some, None, refl, subst, sym}
use Rattle.std.specs.Prelude.{option_map}
use Rattle.std.specs.List.{find}
use Rattle.ow_packages.specs.Access.{Standing}
use Rattle.ow_records.specs.declared.frames.Frame.{Frame}
use Rattle.ow_records.specs.declared.ids.Id.{Id}
use Rattle.ow_floor.specs.Calls.{overrun_first}
use Rattle.ow_floor.specs.Frames.{is_frame}
use Rattle.ow_floor.specs.Trace.{Item, Trace, frames, open_items, shown, task_by}
use Rattle.ow_floor.specs.View.{is_of}
use Rattle.ow_floor.specs.declared.activations.Open.{Open}
use Rattle.ow_floor.proofs.Firsts.{find_passes}
use Rattle.ow_floor.proofs.Tallies.{eq_of}
use Rattle.ow_trees.specs.Advance.{advance_of, next_id, used_by}
use Rattle.ow_trees.specs.Driven.{IsDriven}
use Rattle.ow_trees.specs.Each.{AreEach}
use Rattle.ow_trees.specs.Steps.{item_of, items_by, next_in, next_of, step, step_by, stepped, steps_after, swept_on, unless_empty}
use Rattle.ow_trees.specs.declared.advances.Advance.{Advance}
use Rattle.ow_trees.specs.declared.bounds.TheConstants.{MOST_STEPS}
use Rattle.ow_trees.proofs.Advancing.{advance_does}
use Rattle.ow_trees.proofs.Each.{each_append}

-- ---- one step

-- the step of this composite: what is open under the id, and its frame
pub record IsStepOf (rs : Standing) (at : ℕ) (item : Item) (T : Trace) (id : Id) : Type 0 where
  pub driven : IsDriven rs at item T
  pub same : driven.composite.task.id ≡ id

advance_driven : (rs : Standing) (at : ℕ) (id : Id) (T : Trace) (item : Item) (o : Open) (f : Frame) (m : Option Advance) → o.task.id ≡ id → find (is_of id) (open_items T) ≡ Some o
    → find (is_frame id) (frames T) ≡ Some f → advance_of rs (shown T) o.task f ≡ m → option_map (item_of at o.task f) m ≡ Some item → IsStepOf rs at item T id
advance_driven rs at id T item o f None same here framed does e = cc
advance_driven rs at id T item o f (Some adv) same here framed does e =
    let is : item ≡ item_of at o.task f adv = cc in
    record {
      driven = record {
        composite = o;
        frame = f;
        advance = adv;
        is_open = subst (λ (x : Id). find (is_of x) (open_items T) ≡ Some o) (sym same) here;
        framed = subst (λ (x : Id). find (is_frame x) (frames T) ≡ Some f) (sym same) framed;
        does = advance_does rs (next_id (shown T).drawn o.task.id.namespace) o.task (used_by (find (is_frame o.task.top) (frames T))) f adv does;
        is = is;
      };
      same = same;
    }

step_driven : (rs : Standing) (at : ℕ) (id : Id) (T : Trace) (item : Item) (o : Option Open) (f : Option Frame) → find (is_of id) (open_items T) ≡ o → find (is_frame id) (frames T) ≡ f
    → step_by rs at (shown T) (task_by o) f ≡ Some item → IsStepOf rs at item T id
step_driven rs at id T item None f here framed e = cc
step_driven rs at id T item (Some o) None here framed e = cc
step_driven rs at id T item (Some o) (Some f) here framed e =
    advance_driven rs at id T item o f (advance_of rs (shown T) o.task f) (eq_of o.task.id id (find_passes (is_of id) o (open_items T) here)) here framed refl e

pub step_is : (rs : Standing) (at : ℕ) (id : Id) (T : Trace) (item : Item) → step rs at T id ≡ Some item → IsStepOf rs at item T id
step_is rs at id T item e = step_driven rs at id T item (find (is_of id) (open_items T)) (find (is_frame id) (frames T)) refl refl e

-- ---- all steps

-- what holds of each step that is owed
abbrev pub OfSteps : (Item → Trace → Type 0) → Standing → ℕ → Type 0
OfSteps P rs at = (id : Id) (T : Trace) (item : Item) → step rs at T id ≡ Some item → P item T

each_by : (P : Item → Trace → Type 0) (n : ℕ) (rs : Standing) (at : ℕ) (T : Trace) (id : Id) (o : Option Item) → OfSteps P rs at
    → ((U : Trace) (next : Option Id) → AreEach P (stepped n rs at U next) U) → step rs at T id ≡ o
    → AreEach P (items_by o (λ item. stepped n rs at (item ∷ T) (next_of item) ++ item ∷ [])) T
each_by P n rs at T id None steps more e = tt
each_by P n rs at T id (Some item) steps more e =
    each_append P (stepped n rs at (item ∷ T) (next_of item)) (item ∷ []) T (more (item ∷ T) (next_of item)) (steps id T item e, tt)

pub each_stepped : (P : Item → Trace → Type 0) (n : ℕ) (rs : Standing) (at : ℕ) (T : Trace) (next : Option Id) → OfSteps P rs at → AreEach P (stepped n rs at T next) T
each_stepped P zero rs at T next steps = tt
each_stepped P (suc n) rs at T None steps = tt
each_stepped P (suc n) rs at T (Some id) steps = each_by P n rs at T id (step rs at T id) steps (λ U next. each_stepped P n rs at U next steps) refl

pub each_after : (P : Item → Trace → Type 0) (rs : Standing) (at : ℕ) (items T : Trace) → OfSteps P rs at → AreEach P items T → AreEach P (steps_after rs at T items) T
each_after P rs at items T steps each =
    each_append P (stepped MOST_STEPS rs at (items ++ T) (next_in items)) items T (each_stepped P MOST_STEPS rs at (items ++ T) (next_in items) steps) each

-- ---- sweeps

each_late : (P : Item → Trace → Type 0) (n : ℕ) (rs : Standing) (at : ℕ) (T items : Trace) → OfSteps P rs at → ((U : Trace) → AreEach P (swept_on n rs at U) U) → AreEach P items T
    → AreEach P (unless_empty items (λ late. swept_on n rs at (steps_after rs at T late ++ T) ++ steps_after rs at T late)) T
each_late P n rs at T [] steps more each = tt
each_late P n rs at T (item ∷ items) steps more each =
    let late = steps_after rs at T (item ∷ items) in
    each_append P (swept_on n rs at (late ++ T)) late T (more (late ++ T)) (each_after P rs at (item ∷ items) T steps each)

pub each_swept : (P : Item → Trace → Type 0) (n : ℕ) (rs : Standing) (at : ℕ) (T : Trace) → OfSteps P rs at → ((U : Trace) → AreEach P (overrun_first at U) U) → AreEach P (swept_on n rs at T) T
each_swept P zero rs at T steps late = tt
each_swept P (suc n) rs at T steps late = each_late P n rs at T (overrun_first at T) steps (λ U. each_swept P n rs at U steps late) (late T)
