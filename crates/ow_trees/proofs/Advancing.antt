-- What a composite does next is the call of a component, a run of its own code, or its end.
use Rattle.std.proofs.Common.{◌≡◌, ℕ, List, Option, Some, None, inl, inr, refl, subst}
use Rattle.std.specs.Prelude.{Result, Ok, Err}
use Rattle.ow_value.specs.Value.{Pairs}
use Rattle.ow_packages.specs.Access.{Standing}
use Rattle.ow_packages.specs.declared.effective_action.Effective.{Effective}
use Rattle.ow_records.specs.declared.activations.Activation.{Activation}
use Rattle.ow_records.specs.declared.frames.Frame.{Frame}
use Rattle.ow_records.specs.declared.frames.Used.{Used}
use Rattle.ow_records.specs.declared.ids.Id.{Id}
use Rattle.ow_compose.specs.Refusal.{check_component, find_component, refused}
use Rattle.ow_compose.specs.declared.refusals.Untold.{Untold}
use Rattle.ow_compose.specs.declared.refusals.Untold.TheVariants.{Missing}
use Rattle.ow_compose.specs.declared.steps.Step.{Step}
use Rattle.ow_compose.specs.declared.steps.Step.TheVariants.{Named, Conductor, Done}
use Rattle.ow_trees.specs.Advance.{advance_by, advance_with, checked_advance, component_plan, found_advance, next_step, plain_advance, refused_advance, run_plan}
use Rattle.ow_trees.specs.Driven.{IsAdvance, IsStep}
use Rattle.ow_trees.specs.declared.advances.Advance.{Advance}
use Rattle.ow_trees.specs.declared.advances.Advance.TheVariants.{Call, End}

plain_does : (rs : Standing) (id : Id) (a : Activation) (used : Used) (f : Frame) (s : Step) (adv : Advance) → IsStep a used f s → plain_advance id a s ≡ Some adv → IsAdvance rs id a used f adv
plain_does rs id a used f (Named written given) adv step e = cc
plain_does rs id a used f (Conductor params) adv step e =
    let same : Call (run_plan id a params) ≡ adv = cc in
    subst (λ (x : Advance). IsAdvance rs id a used f x) same (inr (record { params = params; step = step; is = refl }))
plain_does rs id a used f (Done r) adv step e =
    let same : End r ≡ adv = cc in
    subst (λ (x : Advance). IsAdvance rs id a used f x) same step

refused_does : (rs : Standing) (id : Id) (a : Activation) (used : Used) (f : Frame) (why : Untold) (adv : Advance) → refused_advance id a used f why ≡ Some adv → IsAdvance rs id a used f adv
refused_does rs id a used f why adv e = plain_does rs id a used f (refused a.form a.own used f.conducted why) adv (inr (why, refl)) e

checked_does : (rs : Standing) (id : Id) (a : Activation) (used : Used) (f : Frame) (written : List ℕ) (given : Pairs) (called : Effective) (r : Result Pairs Untold) (adv : Advance)
    → next_step a used f ≡ Some (Named written given) → find_component rs written a.namespace a.action.name.namespace ≡ Some called → check_component called given used a.depth ≡ r
    → checked_advance id a used f called r ≡ Some adv → IsAdvance rs id a used f adv
checked_does rs id a used f written given called (Err why) adv step found checked e = refused_does rs id a used f why adv e
checked_does rs id a used f written given called (Ok params) adv step found checked e =
    let same : Call (component_plan id a called params) ≡ adv = cc in
    subst (λ (x : Advance). IsAdvance rs id a used f x) same
    (inl (record { written = written; given = given; called = called; params = params; step = step; found = found; checked = checked; is = refl }))

found_does : (rs : Standing) (id : Id) (a : Activation) (used : Used) (f : Frame) (written : List ℕ) (given : Pairs) (called : Option Effective) (adv : Advance)
    → next_step a used f ≡ Some (Named written given) → find_component rs written a.namespace a.action.name.namespace ≡ called → found_advance id a used f given called ≡ Some adv
    → IsAdvance rs id a used f adv
found_does rs id a used f written given None adv step found e = refused_does rs id a used f Missing adv e
found_does rs id a used f written given (Some called) adv step found e =
    checked_does rs id a used f written given called (check_component called given used a.depth) adv step found refl e

step_does : (rs : Standing) (id : Id) (a : Activation) (used : Used) (f : Frame) (s : Option Step) (adv : Advance) → next_step a used f ≡ s → advance_by rs id a used f s ≡ Some adv
    → IsAdvance rs id a used f adv
step_does rs id a used f None adv step e = cc
step_does rs id a used f (Some (Named written given)) adv step e =
    found_does rs id a used f written given (find_component rs written a.namespace a.action.name.namespace) adv step refl e
step_does rs id a used f (Some (Conductor params)) adv step e = plain_does rs id a used f (Conductor params) adv (inl step) e
step_does rs id a used f (Some (Done r)) adv step e = plain_does rs id a used f (Done r) adv (inl step) e

pub advance_does : (rs : Standing) (id : Id) (a : Activation) (used : Used) (f : Frame) (adv : Advance) → advance_with rs id a used f ≡ Some adv → IsAdvance rs id a used f adv
advance_does rs id a used f adv e = step_does rs id a used f (next_step a used f) adv refl e
