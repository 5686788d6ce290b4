-- The steps that composites owe are a part of a chain.
use Rattle.std.proofs.Common.{◌≡◌, ◌∙◌, ℕ, false, [], ◌∷◌, Option, inl, inr, refl, sym, ap, subst}
use Rattle.std.specs.Prelude.{is_none}
use Rattle.std.specs.List.{find}
use Rattle.ow_packages.specs.Access.{Standing}
use Rattle.ow_records.specs.declared.activations.Activation.{Activation}
use Rattle.ow_records.specs.declared.frames.Frame.{Frame}
use Rattle.ow_records.specs.declared.frames.Used.{Used}
use Rattle.ow_records.specs.declared.ids.Id.{Id}
use Rattle.ow_tables.specs.Rows.{standing}
use Rattle.ow_floor.specs.Calls.{accept_items, activation_of}
use Rattle.ow_floor.specs.Frames.{is_frame}
use Rattle.ow_floor.specs.Growth.{AreRight, IsRight}
use Rattle.ow_floor.specs.Laws.{IsSound}
use Rattle.ow_floor.specs.Trace.{Accepted, Ended, Item, Trace, frames, moment_of, shown}
use Rattle.ow_floor.specs.View.{Shown}
use Rattle.ow_floor.specs.declared.activations.Plan.{Plan}
use Rattle.ow_floor.proofs.Soundness.{sound_items}
use Rattle.ow_trees.specs.Advance.{next_id, used_by}
use Rattle.ow_trees.specs.Driven.{IsAdvance, IsDriven}
use Rattle.ow_trees.specs.Each.{AreEach}
use Rattle.ow_trees.specs.Steps.{item_of, steps_after}
use Rattle.ow_trees.specs.declared.advances.Advance.{Advance}
use Rattle.ow_trees.specs.declared.advances.Advance.TheVariants.{Call, End}
use Rattle.ow_trees.proofs.Stepping.{each_after, step_is}
use Rattle.ow_decide.specs.Chain.{AreSteps, IsAccepted, IsDecided}
use Rattle.ow_decide.specs.Sight.{Sight}
use Rattle.ow_decide.proofs.MadeLaws.{IsPlain, driven_plain}

-- it is of the moment, and it may be decided after these
abbrev pub IsFit : Sight → Item → Trace → Type 0
IsFit S item T = (moment_of item ≡ S.moment) × IsDecided S item T

-- each may, after those before it
abbrev pub AreFit : Sight → Trace → Trace → Type 0
AreFit S items T = AreEach (IsFit S) items T

driven_moment : (at : ℕ) (a : Activation) (f : Frame) (advance : Advance) → moment_of (item_of at a f advance) ≡ at
driven_moment at a f (Call plan) = refl
driven_moment at a f (End r) = refl

driven_decided : (S : Sight) (item : Item) (T : Trace) → IsPlain item → IsDriven (standing S.rows) S.moment item T → IsDecided S item T
driven_decided S (Accepted a) T plain driven = inr driven
driven_decided S (Ended e) T plain driven = inr driven
driven_decided S item T plain driven = absurd plain

driven_fit : (S : Sight) (item : Item) (T : Trace) → IsDriven (standing S.rows) S.moment item T → IsFit S item T
driven_fit S item T driven = (
  subst (λ (x : Item). moment_of x ≡ S.moment) (sym driven.is) (driven_moment S.moment driven.composite.task driven.frame driven.advance),
  driven_decided S item T (driven_plain (standing S.rows) S.moment item T driven) driven,
)

-- with the steps that follow
pub steps_fit : (S : Sight) (items T : Trace) → AreFit S items T → AreFit S (steps_after (standing S.rows) S.moment T items) T
steps_fit S items T fit = each_after (IsFit S) (standing S.rows) S.moment items T (λ id U item owed. driven_fit S item U (step_is (standing S.rows) S.moment id U item owed).driven) fit

-- those of a plan
pub plan_fit : (S : Sight) (plan : Plan) (T : Trace) → IsAccepted S (activation_of S.moment plan) T → AreFit S (steps_after (standing S.rows) S.moment T (accept_items S.moment plan)) T
plan_fit S plan T ok = steps_fit S (accept_items S.moment plan) T ((refl, inl ok), tt)

-- a step that is an acceptance has a cause
caused_by : (rs : Standing) (id : Id) (at : ℕ) (task : Activation) (used : Used) (f : Frame) (advance : Advance) (a : Activation) → IsAdvance rs id task used f advance → Accepted a ≡ item_of at task f advance
    → is_none a.cause ≡ false
caused_by rs id at task used f (Call plan) a (inl component) is =
    let same : a ≡ activation_of at plan = cc in
    subst (λ (o : Option Id). is_none o ≡ false) (sym (ap (λ (x : Activation). x.cause) same ∙ ap (λ (p : Plan). p.cause) component.is)) refl
caused_by rs id at task used f (Call plan) a (inr run) is =
    let same : a ≡ activation_of at plan = cc in
    subst (λ (o : Option Id). is_none o ≡ false) (sym (ap (λ (x : Activation). x.cause) same ∙ ap (λ (p : Plan). p.cause) run.is)) refl
caused_by rs id at task used f (End r) a does is = cc

pub driven_caused : (rs : Standing) (at : ℕ) (a : Activation) (T : Trace) → IsDriven rs at (Accepted a) T → is_none a.cause ≡ false
driven_caused rs at a T driven =
    caused_by rs (next_id (shown T).drawn driven.composite.task.id.namespace) at driven.composite.task (used_by (find (is_frame driven.composite.task.top) (frames T))) driven.frame driven.advance a driven.does driven.is

-- items that may come are a chain
pub fit_steps : (S : Sight) (items : Trace) → AreFit S items S.trace → (IsSound S.trace → AreRight items (shown S.trace)) → AreSteps S items
fit_steps S [] fit right = tt
fit_steps S (item ∷ items) fit right = (
  record {
    at = fit.0.0;
    is = fit.0.1;
    right = λ sound. let all = right sound in subst (λ (v : Shown). IsRight item v) (sym (sound_items items S.trace all.1 sound).1) all.0;
  },
  fit_steps S items fit.1 (λ sound. (right sound).1),
)
