-- What composites call and answer may be kept, as what is called by name may.
use Rattle.std.proofs.Common.{◌≡◌, ◌≤◌, ◌+◌, ◌&&◌, ◌⊎◌, ◌∙◌, ℕ, Bool, true, false, cond, nat_le, List, inl, inr, IfSome, Option, Some, refl, sym, ap, subst, arith}
use Rattle.std.proofs.lemmas.Bool.{and_from, and_parts, le-leb}
use Rattle.ow_names.specs.declared.full.FullName.{FullName}
use Rattle.ow_entity.specs.Annotations.{is_conductor}
use Rattle.ow_entity.specs.Exec.{is_sequence}
use Rattle.ow_entity.specs.declared.actions.Action.{Action}
use Rattle.ow_entity.specs.declared.exec.Exec.{Exec}
use Rattle.ow_entity.specs.declared.exec.Exec.TheVariants as execs
use Rattle.ow_entity.specs.declared.rows.Row.{Row}
use Rattle.ow_tables.specs.Rows.{standing}
use Rattle.ow_records.specs.Notes.{kind_of}
use Rattle.ow_records.specs.declared.activations.Activation.{Activation}
use Rattle.ow_records.specs.declared.forms.Form.{Form}
use Rattle.ow_records.specs.declared.forms.Form.TheVariants as forms
use Rattle.ow_records.specs.declared.ids.Id.{Id}
use Rattle.ow_records.specs.declared.notes.ExecKind.{ExecKind}
use Rattle.ow_records.specs.declared.notes.ExecKind.TheVariants as exec_kinds
use Rattle.ow_compose.specs.Refusal.{form_of}
use Rattle.ow_floor.specs.Trace.{End, Ended, Trace, accepted, last}
use Rattle.ow_floor.specs.declared.runs.Run.{Run}
use Rattle.ow_floor.proofs.Among.{all_among}
use Rattle.ow_keep.specs.Allowed.{is_called, is_cause, is_formed, is_reached, is_version}
use Rattle.ow_keep.specs.declared.allowed.TheConstants.{GREATEST_MOMENT}
use Rattle.ow_commits.specs.Shallow.{IsShallowEnding}
use Rattle.ow_trees.proofs.Children.{IsChild, IsComponentCall, IsComposedEnd, IsOwnRun}
use Rattle.ow_restart_laws.specs.Lasting.{AreEarly, AreWritable, IsDue, IsEarly, IsTimely}
use Rattle.ow_restart_laws.proofs.Callees.{callee_good}
use Rattle.ow_restart_laws.proofs.Composing.{answers_shallow}
use Rattle.ow_restart_laws.proofs.Framing.{frame_shallow}
use Rattle.ow_restart_laws.proofs.KeptLaws.{all_timely}

pub above : (n last : ℕ) → n ≡ last + 1 → 1 ≤ n
above n last e = omega (arith, e)

-- ---- forms

by_exec : (x : Exec) (conducts : Bool) → is_formed (cond (is_sequence x) forms.Sequence (cond conducts forms.Conductor forms.Leaf)) (kind_of x) ≡ true
by_exec (execs.Plain code) true = refl
by_exec (execs.Plain code) false = refl
by_exec (execs.Program code) true = refl
by_exec (execs.Program code) false = refl
by_exec (execs.Sequence components) conducts = refl

-- an action is called as a sequence exactly where it is one
pub form_fits : (a : Activation) (x : Action) → a.action ≡ x → a.form ≡ form_of x → is_formed a.form (kind_of a.action.exec) ≡ true
form_fits a x action form =
    ap (λ (f : Form). is_formed f (kind_of a.action.exec)) form
    ∙ (ap (λ (y : Action). is_formed (form_of x) (kind_of y.exec)) action ∙ by_exec x.exec (is_conductor x))

-- the code of a conductor is no sequence
leaf_fits : (kind : ExecKind) → is_formed forms.Conductor kind ≡ true → is_formed forms.Leaf kind ≡ true
leaf_fits exec_kinds.Plain h = refl
leaf_fits exec_kinds.Program h = refl
leaf_fits exec_kinds.Sequence h = h

-- ---- children

-- the version of what is called counts from 1, and it is reached through no binding in a package
abbrev IsReachable : ℕ → Option FullName → Type 0
IsReachable version binding = (is_version version && is_reached binding) ≡ true

by_cause : (id : Id) (a : Activation) (x : Action) (binding : Option FullName) → 1 ≤ id.count → a.cause ≡ Some id → a.action ≡ x → a.binding ≡ binding → IsReachable x.version binding
    → is_called a.cause a.action.version a.binding ≡ true
by_cause id a x binding counted cause action bound good =
    ap (λ (o : Option Id). is_called o a.action.version a.binding) cause
    ∙ (ap (λ (y : Action). is_called (Some id) y.version a.binding) action
    ∙ (ap (λ (n : Option FullName). is_called (Some id) x.version n) bound
    ∙ and_from (nat_le 1 id.count) (is_version x.version && is_reached binding) (le-leb 1 id.count counted) good))

module _ (rs : List Row) (at : ℕ) (p a : Activation) (T : Trace) (small : at ≤ GREATEST_MOMENT) (all : AreWritable rs) (timely : IsTimely p) where
  child_called : (cause : a.cause ≡ Some p.id) → IsComponentCall (standing rs) a ⊎ IsOwnRun p a → is_called a.cause a.action.version a.binding ≡ true
  child_called cause (inl c) = by_cause p.id a c.called.action c.called.binding timely.counted cause c.action c.binding (callee_good rs all c.named.0 c.named.1.0 c.called c.named.1.1)
  child_called cause (inr own) =
      by_cause p.id a p.action p.binding timely.counted cause own.action own.binding (and_parts (is_cause p.cause) (is_version p.action.version && is_reached p.binding) timely.called).1

  child_formed : IsComponentCall (standing rs) a ⊎ IsOwnRun p a → is_formed a.form (kind_of a.action.exec) ≡ true
  child_formed (inl c) = form_fits a c.called.action c.action c.form
  child_formed (inr own) =
      ap (λ (f : Form). is_formed f (kind_of a.action.exec)) own.form
      ∙ (ap (λ (x : Action). is_formed forms.Leaf (kind_of x.exec)) own.action
      ∙ leaf_fits (kind_of p.action.exec) (sym (ap (λ (f : Form). is_formed f (kind_of p.action.exec)) own.conductor) ∙ timely.formed))

  child_by : IsChild (standing rs) at p a T → IsTimely a
  child_by child = record {
    counted = above a.id.count (last T a.id.namespace) child.next;
    early = let now : a.at ≡ at = child.moment in omega (arith, small, now);
    called = child_called child.cause_is child.why;
    formed = child_formed child.why;
  }

-- a child of what may be kept may be
pub child_timely : (rs : List Row) (at : ℕ) (p a : Activation) (T : Trace) → at ≤ GREATEST_MOMENT → AreWritable rs → AreEarly T → IsChild (standing rs) at p a T → IsTimely a
child_timely rs at p a T small all early child = child_by rs at p a T small all (all_among IsTimely p (accepted T) child.among (all_timely T early)) child

-- ---- ends

-- the end of a composite may be kept
pub composed_early : (at : ℕ) (e : End) (T : Trace) → at ≤ GREATEST_MOMENT → AreEarly T → IsComposedEnd at e T → IsEarly (Ended e)
composed_early at e T small early c = (
  let now : e.at ≡ at = c.moment in omega (arith, small, now),
  subst (λ (o : Option Run). IfSome o IsDue) (sym c.run) tt,
  subst IsShallowEnding (sym c.ending) (answers_shallow e.task c.used c.frame c.response (frame_shallow e.task.id c.frame T early c.framed) c.answers),
)
