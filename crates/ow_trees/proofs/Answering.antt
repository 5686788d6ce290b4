-- What a composite answers at last.
use Rattle.std.proofs.Common.{◌≡◌, ◌==◌, ℕ, zero, suc, Bool, true, false, cond, codes, length, List, Option, Some, None, inl, inr, refl}
use Rattle.std.specs.Prelude.{nat_lt, slice_get, option_map}
use Rattle.ow_value.specs.Value.{V, Pairs}
use Rattle.ow_value.specs.Find.{merge}
use Rattle.ow_names.specs.declared.full.FullName.{FullName}
use Rattle.ow_entity.specs.Exec.{components_of}
use Rattle.ow_records.specs.Outcome.{failure}
use Rattle.ow_records.specs.Response.{ResponseView}
use Rattle.ow_records.specs.declared.activations.Activation.{Activation}
use Rattle.ow_records.specs.declared.forms.Form.{Form}
use Rattle.ow_records.specs.declared.forms.Form.TheVariants.{Leaf, Sequence, Conductor}
use Rattle.ow_records.specs.declared.forms.Role.{Role}
use Rattle.ow_records.specs.declared.forms.Role.TheVariants.{Alone, Component, Run}
use Rattle.ow_records.specs.declared.frames.Frame.{Frame}
use Rattle.ow_records.specs.declared.frames.Heard.{Heard}
use Rattle.ow_records.specs.declared.frames.Used.{Used}
use Rattle.ow_compose.specs.Conductor.{after_answer, after_part, answered, conduct_step, run_or_end, run_with, state_of}
use Rattle.ow_compose.specs.Refusal.{error_object, refused, untold_text}
use Rattle.ow_compose.specs.Sequence.{call_or_done, first_call, seq_step}
use Rattle.ow_compose.specs.Step.{fitting}
use Rattle.ow_compose.specs.declared.bounds.TheConstants.{MOST_RUNS}
use Rattle.ow_compose.specs.declared.refusals.Untold.{Untold}
use Rattle.ow_compose.specs.declared.steps.Step.TheVariants as steps
use Rattle.ow_trees.specs.Advance.{form_step}
use Rattle.ow_trees.specs.Driven.{IsAnswer, IsStep}

-- ---- runs of a conductor's own code

run_with_answers : (f : Frame) (ps : Option Pairs) (r : ResponseView) → run_with ps ≡ steps.Done r → IsAnswer f r
run_with_answers f None r e = inr (codes "The parameters have too many bytes.", cc)
run_with_answers f (Some ps) r e = cc

run_by : (f : Frame) (own input : Pairs) (b : Bool) (r : ResponseView)
    → cond b (run_with (fitting own input)) (steps.Done (failure 1 (codes "The composition has too many conductor runs."))) ≡ steps.Done r → IsAnswer f r
run_by f own input true r e = run_with_answers f (fitting own input) r e
run_by f own input false r e = inr (codes "The composition has too many conductor runs.", cc)

run_answers : (f : Frame) (own : Pairs) (used : Used) (input : Pairs) (r : ResponseView) → run_or_end own used input ≡ steps.Done r → IsAnswer f r
run_answers f own used input r e = run_by f own input (nat_lt used.conductors MOST_RUNS) r e

-- ---- conductors

after_named : (f : Frame) (h : Heard) (action : Option V) (r : ResponseView) → f.last ≡ Some h → after_answer action (answered (codes "params") h.response) h.response ≡ steps.Done r → IsAnswer f r
after_named f h None r last e = inl (h, last, inr cc)
after_named f h (Some action) r last e = cc

after_code : (f : Frame) (h : Heard) (b : Bool) (r : ResponseView) → f.last ≡ Some h
    → cond b (after_answer (answered (codes "action") h.response) (answered (codes "params") h.response) h.response) (steps.Done h.response) ≡ steps.Done r → IsAnswer f r
after_code f h true r last e = after_named f h (answered (codes "action") h.response) r last e
after_code f h false r last e = inl (h, last, inl cc)

part_answers : (f : Frame) (own : Pairs) (used : Used) (h : Heard) (role : Role) (r : ResponseView) → f.last ≡ Some h → after_part own used f.conducted role h.response ≡ steps.Done r → IsAnswer f r
part_answers f own used h Run r last e = after_code f h (h.response.code == 0) r last e
part_answers f own used h Component r last e = run_answers f own used (merge h.response.result (state_of f.conducted)) r e
part_answers f own used h Alone r last e = run_answers f own used (merge h.response.result (state_of f.conducted)) r e

some_done : {X : Type 0} (x y : X) → Some x ≡ Some y → x ≡ y
some_done x y e = cc

conductor_answers : (f : Frame) (own params : Pairs) (used : Used) (n : ℕ) (last : Option Heard) (r : ResponseView) → f.last ≡ last → conduct_step own params used n last f.conducted ≡ Some (steps.Done r) → IsAnswer f r
conductor_answers f own params used zero last r is e = run_answers f own used params r (some_done (run_or_end own used params) (steps.Done r) e)
conductor_answers f own params used (suc n) None r is e = cc
conductor_answers f own params used (suc n) (Some h) r is e =
    part_answers f own used h h.role r is (some_done (after_part own used f.conducted h.role h.response) (steps.Done r) e)

-- ---- sequences

next_answers : (f : Frame) (h : Heard) (next : Option FullName) (r : ResponseView) → f.last ≡ Some h → call_or_done next h.response ≡ steps.Done r → IsAnswer f r
next_answers f h None r last e = inl (h, last, inl cc)
next_answers f h (Some name) r last e = cc

child_answers : (f : Frame) (h : Heard) (next : Option FullName) (b : Bool) (r : ResponseView) → f.last ≡ Some h → cond b (call_or_done next h.response) (steps.Done h.response) ≡ steps.Done r → IsAnswer f r
child_answers f h next true r last e = next_answers f h next r last e
child_answers f h next false r last e = inl (h, last, inl cc)

first_answers : (f : Frame) (first : Option FullName) (params : Pairs) (r : ResponseView) → first_call first params ≡ Some (steps.Done r) → IsAnswer f r
first_answers f None params r e = cc
first_answers f (Some name) params r e = cc

sequence_answers : (f : Frame) (components : List FullName) (params : Pairs) (n : ℕ) (last : Option Heard) (r : ResponseView) → f.last ≡ last
    → seq_step components params n (option_map (λ h. h.response) last) ≡ Some (steps.Done r) → IsAnswer f r
sequence_answers f components params zero last r is e = first_answers f (slice_get components 0) params r e
sequence_answers f components params (suc n) None r is e = cc
sequence_answers f components params (suc n) (Some h) r is e =
    child_answers f h (slice_get components (suc n)) (h.response.code == 0) r is (some_done _ (steps.Done r) e)

-- ---- each step

form_answers : (a : Activation) (used : Used) (f : Frame) (form : Form) (r : ResponseView) → form_step form a used f ≡ Some (steps.Done r) → IsAnswer f r
form_answers a used f Leaf r e = cc
form_answers a used f Sequence r e = sequence_answers f (components_of a.action.exec) a.params (length f.children) f.last r refl e
form_answers a used f Conductor r e = conductor_answers f a.own a.params used (length f.children) f.last r refl e

refused_answers : (f : Frame) (own : Pairs) (used : Used) (why : Untold) (form : Form) (r : ResponseView) → refused form own used f.conducted why ≡ steps.Done r → IsAnswer f r
refused_answers f own used why Leaf r e = inr (untold_text why, cc)
refused_answers f own used why Sequence r e = inr (untold_text why, cc)
refused_answers f own used why Conductor r e = run_answers f own used (merge (error_object (untold_text why)) (state_of f.conducted)) r e

pub step_answers : (a : Activation) (used : Used) (f : Frame) (r : ResponseView) → IsStep a used f (steps.Done r) → IsAnswer f r
step_answers a used f r (inl step) = form_answers a used f a.form r step
step_answers a used f r (inr refusal) = refused_answers f a.own used refusal.0 a.form r refusal.1
