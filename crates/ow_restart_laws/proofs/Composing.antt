-- What a composite answers nests no deeper than what runs answer: it is an answer of its last child, a part of one, or its own error.
use Rattle.std.proofs.Common.{◌≤◌, ◌==◌, ℕ, zero, suc, Bool, true, false, cond, nat_lt, List, [], ◌∷◌, codes, length, inl, inr, IfSome, Option, Some, None, option_map, sym, subst, arith}
use Rattle.std.specs.Prelude.{slice_get}
use Rattle.std.specs.BTreeMap.{is_at}
use Rattle.std.specs.Map.{lookup}
use Rattle.ow_value.specs.Find.{find, merge}
use Rattle.ow_value.specs.Nesting.{most_nested}
use Rattle.ow_value.specs.Value.{V, Pairs, null, boolean, whole, text, list, object, Members, depth, text_cmp}
use Rattle.ow_names.specs.declared.full.FullName.{FullName}
use Rattle.ow_entity.specs.Exec.{components_of}
use Rattle.ow_records.specs.Outcome.{failure}
use Rattle.ow_records.specs.Response.{ResponseView}
use Rattle.ow_records.specs.declared.activations.Activation.{Activation}
use Rattle.ow_records.specs.declared.forms.Form.{Form}
use Rattle.ow_records.specs.declared.forms.Form.TheVariants as forms
use Rattle.ow_records.specs.declared.forms.Role.{Role}
use Rattle.ow_records.specs.declared.forms.Role.TheVariants.{Alone, Component, Run}
use Rattle.ow_records.specs.declared.frames.Frame.{Frame}
use Rattle.ow_records.specs.declared.frames.Heard.{Heard}
use Rattle.ow_records.specs.declared.frames.Used.{Used}
use Rattle.ow_compose.specs.Conductor.{after_answer, after_part, after_run, answered, boxed, conduct_step, final_result, run_or_end, run_with, state_of, unless_null}
use Rattle.ow_compose.specs.Refusal.{error_object, refused, untold_text}
use Rattle.ow_compose.specs.Sequence.{call_or_done, first_call, seq_step}
use Rattle.ow_compose.specs.Step.{fitting}
use Rattle.ow_compose.specs.declared.bounds.TheConstants.{MOST_RUNS}
use Rattle.ow_compose.specs.declared.refusals.Untold.{Untold}
use Rattle.ow_compose.specs.declared.steps.Step.{Step}
use Rattle.ow_compose.specs.declared.steps.Step.TheVariants as steps
use Rattle.ow_commits.proofs.Shallow.{IsShallow}
use Rattle.ow_trees.specs.Advance.{form_step}
use Rattle.ow_trees.specs.Driven.{IsStep}
use Rattle.ow_restart_laws.proofs.Fires.{IsShallowGiven, given_within, members_back, most_given}
use Rattle.ow_restart_laws.proofs.Writable.{AreWithin}

-- ---- what a conductor's code says of the result

found_in : (n : ℕ) (b : Bool) (p : List ℕ × V) (rest : Option V) → depth p.1 ≤ n → IfSome rest (λ (v : V). depth v ≤ n) → IfSome (cond b (Some p.1) rest) (λ (v : V). depth v ≤ n)
found_in n true p rest h k = h
found_in n false p rest h k = k

-- a member nests no deeper than the deepest
member_within : (n : ℕ) (test : List ℕ → Bool) (ps : Pairs) → AreWithin n ps → IfSome (lookup test ps) (λ (v : V). depth v ≤ n)
member_within n test [] all = tt
member_within n test (p ∷ ps) all = found_in n (test p.0) p (lookup test ps) all.0 (member_within n test ps all.1)

some_within : (n : ℕ) (o : Option V) → IfSome o (λ (v : V). depth v ≤ n) → IfSome (unless_null o) (λ (v : V). depth v ≤ n)
some_within n None h = tt
some_within n (Some null) h = tt
some_within n (Some (boolean b)) h = h
some_within n (Some (whole z)) h = h
some_within n (Some (text s)) h = h
some_within n (Some (list vs)) h = h
some_within n (Some (object ms)) h = h

-- a value that isn't an object nests one deeper once it is the member of one
boxed_within : (v : V) → depth v ≤ most_given → IsShallowGiven (boxed v)
boxed_within null h = omega arith
boxed_within (boolean b) h = omega arith
boxed_within (whole z) h = omega arith
boxed_within (text s) h = omega arith
boxed_within (list vs) h = omega (arith, h)
boxed_within (object ms) h = subst (λ (x : Members). depth (object x) ≤ most_nested) (sym (members_back ms)) (omega (arith, h))

final_within : (result : Pairs) (o : Option V) → IsShallowGiven result → IfSome o (λ (v : V). depth v ≤ most_given) → IsShallowGiven (final_result result o)
final_within result None h k = h
final_within result (Some v) h k = boxed_within v k

-- ---- steps

-- what the step answers, if it ends the composite, nests no deeper
abbrev EndsShallow : Step → Type 0
EndsShallow (steps.Done r) = IsShallow r
EndsShallow step = Unit {0}

run_ends : (o : Option Pairs) → EndsShallow (run_with o)
run_ends None = omega arith
run_ends (Some params) = tt

bounded_ends : (b : Bool) (s t : Step) → EndsShallow s → EndsShallow t → EndsShallow (cond b s t)
bounded_ends true s t h k = h
bounded_ends false s t h k = k

again_ends : (own : Pairs) (used : Used) (input : Pairs) → EndsShallow (run_or_end own used input)
again_ends own used input =
    bounded_ends (nat_lt used.conductors MOST_RUNS) (run_with (fitting own input)) (steps.Done (failure 1 (codes "The composition has too many conductor runs."))) (run_ends (fitting own input)) (omega arith)

answer_ends : (action params : Option V) (r : ResponseView) → IsShallow r → IfSome params (λ (v : V). depth v ≤ most_given) → EndsShallow (after_answer action params r)
answer_ends None params r h k = final_within r.result params h k
answer_ends (Some action) params r h k = tt

ran_ends : (r : ResponseView) → IsShallow r → EndsShallow (after_run r)
ran_ends r h =
    let params = some_within most_given (find (codes "params") r.result) (member_within most_given (is_at (text_cmp (codes "params"))) r.result (given_within r.result h)) in
    bounded_ends (r.code == 0) (after_answer (answered (codes "action") r) (answered (codes "params") r) r) (steps.Done r)
    (answer_ends (answered (codes "action") r) (answered (codes "params") r) r h params) h

part_ends : (own : Pairs) (used : Used) (conducted : Option ResponseView) (role : Role) (r : ResponseView) → IsShallow r → EndsShallow (after_part own used conducted role r)
part_ends own used conducted Run r h = ran_ends r h
part_ends own used conducted Component r h = again_ends own used (merge r.result (state_of conducted))
part_ends own used conducted Alone r h = again_ends own used (merge r.result (state_of conducted))

conducted_ends : (own params : Pairs) (used : Used) (n : ℕ) (last : Option Heard) (conducted : Option ResponseView) → IfSome last (λ (h : Heard). IsShallow h.response)
    → IfSome (conduct_step own params used n last conducted) EndsShallow
conducted_ends own params used zero last conducted h = again_ends own used params
conducted_ends own params used (suc n) None conducted h = tt
conducted_ends own params used (suc n) (Some x) conducted h = part_ends own used conducted x.role x.response h

called_ends : (o : Option FullName) (params : Pairs) → IfSome (first_call o params) EndsShallow
called_ends None params = tt
called_ends (Some name) params = tt

next_ends : (o : Option FullName) (r : ResponseView) → IsShallow r → EndsShallow (call_or_done o r)
next_ends None r h = h
next_ends (Some name) r h = tt

sequence_ends : (components : List FullName) (params : Pairs) (n : ℕ) (r : Option ResponseView) → IfSome r IsShallow → IfSome (seq_step components params n r) EndsShallow
sequence_ends components params zero r h = called_ends (slice_get components 0) params
sequence_ends components params (suc n) None h = tt
sequence_ends components params (suc n) (Some r) h =
    bounded_ends (r.code == 0) (call_or_done (slice_get components (suc n)) r) (steps.Done r) (next_ends (slice_get components (suc n)) r h) h

-- ---- by what is kept of the children

-- what a composite has heard of its last child nests no deeper
abbrev pub IsFrameShallow : Frame → Type 0
IsFrameShallow f = IfSome f.last (λ (h : Heard). IsShallow h.response)

response_of : (o : Option Heard) → IfSome o (λ (h : Heard). IsShallow h.response) → IfSome (option_map (λ (h : Heard). h.response) o) IsShallow
response_of None h = tt
response_of (Some x) h = h

by_form : (form : Form) (a : Activation) (used : Used) (f : Frame) → IsFrameShallow f → IfSome (form_step form a used f) EndsShallow
by_form forms.Leaf a used f h = tt
by_form forms.Sequence a used f h =
    sequence_ends (components_of a.action.exec) a.params (length f.children) (option_map (λ (h : Heard). h.response) f.last) (response_of f.last h)
by_form forms.Conductor a used f h = conducted_ends a.own a.params used (length f.children) f.last f.conducted h

refused_ends : (form : Form) (own : Pairs) (used : Used) (conducted : Option ResponseView) (why : Untold) → EndsShallow (refused form own used conducted why)
refused_ends forms.Leaf own used conducted why = omega arith
refused_ends forms.Sequence own used conducted why = omega arith
refused_ends forms.Conductor own used conducted why = again_ends own used (merge (error_object (untold_text why)) (state_of conducted))

-- what a composite answers nests no deeper, where what it has heard doesn't
pub answers_shallow : (a : Activation) (used : Used) (f : Frame) (r : ResponseView) → IsFrameShallow f → IsStep a used f (steps.Done r) → IsShallow r
answers_shallow a used f r h (inl is) = subst (λ (o : Option Step). IfSome o EndsShallow) is (by_form a.form a used f h)
answers_shallow a used f r h (inr again) = subst EndsShallow again.1 (refused_ends a.form a.own used f.conducted again.0)
