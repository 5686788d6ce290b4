-- What is written of an action, read again as a body and finished over no row.
use Rattle.std.proofs.Common.{◌≡◌, ◌≤◌, ℕ, pos, List, [], ◌∷◌, map, Bool, true, false, cond, length, is_some, Option, Some, None, Result, Ok, Err, refl, ap, ◌∙◌, arith}
use Rattle.std.specs.List.{AllByRecursion}
use Rattle.std.specs.Result.{result_err, result_unwrap_or}
use Rattle.ow_value.specs.Value.{V, Pairs, AreParams, items_of, whole}
use Rattle.ow_value.specs.Decimal.{if_within}
use Rattle.ow_names.specs.FullName.{IsFullName}
use Rattle.ow_names.specs.Path.{home}
use Rattle.ow_names.specs.declared.full.FullName.{FullName}
use Rattle.ow_names.proofs.PathLaws as full_names
use Rattle.ow_entity.specs.declared.kinds.EntityKind.TheVariants as kinds
use Rattle.ow_entity.specs.declared.field_name.FieldName.{FieldName}
use Rattle.ow_entity.specs.declared.field_name.FieldName.TheVariants as fields
use Rattle.ow_entity.specs.declared.refusal.EntityRefusal.{EntityRefusal}
use Rattle.ow_entity.specs.declared.refusal.EntityRefusal.TheVariants.{WrongType}
use Rattle.ow_entity.specs.declared.bounds.GivenLimits.{GivenLimits}
use Rattle.ow_entity.specs.declared.bounds.Limits.{Limits}
use Rattle.ow_entity.specs.declared.exec.Exec.{Exec}
use Rattle.ow_entity.specs.declared.exec.Exec.TheVariants.{Plain, Program, Sequence}
use Rattle.ow_entity.specs.declared.actions.Action.{Action}
use Rattle.ow_entity.specs.declared.rows.Row.TheVariants as rows
use Rattle.ow_entity.specs.declared.rows.Draft.{Draft}
use Rattle.ow_entity.specs.declared.rows.Draft.TheVariants as drafts
use Rattle.ow_entity.specs.declared.finishing.TheConstants.{FIRST_VERSION}
use Rattle.ow_entity.specs.Bounds.{IsBetween}
use Rattle.ow_entity.specs.Body.{number_in_range, number_or_none, no_limits, limits_given, or_bad_name, are_texts, names_in, if_some, components_in, exec_given, exec_in, draft_unless, draft_of, entity_of}
use Rattle.ow_entity.specs.Chain.{and_then, first_some, result_map}
use Rattle.ow_entity.specs.Finish.{finished_row, row_of_body}
use Rattle.ow_entity.specs.Fit.{IsFitSequence}
use Rattle.ow_entity.specs.FitAction.{IsFitExec, IsFitLimits, IsFitAction}
use Rattle.ow_entity.specs.PlainCode.{plain_cases}
use Rattle.ow_entity.specs.Written.{IsReadIn, name_value, exec_value, limits_value, action_value}
use Rattle.ow_entity.proofs.PairLaws.{by_size, pairs_given-value}

-- ---- what an action runs

by_form : (b : Bool) (code : List ℕ) → b ≡ true → cond b (Ok code) (Err (WrongType fields.Code)) ≡ Ok code
by_form true code e = refl
by_form false code e = cc

are_texts-values : (ns : List FullName) → are_texts (items_of (map name_value ns)) ≡ true
are_texts-values [] = refl
are_texts-values (n ∷ ns) = are_texts-values ns

names_in-values : (here : List ℕ) (ns : List FullName) → AllByRecursion IsFullName ns → AllByRecursion (λ n. home here n.namespace ≡ n.namespace) ns
    → names_in here (items_of (map name_value ns)) ≡ Ok ns
names_in-values here [] h k = refl
names_in-values here (n ∷ ns) h k = λ i. and_then (or_bad_name (full_names.reads_back here n h.0 k.0 i)) (λ n. result_map (λ ns. n ∷ ns) (names_in-values here ns h.1 k.1 i))

if_some-some : (ns : List FullName) → 1 ≤ length ns → if_some ns ≡ Ok ns
if_some-some [] h = absurd (omega (arith, h))
if_some-some (n ∷ ns) h = refl

components-values : (here : List ℕ) (ns : List FullName) → IsFitSequence ns → AllByRecursion (λ n. home here n.namespace ≡ n.namespace) ns
    → components_in here (items_of (map name_value ns)) ≡ Ok ns
components-values here ns h k =
    (λ i. cond (are_texts-values ns i) (and_then (names_in-values here ns h.names k i) if_some) (Err (WrongType fields.Components)))
    ∙ if_some-some ns h.some

exec_in-value : (here : List ℕ) (e : Exec) → IsFitExec e → IsReadIn here e → exec_in here (exec_value e) ≡ Ok e
exec_in-value here (Plain code) h k = ap (result_map Plain) (by_size (length code) _ h.size ∙ by_form (is_some (plain_cases code)) code h.form)
exec_in-value here (Sequence components) h k = ap (result_map Sequence) (components-values here components h k)
exec_in-value here (Program code) h k = ap (result_map Program) (by_size (length code) (Ok code) h.size)

exec_given-value : (here : List ℕ) (e : Exec) → IsFitExec e → IsReadIn here e → exec_given here (Some (exec_value e)) ≡ Ok (Some e)
exec_given-value here (Plain code) h k = ap (result_map Some) (exec_in-value here (Plain code) h k)
exec_given-value here (Sequence components) h k = ap (result_map Some) (exec_in-value here (Sequence components) h k)
exec_given-value here (Program code) h k = ap (result_map Some) (exec_in-value here (Program code) h k)

-- ---- its limits

pub within-between : (least most n : ℕ) → IsBetween least most n → if_within least most n ≡ Some n
within-between least most n h = grind arith

number-value : (name : FieldName) (least most n : ℕ) → IsBetween least most n → number_or_none name least most (Some (whole (pos n))) ≡ Ok (Some n)
number-value name least most n h = ap (λ o. result_map Some (number_in_range name o)) (within-between least most n h)

abbrev all_given : Limits → GivenLimits
all_given l = record { timeout = Some l.timeout; memory = Some l.memory; logs = Some l.logs }

abbrev three : Result (Option ℕ) EntityRefusal → Result (Option ℕ) EntityRefusal → Result (Option ℕ) EntityRefusal → Result GivenLimits EntityRefusal
three a b c = and_then a (λ timeout. and_then b (λ memory. and_then c (λ logs. Ok (record { timeout = timeout; memory = memory; logs = logs }))))

limits_given-value : (l : Limits) → IsFitLimits l → limits_given (Some (limits_value l)) ≡ Ok (all_given l)
limits_given-value l h = λ i. three
    (number-value fields.Timeout _ _ l.timeout h.timeout i)
    (number-value fields.Memory _ _ l.memory h.memory i)
    (number-value fields.Logs _ _ l.logs h.logs i)

-- ---- the draft of five good fields

abbrev drafted : FullName → Result (Option Pairs) EntityRefusal → Result (Option Pairs) EntityRefusal → Result (Option Bool) EntityRefusal → Result (Option Exec) EntityRefusal → Result GivenLimits EntityRefusal
    → Result Draft EntityRefusal
drafted name n p b x l = draft_unless
    (first_some (result_err n ∷ result_err p ∷ result_err b ∷ result_err x ∷ result_err l ∷ []))
    (drafts.Action (record {
      name = name;
      publish = result_unwrap_or b None;
      params = result_unwrap_or p None;
      notes = result_unwrap_or n None;
      exec = result_unwrap_or x None;
      limits = result_unwrap_or l no_limits;
    }))

draft_of-value : (a : Action) → AreParams a.notes → AreParams a.params → IsFitAction a → IsReadIn a.name.namespace a.exec
    → draft_of kinds.Action a.name (action_value a) ≡ Ok (drafts.Action (record {
      name = a.name;
      publish = Some a.publish;
      params = Some a.params;
      notes = Some a.notes;
      exec = Some a.exec;
      limits = all_given a.limits;
    }))
draft_of-value a rn rp h k = λ i. drafted a.name
    (pairs_given-value fields.Annotations a.notes rn h.notes i)
    (pairs_given-value fields.Parameters a.params rp h.params i)
    (Ok (Some a.publish))
    (exec_given-value a.name.namespace a.exec h.exec k i)
    (limits_given-value a.limits h.limits i)

pub reads_back : (a : Action) → AreParams a.notes → AreParams a.params → IsFitAction a → IsReadIn a.name.namespace a.exec
    → row_of_body kinds.Action a.name (action_value a) ≡ Ok (rows.Action (record a { version = FIRST_VERSION }))
unfolding row_of_body entity_of finished_row
reads_back a rn rp h k = ap (λ r. and_then r (λ d. finished_row d None)) (draft_of-value a rn rp h k)

pub reads_back_as : (a : Action) (v : V) → v ≡ action_value a → AreParams a.notes → AreParams a.params → IsFitAction a → IsReadIn a.name.namespace a.exec
    → row_of_body kinds.Action a.name v ≡ Ok (rows.Action (record a { version = FIRST_VERSION }))
reads_back_as a v e rn rp h k = ap (row_of_body kinds.Action a.name) e ∙ reads_back a rn rp h k
