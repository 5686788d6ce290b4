-- What is written of a rule or a trigger, read again as a body and finished over no row.
use Rattle.std.proofs.Common.{◌≡◌, ◌&&◌, ℕ, List, [], ◌∷◌, Bool, true, false, Option, Some, None, Result, Ok, refl, ap}
use Rattle.std.specs.Result.{result_err, result_unwrap_or}
use Rattle.std.proofs.lemmas.Bool.{and_parts}
use Rattle.std.proofs.lemmas.Slice.Eq.{bytes_eq-Decides}
use Rattle.ow_value.specs.Value.{Pairs, text}
use Rattle.ow_names.specs.FullName.{full_text, IsFullName}
use Rattle.ow_names.specs.Path.{home}
use Rattle.ow_names.specs.declared.full.FullName.{FullName}
use Rattle.ow_names.proofs.PathLaws.{reads_back}
use Rattle.ow_entity.specs.Body.{draft_of, draft_unless, entity_of, name_given, or_bad_name}
use Rattle.ow_entity.specs.Chain.{and_then, first_some, result_map}
use Rattle.ow_entity.specs.Finish.{finished_row, row_of_body}
use Rattle.ow_entity.specs.Status.{status_of, status_text}
use Rattle.ow_entity.specs.Written.{rule_value, trigger_value}
use Rattle.ow_entity.specs.declared.field_name.FieldName.{FieldName}
use Rattle.ow_entity.specs.declared.field_name.FieldName.TheVariants as fields
use Rattle.ow_entity.specs.declared.finishing.TheConstants.{FIRST_VERSION}
use Rattle.ow_entity.specs.declared.kinds.EntityKind.TheVariants as kinds
use Rattle.ow_entity.specs.declared.refusal.EntityRefusal.{EntityRefusal}
use Rattle.ow_entity.specs.declared.rows.Draft.{Draft}
use Rattle.ow_entity.specs.declared.rows.Draft.TheVariants as drafts
use Rattle.ow_entity.specs.declared.rows.Row.TheVariants as rows
use Rattle.ow_entity.specs.declared.rules.Rule.{Rule}
use Rattle.ow_entity.specs.declared.triggers.Trigger.{Trigger}
use Rattle.ow_entity.proofs.PairLaws.{pairs_given-value}
use Rattle.ow_keep.specs.Allowed.{is_written}
use Rattle.ow_keep.specs.Known.{IsKnownRule, IsKnownTrigger}

-- ---- the status

pub status_back : (active : Bool) → status_of (status_text active) ≡ Ok active
status_back true = refl
status_back false = refl

-- ---- the names

name_back : (name : FieldName) (here : List ℕ) (n : FullName) → IsFullName n → home here n.namespace ≡ n.namespace
    → name_given name here (Some (text (full_text n))) ≡ Ok (Some n)
name_back name here n h e = ap (λ r. result_map Some (or_bad_name r)) (reads_back here n h e)

-- ---- the draft of a rule

abbrev drafted : FullName → Result (Option Pairs) EntityRefusal → Result (Option Bool) EntityRefusal → Result (Option FullName) EntityRefusal → Result (Option FullName) EntityRefusal → Result Draft EntityRefusal
drafted name n b t a = draft_unless
    (first_some (result_err n ∷ result_err b ∷ result_err t ∷ result_err a ∷ []))
    (drafts.Rule (record {
      name = name;
      publish = result_unwrap_or b None;
      notes = result_unwrap_or n None;
      trigger = result_unwrap_or t None;
      action = result_unwrap_or a None;
    }))

rule_draft : (r : Rule) → IsKnownRule r → home r.name.namespace r.trigger.namespace ≡ r.trigger.namespace → home r.name.namespace r.action.namespace ≡ r.action.namespace
    → draft_of kinds.Rule r.name (rule_value r) ≡ Ok (drafts.Rule (record {
      name = r.name;
      publish = Some r.publish;
      notes = Some r.notes;
      trigger = Some r.trigger;
      action = Some r.action;
    }))
rule_draft r h t a = λ i. drafted r.name
    (pairs_given-value fields.Annotations r.notes h.notes.rises h.fit_notes i)
    (Ok (Some r.publish))
    (name_back fields.Trigger r.name.namespace r.trigger h.trigger t i)
    (name_back fields.Action r.name.namespace r.action h.action a i)

pub rule_back : (r : Rule) → IsKnownRule r → (is_written r.name.namespace r.trigger && is_written r.name.namespace r.action) ≡ true
    → row_of_body kinds.Rule r.name (rule_value r) ≡ Ok (rows.Rule (record r { version = FIRST_VERSION; active = true }))
unfolding row_of_body entity_of finished_row
rule_back r h e =
    let b = and_parts (is_written r.name.namespace r.trigger) (is_written r.name.namespace r.action) e in
    let t : home r.name.namespace r.trigger.namespace ≡ r.trigger.namespace = (bytes_eq-Decides (home r.name.namespace r.trigger.namespace) r.trigger.namespace).0 b.0 in
    let a : home r.name.namespace r.action.namespace ≡ r.action.namespace = (bytes_eq-Decides (home r.name.namespace r.action.namespace) r.action.namespace).0 b.1 in
    ap (λ d. and_then d (λ d. finished_row d None)) (rule_draft r h t a)

-- ---- the draft of a trigger

abbrev trigger_drafted : FullName → Result (Option Pairs) EntityRefusal → Result (Option Pairs) EntityRefusal → Result (Option Bool) EntityRefusal → Result Draft EntityRefusal
trigger_drafted name n p b = draft_unless
    (first_some (result_err n ∷ result_err p ∷ result_err b ∷ []))
    (drafts.Trigger (record {
      name = name;
      publish = result_unwrap_or b None;
      params = result_unwrap_or p None;
      notes = result_unwrap_or n None;
    }))

trigger_draft : (t : Trigger) → IsKnownTrigger t
    → draft_of kinds.Trigger t.name (trigger_value t) ≡ Ok (drafts.Trigger (record {
      name = t.name;
      publish = Some t.publish;
      params = Some t.params;
      notes = Some t.notes;
    }))
trigger_draft t h = λ i. trigger_drafted t.name
    (pairs_given-value fields.Annotations t.notes h.notes.rises h.fit_notes i)
    (pairs_given-value fields.Parameters t.params h.params.rises h.fit_params i)
    (Ok (Some t.publish))

pub trigger_back : (t : Trigger) → IsKnownTrigger t → row_of_body kinds.Trigger t.name (trigger_value t) ≡ Ok (rows.Trigger (record t { version = FIRST_VERSION }))
unfolding row_of_body entity_of finished_row
trigger_back t h = ap (λ r. and_then r (λ d. finished_row d None)) (trigger_draft t h)
