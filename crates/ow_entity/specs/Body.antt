-- What a body says of each field, the table of the fields, and the draft that a body gives.
use Rattle.std.specs.Prelude.{◌==◌, ℕ, ℤ, pos, negsuc, List, [], ◌∷◌, Bool, true, false, map, filter, codes, if◌then◌else◌, Option, Some, None, Result, Ok, Err}
use Rattle.std.specs.Result.{result_err, result_unwrap_or}
use Rattle.std.specs.Str.{bytes_eq}
use Rattle.ow_value.specs.Value.{V, Items, no_items, item, boolean, whole, text, list, object}
use Rattle.ow_value.specs.Field.{field}
use Rattle.ow_value.specs.Decimal.{if_within}
use Rattle.ow_names.specs.declared.full.FullName.{FullName}
use Rattle.ow_names.specs.declared.refusal.NameRefusal.{NameRefusal}
use Rattle.ow_names.specs.Path.{named_in, resolved}
use Rattle.ow_entity.specs.declared.kinds.EntityKind.{EntityKind}
use Rattle.ow_entity.specs.declared.kinds.EntityKind.TheVariants as kinds
use Rattle.ow_entity.specs.declared.field_name.FieldName.{FieldName}
use Rattle.ow_entity.specs.declared.field_name.FieldName.TheVariants as fields
use Rattle.ow_entity.specs.declared.refusal.EntityRefusal.{EntityRefusal}
use Rattle.ow_entity.specs.declared.refusal.EntityRefusal.TheVariants.{MissingField, WrongType, OutOfRange, UnknownKind, BadName}
use Rattle.ow_entity.specs.declared.bounds.GivenLimits.{GivenLimits}
use Rattle.ow_entity.specs.declared.bounds.TheConstants.{LEAST_TIMEOUT, MOST_TIMEOUT, LEAST_MEMORY, MOST_MEMORY, LEAST_LOGS, MOST_LOGS}
use Rattle.ow_entity.specs.declared.exec.Exec.{Exec}
use Rattle.ow_entity.specs.declared.exec.Exec.TheVariants.{Plain, Program, Sequence}
use Rattle.ow_entity.specs.declared.rows.Draft.{Draft}
use Rattle.ow_entity.specs.declared.rows.Draft.TheVariants as drafts
use Rattle.ow_entity.specs.Chain.{and_then, first_some, result_map}
use Rattle.ow_entity.specs.FieldName.{field_name}
use Rattle.ow_entity.specs.Pairs.{pairs_field}
use Rattle.ow_entity.specs.PlainCode.{name_count}
use Rattle.ow_entity.specs.Code.{plain_code, program_name}

-- ---- fields of a plain type

abbrev pub bool_given : FieldName → Option V → Result (Option Bool) EntityRefusal
bool_given name None = Ok None
bool_given name (Some (boolean b)) = Ok (Some b)
bool_given name (Some v) = Err (WrongType name)

abbrev pub bool_field : FieldName → V → Result (Option Bool) EntityRefusal
bool_field name body = bool_given name (field (field_name name) body)

abbrev pub text_given : FieldName → Option V → Result (List ℕ) EntityRefusal
text_given name None = Err (MissingField name)
text_given name (Some (text s)) = Ok s
text_given name (Some v) = Err (WrongType name)

-- a text that must be there
abbrev pub text_field : FieldName → V → Result (List ℕ) EntityRefusal
text_field name v = text_given name (field (field_name name) v)

abbrev pub number_in_range : FieldName → Option ℕ → Result ℕ EntityRefusal
number_in_range name None = Err (OutOfRange name)
number_in_range name (Some n) = Ok n

abbrev pub number_given : FieldName → ℕ → ℕ → ℤ → Result ℕ EntityRefusal
number_given name least most (pos n) = number_in_range name (if_within least most n)
number_given name least most (negsuc n) = Err (OutOfRange name)

abbrev pub number_or_none : FieldName → ℕ → ℕ → Option V → Result (Option ℕ) EntityRefusal
number_or_none name least most None = Ok None
number_or_none name least most (Some (whole z)) = result_map Some (number_given name least most z)
number_or_none name least most (Some v) = Err (WrongType name)

abbrev pub number_field : FieldName → ℕ → ℕ → V → Result (Option ℕ) EntityRefusal
number_field name least most v = number_or_none name least most (field (field_name name) v)

-- ---- the components of a sequence

abbrev pub or_bad_name : Result FullName NameRefusal → Result FullName EntityRefusal
or_bad_name (Ok name) = Ok name
or_bad_name (Err e) = Err (BadName e)

abbrev pub are_texts : Items → Bool
are_texts no_items = true
are_texts (item (text s) vs) = are_texts vs
are_texts (item v vs) = false

-- the full name of a text, for a reader of the namespace
abbrev pub name_in : List ℕ → V → Result FullName EntityRefusal
name_in home (text s) = or_bad_name (resolved home s)
name_in home v = Err (WrongType fields.Components)

-- the full names of all texts, or the fault of the first text that is no full name
abbrev pub names_in : List ℕ → Items → Result (List FullName) EntityRefusal
names_in home no_items = Ok []
names_in home (item v vs) = and_then (name_in home v) (λ n. result_map (λ ns. n ∷ ns) (names_in home vs))

-- one at least
abbrev pub if_some : List FullName → Result (List FullName) EntityRefusal
if_some [] = Err (OutOfRange fields.Components)
if_some (n ∷ ns) = Ok (n ∷ ns)

-- all are texts, there is one at least, and each is a full name, in this order
abbrev pub components_in : List ℕ → Items → Result (List FullName) EntityRefusal
components_in home vs = if are_texts vs then and_then (names_in home vs) if_some else Err (WrongType fields.Components)

abbrev pub components_given : List ℕ → Option V → Result (List FullName) EntityRefusal
components_given home None = Err (MissingField fields.Components)
components_given home (Some (list vs)) = components_in home vs
components_given home (Some v) = Err (WrongType fields.Components)

-- the components, which must be there
abbrev pub components_field : List ℕ → V → Result (List FullName) EntityRefusal
components_field home v = components_given home (field (field_name fields.Components) v)

-- ---- what an action runs

abbrev pub plain_exec : V → Result Exec EntityRefusal
plain_exec v = result_map Plain (and_then (text_field fields.Code v) plain_code)

abbrev pub program_exec : V → Result Exec EntityRefusal
program_exec v = result_map Program (and_then (text_field fields.Code v) program_name)

abbrev pub sequence_exec : List ℕ → V → Result Exec EntityRefusal
sequence_exec home v = result_map Sequence (components_field home v)

abbrev pub exec_of_kind : List ℕ → V → List ℕ → Result Exec EntityRefusal
exec_of_kind home v kind =
    if bytes_eq kind (codes "plain:1") then plain_exec v
    else if bytes_eq kind (codes "program:1") then program_exec v
    else if bytes_eq kind (codes "sequence") then sequence_exec home v
    else Err UnknownKind

-- for a path of this namespace
abbrev pub exec_in : List ℕ → V → Result Exec EntityRefusal
exec_in home v = and_then (text_field fields.Kind v) (exec_of_kind home v)

abbrev pub exec_given : List ℕ → Option V → Result (Option Exec) EntityRefusal
exec_given home None = Ok None
exec_given home (Some (object ps)) = result_map Some (exec_in home (object ps))
exec_given home (Some v) = Err (WrongType fields.Exec)

abbrev pub exec_field : List ℕ → V → Result (Option Exec) EntityRefusal
exec_field home body = exec_given home (field (codes "exec") body)

-- ---- the limits of its runs

abbrev pub no_limits : GivenLimits
no_limits = record { timeout = None; memory = None; logs = None }

abbrev pub limits_in : V → Result GivenLimits EntityRefusal
limits_in v =
    and_then (number_field fields.Timeout LEAST_TIMEOUT MOST_TIMEOUT v) (λ timeout.
    and_then (number_field fields.Memory LEAST_MEMORY MOST_MEMORY v) (λ memory.
    and_then (number_field fields.Logs LEAST_LOGS MOST_LOGS v) (λ logs.
    Ok (record { timeout = timeout; memory = memory; logs = logs }))))

abbrev pub limits_given : Option V → Result GivenLimits EntityRefusal
limits_given None = Ok no_limits
limits_given (Some (object ps)) = limits_in (object ps)
limits_given (Some v) = Err (WrongType fields.Limits)

abbrev pub limits_field : V → Result GivenLimits EntityRefusal
limits_field body = limits_given (field (codes "limits") body)

-- ---- what a package binds

-- the package that an object names, read in the namespace, which `_` means
abbrev pub bound_in : List ℕ → V → Result FullName EntityRefusal
bound_in home v =
    and_then (text_field fields.BoundNamespace v) (λ namespace.
    and_then (text_field fields.BoundName v) (λ name.
    or_bad_name (named_in home namespace None name)))

-- an object without members names no package
abbrev pub binding_in : List ℕ → V → Result (Option FullName) EntityRefusal
binding_in home v = if name_count v == 0 then Ok None else result_map Some (bound_in home v)

abbrev pub binding_given : List ℕ → Option V → Result (Option (Option FullName)) EntityRefusal
binding_given home None = Ok None
binding_given home (Some (object ps)) = result_map Some (binding_in home (object ps))
binding_given home (Some v) = Err (WrongType fields.Binding)

-- the package that is bound, or none
abbrev pub binding_field : List ℕ → V → Result (Option (Option FullName)) EntityRefusal
binding_field home body = binding_given home (field (codes "binding") body)

-- ---- what a rule joins

abbrev pub name_given : FieldName → List ℕ → Option V → Result (Option FullName) EntityRefusal
name_given name home None = Ok None
name_given name home (Some (text s)) = result_map Some (or_bad_name (resolved home s))
name_given name home (Some v) = Err (WrongType name)

-- the full name of a text, for a reader of the namespace
abbrev pub name_field : FieldName → List ℕ → V → Result (Option FullName) EntityRefusal
name_field name home body = name_given name home (field (field_name name) body)

-- ---- the table

-- a field: the kinds that have it, and what is wrong with it in a body, for a path of this namespace
pub record Field : Type 0 where
  pub of : EntityKind → Bool
  pub fault : List ℕ → V → Option EntityRefusal

abbrev pub is_any : EntityKind → Bool
is_any kind = true

abbrev pub is_no_rule : EntityKind → Bool
is_no_rule kinds.Rule = false
is_no_rule kind = true

abbrev pub is_action : EntityKind → Bool
is_action kinds.Action = true
is_action kind = false

abbrev pub is_package : EntityKind → Bool
is_package kinds.Package = true
is_package kind = false

abbrev pub is_rule : EntityKind → Bool
is_rule kinds.Rule = true
is_rule kind = false

-- the fields, in the order in which they are looked at
abbrev pub field_table : List Field
field_table =
    record { of = is_any; fault = λ home body. result_err (pairs_field fields.Annotations body) }
    ∷ record { of = is_no_rule; fault = λ home body. result_err (pairs_field fields.Parameters body) }
    ∷ record { of = is_any; fault = λ home body. result_err (bool_field fields.Publish body) }
    ∷ record { of = is_action; fault = λ home body. result_err (exec_field home body) }
    ∷ record { of = is_action; fault = λ home body. result_err (limits_field body) }
    ∷ record { of = is_package; fault = λ home body. result_err (binding_field home body) }
    ∷ record { of = is_rule; fault = λ home body. result_err (name_field fields.Trigger home body) }
    ∷ record { of = is_rule; fault = λ home body. result_err (name_field fields.Action home body) }
    ∷ []

-- what is wrong with the first wrong field
abbrev pub first_refusal : EntityKind → List ℕ → V → Option EntityRefusal
first_refusal kind home body = first_some (map (λ f. f.fault home body) (filter (λ f. f.of kind) field_table))

-- ---- the draft

abbrev pub draft_unless : Option EntityRefusal → Draft → Result Draft EntityRefusal
draft_unless None d = Ok d
draft_unless (Some e) d = Err e

-- each field as the body gives it
abbrev pub action_draft : FullName → V → Draft
action_draft name body = drafts.Action (record {
  name = name;
  publish = result_unwrap_or (bool_field fields.Publish body) None;
  params = result_unwrap_or (pairs_field fields.Parameters body) None;
  notes = result_unwrap_or (pairs_field fields.Annotations body) None;
  exec = result_unwrap_or (exec_field name.namespace body) None;
  limits = result_unwrap_or (limits_field body) no_limits;
})

abbrev pub package_draft : FullName → V → Draft
package_draft name body = drafts.Package (record {
  name = name;
  publish = result_unwrap_or (bool_field fields.Publish body) None;
  params = result_unwrap_or (pairs_field fields.Parameters body) None;
  notes = result_unwrap_or (pairs_field fields.Annotations body) None;
  binding = result_unwrap_or (binding_field name.namespace body) None;
})

abbrev pub trigger_draft : FullName → V → Draft
trigger_draft name body = drafts.Trigger (record {
  name = name;
  publish = result_unwrap_or (bool_field fields.Publish body) None;
  params = result_unwrap_or (pairs_field fields.Parameters body) None;
  notes = result_unwrap_or (pairs_field fields.Annotations body) None;
})

abbrev pub rule_draft : FullName → V → Draft
rule_draft name body = drafts.Rule (record {
  name = name;
  publish = result_unwrap_or (bool_field fields.Publish body) None;
  notes = result_unwrap_or (pairs_field fields.Annotations body) None;
  trigger = result_unwrap_or (name_field fields.Trigger name.namespace body) None;
  action = result_unwrap_or (name_field fields.Action name.namespace body) None;
})

abbrev pub draft_of : EntityKind → FullName → V → Result Draft EntityRefusal
draft_of kinds.Action name body = draft_unless (first_refusal kinds.Action name.namespace body) (action_draft name body)
draft_of kinds.Package name body = draft_unless (first_refusal kinds.Package name.namespace body) (package_draft name body)
draft_of kinds.Rule name body = draft_unless (first_refusal kinds.Rule name.namespace body) (rule_draft name body)
draft_of kinds.Trigger name body = draft_unless (first_refusal kinds.Trigger name.namespace body) (trigger_draft name body)

-- the entity that a body gives, or what is wrong with it
unfoldable pub entity_of : EntityKind → FullName → V → Result Draft EntityRefusal
entity_of kind name (object ps) = draft_of kind name (object ps)
entity_of kind name v = Err (WrongType fields.Body)
