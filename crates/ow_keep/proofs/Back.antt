-- What is written of an item reads as the item.
use Rattle.std.proofs.Common.{◌≡◌, ◌&&◌, ℕ, ◌≤◌, List, [], ◌∷◌, true, nat_le, not, IfSome, Option, Some, None, option_map, option_and_then, refl, ap, ◌∙◌, arith}
use Rattle.std.specs.List.{AllByRecursion}
use Rattle.std.proofs.lemmas.Bool.{and_parts, leb-true}
use Rattle.std.proofs.lemmas.Slice.Eq.{bytes_eq-Decides}
use Rattle.ow_value.specs.Value.{V, depth}
use Rattle.ow_value.specs.Json.{IsValue}
use Rattle.ow_value.specs.Read.{reading}
use Rattle.ow_value.specs.Text.{compact}
use Rattle.ow_value.proofs.Back.{reading-compact}
use Rattle.ow_names.specs.FullName.{full_text, IsFullName}
use Rattle.ow_names.specs.Path.{home}
use Rattle.ow_names.specs.declared.full.FullName.{FullName}
use Rattle.ow_entity.specs.Status.{status_in}
use Rattle.ow_entity.specs.Exec.{components_of}
use Rattle.ow_entity.specs.declared.exec.Exec.{Exec}
use Rattle.ow_entity.specs.declared.exec.Exec.TheVariants as execs
use Rattle.ow_entity.specs.Written.{IsReadIn, action_value, package_value, row_value, rule_value, trigger_value}
use Rattle.ow_entity.specs.declared.actions.Action.{Action}
use Rattle.ow_entity.specs.declared.kinds.EntityKind.TheVariants as kinds
use Rattle.ow_entity.specs.declared.packages.Package.{Package}
use Rattle.ow_entity.specs.declared.rows.Row.TheVariants as rows
use Rattle.ow_entity.specs.declared.rules.Rule.{Rule}
use Rattle.ow_entity.specs.declared.triggers.Trigger.{Trigger}
use Rattle.ow_entity.proofs.BackLaws.{reads_back}
use Rattle.ow_records.specs.Form.{form_named, form_text}
use Rattle.ow_records.specs.declared.forms.Form.{Form}
use Rattle.ow_records.specs.declared.forms.Form.TheVariants as forms
use Rattle.ow_records.specs.Known.{IsId, IsKnownUnrecorded}
use Rattle.ow_records.specs.RecordIn.{record_from}
use Rattle.ow_records.specs.Written.{record_value}
use Rattle.ow_records.specs.declared.ids.Id.{Id}
use Rattle.ow_records.specs.declared.unrecorded.Unrecorded.{Unrecorded}
use Rattle.ow_records.proofs.IdLaws.{digits_of-decimal, hex_number-hex_16, id_back}
use Rattle.ow_records.proofs.PathBack.{full_back, path_back}
use Rattle.ow_records.proofs.ReadBack.{fields_back, kind_back, limits_back, name_back, version_back}
use Rattle.ow_tables.specs.Builtin.{is_builtin}
use Rattle.ow_row_text.specs.Item.{archive_value, item_key, item_text, open_value}
use Rattle.ow_row_text.specs.declared.item.Item.{Item}
use Rattle.ow_row_text.specs.declared.item.Item.TheVariants.{Version, Archive, Count, Note, Row, Open, Done}
use Rattle.ow_row_text.specs.declared.item.RowsVersion.TheVariants as versions
use Rattle.ow_keep.specs.Allowed.{are_few, are_written, is_binding, is_entity, is_version, is_written, stands_alone}
use Rattle.ow_keep.specs.EntityIn.{at_status, entity_from, entity_with as entity_made}
use Rattle.std.specs.Result.{result_ok}
use Rattle.ow_keep.specs.ItemIn.{archive_from, count_with, entity_with, item_from, note_with}
use Rattle.ow_keep.specs.Kept.{MayStand}
use Rattle.ow_keep.specs.Known.{IsItem, IsKnownAction, IsKnownPackage, IsKnownRule, IsKnownTrigger}
use Rattle.ow_keep.specs.OpenIn.{full_name_of, open_from, open_with}
use Rattle.ow_row_text.specs.Sorted.{Entries}
use Rattle.ow_keep.proofs.Packages.{package_back}
use Rattle.ow_keep.proofs.Rules.{rule_back, status_back, trigger_back}
use Rattle.ow_keep.proofs.Utf8.{utf8_back}
use Rattle.ow_keep.proofs.Values.{action_is, archive_is, open_is, package_is, record_is, rule_is, trigger_is}

-- ---- an activation that has not ended

full_name_back : (n : FullName) → IsFullName n → full_name_of (full_text n) ≡ Some n
full_name_back n h = ap result_ok (full_back n h)

form_back : (f : Form) → form_named (form_text f) ≡ Some f
form_back forms.Leaf = refl
form_back forms.Sequence = refl
form_back forms.Conductor = refl

-- what is read where the binding and the cause are known
abbrev open_but : Unrecorded → Option Id → Option (Option FullName) → Option (Option Id) → Option Unrecorded
open_but u id bound cause = open_with id (Some u.at) bound cause (Some u.form) (Some u.kind) (Some u.limits) (Some u.namespace) (Some u.path) (Some u.subject) (Some u.version)

open_by : (u : Unrecorded) (b : Option FullName) (c : Option Id) → IfSome b IsFullName → IfSome c IsId → IsKnownUnrecorded u
    → open_from (open_value (record u { binding = b; cause = c })) ≡ Some (record u { binding = b; cause = c })
unfolding open_from
open_by u None None hb hc h = λ i. open_with (id_back u.id h.id i) (Some u.at) (Some None) (Some None) (form_back u.form i) (kind_back u.kind i) (limits_back u.limits h.limits i) (name_back u.namespace h.namespace i) (path_back u.path h.path i) (Some u.subject) (version_back u.version h.version i)
open_by u None (Some c) hb hc h = λ i. open_with (id_back u.id h.id i) (Some u.at) (Some None) (ap (option_map Some) (id_back c hc) i) (form_back u.form i) (kind_back u.kind i) (limits_back u.limits h.limits i) (name_back u.namespace h.namespace i) (path_back u.path h.path i) (Some u.subject) (version_back u.version h.version i)
open_by u (Some b) None hb hc h = λ i. open_with (id_back u.id h.id i) (Some u.at) (ap (option_map Some) (full_name_back b hb) i) (Some None) (form_back u.form i) (kind_back u.kind i) (limits_back u.limits h.limits i) (name_back u.namespace h.namespace i) (path_back u.path h.path i) (Some u.subject) (version_back u.version h.version i)
open_by u (Some b) (Some c) hb hc h = λ i. open_with (id_back u.id h.id i) (Some u.at) (ap (option_map Some) (full_name_back b hb) i) (ap (option_map Some) (id_back c hc) i) (form_back u.form i) (kind_back u.kind i) (limits_back u.limits h.limits i) (name_back u.namespace h.namespace i) (path_back u.path h.path i) (Some u.subject) (version_back u.version h.version i)

pub open_back : (u : Unrecorded) → IsKnownUnrecorded u → open_from (open_value u) ≡ Some u
open_back u h = open_by u u.binding u.cause h.binding h.cause h

-- ---- an entity

names_read : (here : List ℕ) (ns : List FullName) → are_written here ns ≡ true → AllByRecursion (λ n. home here n.namespace ≡ n.namespace) ns
names_read here [] e = tt
names_read here (n ∷ ns) e =
    let b = and_parts (is_written here n) (are_written here ns) e in
    ((bytes_eq-Decides (home here n.namespace) n.namespace).0 b.0, names_read here ns b.1)

exec_read : (here : List ℕ) (x : Exec) → are_written here (components_of x) ≡ true → IsReadIn here x
exec_read here (execs.Plain code) e = tt
exec_read here (execs.Program code) e = tt
exec_read here (execs.Sequence components) e = names_read here components e

action_back : (a : Action) → IsKnownAction a → is_entity (rows.Action a) ≡ true → entity_from kinds.Action a.name (action_value a) ≡ Some (rows.Action a)
action_back a h e =
    let written = are_written a.name.namespace (components_of a.exec) in
    let listed = and_parts (is_version a.version) (are_few (components_of a.exec) && written) e in
    let read = exec_read a.name.namespace a.exec (and_parts (are_few (components_of a.exec)) written listed.1).1 in
    λ i. option_and_then (at_status (status_in (action_value a))) (entity_made (version_back a.version h.version i) (reads_back a h.notes.rises h.params.rises h.fits read i))

entity_back : (p : Package) → IsKnownPackage p → is_entity (rows.Package p) ≡ true → entity_from kinds.Package p.name (package_value p) ≡ Some (rows.Package p)
entity_back p h e =
    let bound = (and_parts (stands_alone p.name) (is_binding p.name.namespace p.binding) (and_parts (is_version p.version) (stands_alone p.name && is_binding p.name.namespace p.binding) e).1).1 in
    λ i. option_and_then (at_status (status_in (package_value p))) (entity_made (version_back p.version h.version i) (package_back p h.notes.rises h.params.rises h.fit_notes h.fit_params h.binding bound i))

rule_from : (r : Rule) → IsKnownRule r → is_entity (rows.Rule r) ≡ true → entity_from kinds.Rule r.name (rule_value r) ≡ Some (rows.Rule r)
rule_from r h e =
    let joined = is_written r.name.namespace r.trigger && is_written r.name.namespace r.action in
    let a = (and_parts (stands_alone r.name) joined (and_parts (is_version r.version) (stands_alone r.name && joined) e).1).1 in
    λ i. option_and_then (at_status (status_back r.active i)) (entity_made (version_back r.version h.version i) (rule_back r h a i))

trigger_from : (t : Trigger) → IsKnownTrigger t → entity_from kinds.Trigger t.name (trigger_value t) ≡ Some (rows.Trigger t)
trigger_from t h = λ i. option_and_then (at_status (status_in (trigger_value t))) (entity_made (version_back t.version h.version i) (trigger_back t h i))

-- ---- an item

value_back : (v : V) (limit : ℕ) → IsValue v → nat_le (depth v) limit ≡ true → limit ≤ 127 → result_ok (reading limit (compact v)) ≡ Some v
value_back v limit h d m = ap result_ok (reading-compact v limit h (leb-true (depth v) limit d) m)

pub item_back : (all : Entries) (i : Item) → IsItem i → MayStand all i → item_from (item_key i) (item_text i) ≡ Some i
unfolding item_text row_value
item_back all (Version versions.First) h s = refl
item_back all (Version versions.Second) h s = refl
item_back all (Archive a) h s = ap (option_and_then archive_from) (value_back (archive_value a) 100 (archive_is a h.0 h.1) refl (omega arith))
item_back all (Count namespace count) h s = λ i. count_with (hex_number-hex_16 namespace h.0 i) (digits_of-decimal count h.1 i)
item_back all (Note n) h s = λ i. note_with (utf8_back n.key h.0 i) (digits_of-decimal n.value h.1 i)
item_back all (Row (rows.Action a)) h s =
    (λ i. entity_with kinds.Action (full_name_back a.name h.name i) (value_back (action_value a) 100 (action_is a h) s.shallow (omega arith) i))
    ∙ ap (option_map Row) (action_back a h (and_parts (is_entity (rows.Action a)) (not (is_builtin (rows.Action a))) s.allowed).0)
item_back all (Row (rows.Package p)) h s =
    (λ i. entity_with kinds.Package (full_name_back p.name h.name i) (value_back (package_value p) 100 (package_is p h) s.shallow (omega arith) i))
    ∙ ap (option_map Row) (entity_back p h (and_parts (is_entity (rows.Package p)) (not (is_builtin (rows.Package p))) s.allowed).0)
item_back all (Row (rows.Rule r)) h s =
    (λ i. entity_with kinds.Rule (full_name_back r.name h.name i) (value_back (rule_value r) 100 (rule_is r h) s.shallow (omega arith) i))
    ∙ ap (option_map Row) (rule_from r h (and_parts (is_entity (rows.Rule r)) (not (is_builtin (rows.Rule r))) s.allowed).0)
item_back all (Row (rows.Trigger t)) h s =
    (λ i. entity_with kinds.Trigger (full_name_back t.name h.name i) (value_back (trigger_value t) 100 (trigger_is t h) s.shallow (omega arith) i))
    ∙ ap (option_map Row) (trigger_from t h)
item_back all (Open u) h s =
    ap (λ o. option_map Open (option_and_then open_from o)) (value_back (open_value u) 100 (open_is u h) s.shallow (omega arith))
    ∙ ap (option_map Open) (open_back u h)
item_back all (Done r) h s =
    ap (λ o. option_map Done (option_and_then record_from o)) (value_back (record_value r) 102 (record_is r h) s.shallow (omega arith))
    ∙ ap (option_map Done) (fields_back r h)
