-- What is written of known items has a text.
use Rattle.std.proofs.Common.{◌≡◌, ℕ, zero, suc, pos, ◌-◌, ◌==◌, nat_lt, ltb-true, ◌<◌, ◌≤◌, ◌^◌, ◌&&◌, List, [], ◌∷◌, ◌++◌, Bool, true, false, map, codes, decimal, IfSome, Option, Some, None, Less, IsUtf8, refl, sym, subst, arith}
use Rattle.std.specs.List.{AllByRecursion}
use Rattle.std.specs.List.Sorted.{IsStrictlySortedBy}
use Rattle.std.specs.Map.{keys_of}
use Rattle.std.specs.Ordering.{is_lt}
use Rattle.std.proofs.lemmas.Bool.{and_parts}
use Rattle.std.proofs.lemmas.Fmt.{IsAscii-decimal}
use Rattle.std.proofs.lemmas.Str.{IsUtf8-append, IsUtf8-from_ascii}
use Rattle.std.specs.Int.{to_be_bytes, w64}
use Rattle.std.specs.Str.{IsAscii}
use Rattle.std.proofs.lemmas.Str.Ascii.{IsAscii-nil, IsAscii-cons}
use Rattle.hex.specs.Hex.{lower_digits}
use Rattle.hex.proofs.HexLemmas.{IsAscii-encode_with}
use Rattle.ow_value.specs.Value.{V, Pairs, boolean, whole, text, list, object, items_of, members_of, text_cmp, AreParams}
use Rattle.ow_value.specs.Field.{pairs_in-members_of}
use Rattle.ow_value.specs.Json.{IsValue, AreValues, AreMembers, IsObject}
use Rattle.ow_value.proofs.Objects.{IsValue-object}
use Rattle.ow_names.specs.FullName.{IsFullName, full_text, local_text}
use Rattle.ow_names.specs.Name.{IsName}
use Rattle.ow_names.specs.declared.full.FullName.{FullName}
use Rattle.ow_names.proofs.NameLaws.{IsName-utf8}
use Rattle.ow_entity.specs.Exec.{exec_code}
use Rattle.ow_entity.specs.FitAction.{IsFitExec, IsFitLimits}
use Rattle.ow_entity.specs.Pairs.{pair_value, pairs_value}
use Rattle.ow_entity.specs.Written.{action_value, binding_value, exec_value, limits_value, name_value, package_value, rule_value, shown_namespace, shown_version, trigger_value}
use Rattle.ow_entity.specs.declared.actions.Action.{Action}
use Rattle.ow_entity.specs.declared.bounds.Limits.{Limits}
use Rattle.ow_entity.specs.declared.exec.Exec.{Exec}
use Rattle.ow_entity.specs.declared.exec.Exec.TheVariants.{Plain, Program, Sequence}
use Rattle.ow_entity.specs.Status.{status_text}
use Rattle.ow_entity.specs.declared.packages.Package.{Package}
use Rattle.ow_entity.specs.declared.rules.Rule.{Rule}
use Rattle.ow_entity.specs.declared.triggers.Trigger.{Trigger}
use Rattle.ow_records.specs.Form.{form_text}
use Rattle.ow_records.specs.declared.forms.Form.{Form}
use Rattle.ow_records.specs.declared.forms.Form.TheVariants as forms
use Rattle.ow_records.specs.Id.{id_text, hex_16}
use Rattle.ow_records.specs.Known.{AreNotes, IsKnown, IsKnownUnrecorded, IsResponse}
use Rattle.ow_records.specs.Notes.{kind_text}
use Rattle.ow_records.specs.Response.{ResponseView}
use Rattle.ow_records.specs.Written.{record_value, record_members, response_value, status_text as word_of_code}
use Rattle.ow_records.specs.WrittenNotes.{kind_note, limits_note, mark_note, moment_note, name_note, notes_value, path_text, word_note}
use Rattle.ow_records.specs.declared.ids.Id.{Id}
use Rattle.ow_records.specs.declared.notes.ExecKind.{ExecKind}
use Rattle.ow_records.specs.declared.notes.ExecKind.TheVariants as exec_kinds
use Rattle.ow_records.specs.declared.notes.Notes.{Notes}
use Rattle.ow_records.specs.declared.record.Record.{Record}
use Rattle.ow_records.specs.declared.unrecorded.Unrecorded.{Unrecorded}
use Rattle.ow_records.proofs.Sorting.{is_less}
use Rattle.ow_row_text.specs.Item.{archive_value, open_members, open_value}
use Rattle.ow_row_text.specs.declared.item.Archive.{Archive}
use Rattle.ow_keep.specs.Known.{IsKnownAction, IsKnownPackage, IsKnownRule, IsKnownTrigger}

-- ---- texts that are written out

abbrev are_ascii : List ℕ → Bool
are_ascii [] = true
are_ascii (x ∷ xs) = nat_lt x 128 && are_ascii xs

ascii_by : (s : List ℕ) → are_ascii s ≡ true → IsAscii s
ascii_by [] e = IsAscii-nil
ascii_by (x ∷ xs) e = let a = and_parts (nat_lt x 128) (are_ascii xs) e in IsAscii-cons x xs (ltb-true x 128 a.0) (ascii_by xs a.1)

ascii : (s : List ℕ) → are_ascii s ≡ true → IsUtf8 s
ascii s e = IsUtf8-from_ascii s (ascii_by s e)

-- ---- objects whose names are written out

abbrev is_above : List ℕ → List (List ℕ) → Bool
is_above k [] = true
is_above k (l ∷ ls) = is_lt (text_cmp k l) && is_above k ls

-- the names rise, and are ASCII
abbrev are_names : List (List ℕ) → Bool
are_names [] = true
are_names (k ∷ ks) = (are_ascii k && is_above k ks) && are_names ks

above : (k : List ℕ) (ls : List (List ℕ)) → is_above k ls ≡ true → AllByRecursion (λ l. text_cmp k l ≡ Less) ls
above k [] e = tt
above k (l ∷ ls) e = let a = and_parts (is_lt (text_cmp k l)) (is_above k ls) e in (is_less (text_cmp k l) a.0, above k ls a.1)

rise : (ks : List (List ℕ)) → are_names ks ≡ true → IsStrictlySortedBy text_cmp ks
unfolding IsStrictlySortedBy
rise [] e = tt
rise (k ∷ ks) e =
    let a = and_parts (are_ascii k && is_above k ks) (are_names ks) e in
    let b = and_parts (are_ascii k) (is_above k ks) a.0 in
    (above k ks b.1, rise ks a.1)

members : (ps : Pairs) → are_names (keys_of ps) ≡ true → AllByRecursion (λ p. IsValue p.1) ps → AreMembers (members_of ps)
members [] e h = tt
members (p ∷ ps) e h =
    let a = and_parts (are_ascii p.0 && is_above p.0 (keys_of ps)) (are_names (keys_of ps)) e in
    let b = and_parts (are_ascii p.0) (is_above p.0 (keys_of ps)) a.0 in
    (ascii p.0 b.0, h.0, members ps a.1 h.1)

is_object : (ps : Pairs) → AreParams ps → AreMembers (members_of ps) → IsValue (object (members_of ps))
is_object ps h k = (subst AreParams (sym (pairs_in-members_of ps)) h, k)

-- an object of values, by the names that are written out
named : (ps : Pairs) → are_names (keys_of ps) ≡ true → AllByRecursion (λ p. IsValue p.1) ps → IsValue (object (members_of ps))
named ps e h = is_object ps (rise (keys_of ps) e) (members ps e h)

-- ---- names and versions

behind_slash : (a b : List ℕ) → IsUtf8 a → IsUtf8 b → IsUtf8 (a ++ 47 ∷ b)
behind_slash a b h k = IsUtf8-append a (47 ∷ b) h (IsUtf8-append (47 ∷ []) b (ascii (47 ∷ []) refl) k)

local_utf8 : (o : Option (List ℕ)) (name : List ℕ) → IfSome o IsName → IsName name → IsUtf8 (local_text o name)
local_utf8 None name h k = IsName-utf8 name k
local_utf8 (Some p) name h k = behind_slash p name (IsName-utf8 p h) (IsName-utf8 name k)

path_utf8 : (n : FullName) → IsFullName n → IsUtf8 (path_text n)
path_utf8 n h = behind_slash n.namespace (local_text n.package n.name) (IsName-utf8 n.namespace h.namespace) (local_utf8 n.package n.name h.inside h.name)

full_utf8 : (n : FullName) → IsFullName n → IsUtf8 (full_text n)
full_utf8 n h = IsUtf8-append (47 ∷ []) (path_text n) (ascii (47 ∷ []) refl) (path_utf8 n h)

shown_utf8 : (namespace : List ℕ) (o : Option (List ℕ)) → IfSome o IsName → IsName namespace → IsUtf8 (shown_namespace namespace o)
shown_utf8 namespace None h k = IsName-utf8 namespace k
shown_utf8 namespace (Some p) h k = behind_slash namespace p (IsName-utf8 namespace k) (IsName-utf8 p h)

version_utf8 : (n : ℕ) → n < 2 ^ 32 → IsUtf8 (shown_version n)
version_utf8 n h = IsUtf8-append (codes "0.0.") (decimal n) (ascii (codes "0.0.") refl) (IsUtf8-from_ascii (decimal n) (IsAscii-decimal n (omega (arith, h))))

-- ---- parts of entities

pair_values : (ps : Pairs) → AreMembers (members_of ps) → AreValues (items_of (map pair_value ps))
pair_values [] h = tt
pair_values (p ∷ ps) h = (named ((codes "key", text p.0) ∷ (codes "value", p.1) ∷ []) refl (h.0, (h.1, tt)), pair_values ps h.2)

pairs_are : (ps : Pairs) → IsObject ps → IsValue (pairs_value ps)
pairs_are ps h = pair_values ps h.values

small : (n : ℕ) (m : ℕ) → n ≤ m → m < 2 ^ 64 → n < 2 ^ 64
small n m h k = omega (arith, h, k)

limits_are : (l : Limits) → IsFitLimits l → IsValue (limits_value l)
limits_are l h = named (
    (codes "logs", whole (pos l.logs))
    ∷ (codes "memory", whole (pos l.memory))
    ∷ (codes "timeout", whole (pos l.timeout))
    ∷ []) refl (small l.logs 10 h.logs.1 (omega arith), (small l.memory 512 h.memory.1 (omega arith), (small l.timeout 300000 h.timeout.1 (omega arith), tt)))

names_are : (ns : List FullName) → AllByRecursion IsFullName ns → AreValues (items_of (map name_value ns))
names_are [] h = tt
names_are (n ∷ ns) h = (full_utf8 n h.0, names_are ns h.1)

exec_are : (e : Exec) → IsUtf8 (exec_code e) → IsFitExec e → IsValue (exec_value e)
exec_are (Sequence components) h k =
    named ((codes "components", list (items_of (map name_value components))) ∷ (codes "kind", text (codes "sequence")) ∷ []) refl (names_are components k.names, (ascii (codes "sequence") refl, tt))
exec_are (Plain code) h k = named ((codes "code", text code) ∷ (codes "kind", text (codes "plain:1")) ∷ []) refl (h, (ascii (codes "plain:1") refl, tt))
exec_are (Program code) h k = named ((codes "code", text code) ∷ (codes "kind", text (codes "program:1")) ∷ []) refl (h, (ascii (codes "program:1") refl, tt))

binding_are : (o : Option FullName) → IfSome o IsFullName → IsValue (binding_value o)
binding_are None h = named [] refl tt
binding_are (Some b) h = named ((codes "name", text b.name) ∷ (codes "namespace", text b.namespace) ∷ []) refl (IsName-utf8 b.name h.name, (IsName-utf8 b.namespace h.namespace, tt))

pub action_is : (a : Action) → IsKnownAction a → IsValue (action_value a)
action_is a h = named (
    (codes "annotations", pairs_value a.notes)
    ∷ (codes "exec", exec_value a.exec)
    ∷ (codes "limits", limits_value a.limits)
    ∷ (codes "name", text a.name.name)
    ∷ (codes "namespace", text (shown_namespace a.name.namespace a.name.package))
    ∷ (codes "parameters", pairs_value a.params)
    ∷ (codes "publish", boolean a.publish)
    ∷ (codes "version", text (shown_version a.version))
    ∷ []) refl (pairs_are a.notes h.notes, (exec_are a.exec h.code h.fits.exec, (limits_are a.limits h.fits.limits, (IsName-utf8 a.name.name h.name.name, (shown_utf8 a.name.namespace a.name.package h.name.inside h.name.namespace, (pairs_are a.params h.params, (tt, (version_utf8 a.version h.version, tt))))))))

pub package_is : (p : Package) → IsKnownPackage p → IsValue (package_value p)
package_is p h = named (
    (codes "annotations", pairs_value p.notes)
    ∷ (codes "binding", binding_value p.binding)
    ∷ (codes "name", text p.name.name)
    ∷ (codes "namespace", text (shown_namespace p.name.namespace p.name.package))
    ∷ (codes "parameters", pairs_value p.params)
    ∷ (codes "publish", boolean p.publish)
    ∷ (codes "version", text (shown_version p.version))
    ∷ []) refl (pairs_are p.notes h.notes, (binding_are p.binding h.binding, (IsName-utf8 p.name.name h.name.name, (shown_utf8 p.name.namespace p.name.package h.name.inside h.name.namespace, (pairs_are p.params h.params, (tt, (version_utf8 p.version h.version, tt)))))))

active_utf8 : (active : Bool) → IsUtf8 (status_text active)
active_utf8 true = ascii (codes "active") refl
active_utf8 false = ascii (codes "inactive") refl

pub rule_is : (r : Rule) → IsKnownRule r → IsValue (rule_value r)
rule_is r h = named (
    (codes "action", text (full_text r.action))
    ∷ (codes "annotations", pairs_value r.notes)
    ∷ (codes "name", text r.name.name)
    ∷ (codes "namespace", text (shown_namespace r.name.namespace r.name.package))
    ∷ (codes "publish", boolean r.publish)
    ∷ (codes "status", text (status_text r.active))
    ∷ (codes "trigger", text (full_text r.trigger))
    ∷ (codes "version", text (shown_version r.version))
    ∷ []) refl (full_utf8 r.action h.action, (pairs_are r.notes h.notes, (IsName-utf8 r.name.name h.name.name, (shown_utf8 r.name.namespace r.name.package h.name.inside h.name.namespace, (tt, (active_utf8 r.active, (full_utf8 r.trigger h.trigger, (version_utf8 r.version h.version, tt))))))))

pub trigger_is : (t : Trigger) → IsKnownTrigger t → IsValue (trigger_value t)
trigger_is t h = named (
    (codes "annotations", pairs_value t.notes)
    ∷ (codes "name", text t.name.name)
    ∷ (codes "namespace", text (shown_namespace t.name.namespace t.name.package))
    ∷ (codes "parameters", pairs_value t.params)
    ∷ (codes "publish", boolean t.publish)
    ∷ (codes "version", text (shown_version t.version))
    ∷ []) refl (pairs_are t.notes h.notes, (IsName-utf8 t.name.name h.name.name, (shown_utf8 t.name.namespace t.name.package h.name.inside h.name.namespace, (pairs_are t.params h.params, (tt, (version_utf8 t.version h.version, tt))))))

-- ---- the archive

pub archive_is : (a : Archive) → a.last < 2 ^ 64 → a.number < 2 ^ 64 → IsValue (archive_value a)
archive_is a h k = named ((codes "last", whole (pos a.last)) ∷ (codes "number", whole (pos a.number)) ∷ []) refl (h, (k, tt))

-- ---- parts of records

digits_utf8 : (n : ℕ) → IsUtf8 (hex_16 n)
digits_utf8 n = IsUtf8-from_ascii (hex_16 n) (IsAscii-encode_with lower_digits (to_be_bytes w64 n) (ascii_by lower_digits refl))

id_utf8 : (id : Id) → IsUtf8 (id_text id)
unfolding id_text
id_utf8 id = IsUtf8-append (hex_16 id.namespace) (hex_16 id.count) (digits_utf8 id.namespace) (digits_utf8 id.count)

kind_utf8 : (k : ExecKind) → IsUtf8 (kind_text k)
kind_utf8 exec_kinds.Plain = ascii (codes "plain:1") refl
kind_utf8 exec_kinds.Program = ascii (codes "program:1") refl
kind_utf8 exec_kinds.Sequence = ascii (codes "sequence") refl

form_utf8 : (f : Form) → IsUtf8 (form_text f)
form_utf8 forms.Leaf = ascii (codes "leaf") refl
form_utf8 forms.Sequence = ascii (codes "sequence") refl
form_utf8 forms.Conductor = ascii (codes "conductor") refl

status_utf8 : (code : ℕ) → IsUtf8 (word_of_code code)
status_utf8 zero = ascii (codes "success") refl
status_utf8 (suc zero) = ascii (codes "application error") refl
status_utf8 (suc (suc zero)) = ascii (codes "action developer error") refl
status_utf8 (suc (suc (suc n))) = ascii (codes "whisk internal error") refl

list_is : (vs : List V) → AllByRecursion IsValue vs → AreValues (items_of vs)
list_is [] h = tt
list_is (v ∷ vs) h = (h.0, list_is vs h.1)

both : (a b : List V) → AllByRecursion IsValue a → AllByRecursion IsValue b → AllByRecursion IsValue (a ++ b)
both [] b h k = k
both (v ∷ a) b h k = (h.0, both a b h.1 k)

lines_are : (ls : List (List ℕ)) → AllByRecursion IsUtf8 ls → AllByRecursion IsValue (map text ls)
lines_are [] h = tt
lines_are (l ∷ ls) h = (h.0, lines_are ls h.1)

pair_is : (key : List ℕ) (v : V) → IsUtf8 key → IsValue v → IsValue (pair_value (key, v))
pair_is key v h k = named ((codes "key", text key) ∷ (codes "value", v) ∷ []) refl (h, (k, tt))

name_notes : (key : List ℕ) (o : Option FullName) → IsUtf8 key → IfSome o IsFullName → AllByRecursion IsValue (name_note key o)
name_notes key None h k = tt
name_notes key (Some n) h k = (pair_is key (text (path_text n)) h (path_utf8 n k), tt)

word_notes : (key word : List ℕ) (b : Bool) → IsUtf8 key → IsUtf8 word → AllByRecursion IsValue (word_note key word b)
word_notes key word true h k = (pair_is key (text word) h k, tt)
word_notes key word false h k = tt

moment_notes : (key : List ℕ) (o : Option ℕ) → IsUtf8 key → IfSome o (λ t. t < 2 ^ 64) → AllByRecursion IsValue (moment_note key o)
moment_notes key None h k = tt
moment_notes key (Some t) h k = (pair_is key (whole (pos t)) h k, tt)

kind_notes : (o : Option ExecKind) → AllByRecursion IsValue (kind_note o)
kind_notes None = tt
kind_notes (Some k) = (pair_is (codes "kind") (text (kind_text k)) (ascii (codes "kind") refl) (kind_utf8 k), tt)

limits_notes : (o : Option Limits) → IfSome o IsFitLimits → AllByRecursion IsValue (limits_note o)
limits_notes None h = tt
limits_notes (Some l) h = (pair_is (codes "limits") (limits_value l) (ascii (codes "limits") refl) (limits_are l h), tt)

mark_notes : (key : List ℕ) (b : Bool) → IsUtf8 key → AllByRecursion IsValue (mark_note key b)
mark_notes key true h = (pair_is key (boolean true) h tt, tt)
mark_notes key false h = tt

notes_are : (n : Notes) → AreNotes n → IsValue (notes_value n)
notes_are n h = list_is _
    (both _ _ (both _ _ (both _ _ (both _ _ (both _ _ (both _ _ (both _ _
    (name_notes (codes "binding") n.binding (ascii (codes "binding") refl) h.binding)
    (word_notes (codes "causedBy") (codes "sequence") n.caused_by (ascii (codes "causedBy") refl) (ascii (codes "sequence") refl)))
    (moment_notes (codes "initTime") n.init_time (ascii (codes "initTime") refl) h.init_time))
    (kind_notes n.kind))
    (limits_notes n.limits h.limits))
    (name_notes (codes "path") n.path (ascii (codes "path") refl) h.path))
    (mark_notes (codes "topmost") n.topmost (ascii (codes "topmost") refl)))
    (moment_notes (codes "waitTime") n.wait_time (ascii (codes "waitTime") refl) h.wait_time))

response_is : (r : ResponseView) → IsResponse r → IsValue (response_value r)
response_is r h = named (
    (codes "result", object (members_of r.result))
    ∷ (codes "status", text (word_of_code r.code))
    ∷ (codes "statusCode", whole (pos r.code))
    ∷ (codes "success", boolean (r.code == 0))
    ∷ []) refl (IsValue-object r.result h.result, (status_utf8 r.code, (small r.code 3 h.code (omega arith), (tt, tt))))

-- ---- records, and activations that have not ended

-- the members after the cause
abbrev tail : Record → Pairs
tail r =
    (codes "duration", whole (pos (r.span.end - r.span.start)))
    ∷ (codes "end", whole (pos r.span.end))
    ∷ (codes "logs", list (items_of (map text r.logs)))
    ∷ (codes "name", text r.name)
    ∷ (codes "namespace", text r.namespace)
    ∷ (codes "response", response_value r.response)
    ∷ (codes "start", whole (pos r.span.start))
    ∷ (codes "subject", text r.subject)
    ∷ (codes "version", text (shown_version r.version))
    ∷ []

tail_are : (r : Record) → IsKnown r → AllByRecursion (λ p. IsValue p.1) (tail r)
tail_are r h = (small (r.span.end - r.span.start) r.span.end (omega arith) h.span.end, (h.span.end, (list_is (map text r.logs) (lines_are r.logs h.logs), (IsName-utf8 r.name h.name, (IsName-utf8 r.namespace h.namespace, (response_is r.response h.response, (small r.span.start r.span.end h.span.order h.span.end, (h.subject, (version_utf8 r.version h.version, tt)))))))))

record_by : (c : Option Id) (r : Record) → IsKnown r → IsValue (object (members_of (record_members c r)))
record_by None r h = named ((codes "activationId", text (id_text r.id)) ∷ (codes "annotations", notes_value r.notes) ∷ tail r) refl
    (id_utf8 r.id, (notes_are r.notes h.notes, tail_are r h))
record_by (Some c) r h = named ((codes "activationId", text (id_text r.id)) ∷ (codes "annotations", notes_value r.notes) ∷ (codes "cause", text (id_text c)) ∷ tail r) refl
    (id_utf8 r.id, (notes_are r.notes h.notes, (id_utf8 c, tail_are r h)))

pub record_is : (r : Record) → IsKnown r → IsValue (record_value r)
record_is r h = record_by r.cause r h

abbrev open_tail : Unrecorded → Pairs
open_tail u =
    (codes "form", text (form_text u.form))
    ∷ (codes "kind", text (kind_text u.kind))
    ∷ (codes "limits", limits_value u.limits)
    ∷ (codes "namespace", text u.namespace)
    ∷ (codes "path", text (path_text u.path))
    ∷ (codes "subject", text u.subject)
    ∷ (codes "version", text (shown_version u.version))
    ∷ []

open_tail_are : (u : Unrecorded) → IsKnownUnrecorded u → AllByRecursion (λ p. IsValue p.1) (open_tail u)
open_tail_are u h = (form_utf8 u.form, (kind_utf8 u.kind, (limits_are u.limits h.limits, (IsName-utf8 u.namespace h.namespace, (path_utf8 u.path h.path, (h.subject, (version_utf8 u.version h.version, tt)))))))

open_by : (b : Option FullName) (c : Option Id) (u : Unrecorded) → IfSome b IsFullName → IsKnownUnrecorded u → IsValue (object (members_of (open_members b c u)))
open_by None None u hb h = named ((codes "activationId", text (id_text u.id)) ∷ (codes "at", whole (pos u.at)) ∷ open_tail u) refl
    (id_utf8 u.id, (h.at, open_tail_are u h))
open_by None (Some c) u hb h = named ((codes "activationId", text (id_text u.id)) ∷ (codes "at", whole (pos u.at)) ∷ (codes "cause", text (id_text c)) ∷ open_tail u) refl
    (id_utf8 u.id, (h.at, (id_utf8 c, open_tail_are u h)))
open_by (Some b) None u hb h = named ((codes "activationId", text (id_text u.id)) ∷ (codes "at", whole (pos u.at)) ∷ (codes "binding", text (full_text b)) ∷ open_tail u) refl
    (id_utf8 u.id, (h.at, (full_utf8 b hb, open_tail_are u h)))
open_by (Some b) (Some c) u hb h = named ((codes "activationId", text (id_text u.id)) ∷ (codes "at", whole (pos u.at)) ∷ (codes "binding", text (full_text b)) ∷ (codes "cause", text (id_text c)) ∷ open_tail u) refl
    (id_utf8 u.id, (h.at, (full_utf8 b hb, (id_utf8 c, open_tail_are u h))))

pub open_is : (u : Unrecorded) → IsKnownUnrecorded u → IsValue (open_value u)
open_is u h = open_by u.binding u.cause u h.binding h
