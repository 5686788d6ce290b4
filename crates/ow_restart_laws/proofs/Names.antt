-- Names that are read are names by their parts, and the row of a body has the name that it is read under.
use Rattle.std.proofs.Common.{◌≡◌, ◌==◌, ℕ, List, [], ◌∷◌, Bool, true, false, cond, codes, drop, is_some, IfSome, IfOk, Option, Some, None, option_and_then, option_map, Result, Ok, Err, refl, sym, ◌∙◌, subst}
use Rattle.std.specs.List.{AllByRecursion}
use Rattle.std.specs.Str.{bytes_eq}
use Rattle.ow_value.specs.Value.{V, null, boolean, whole, text, list, object}
use Rattle.ow_value.specs.Decimal.{digits_of}
use Rattle.ow_names.specs.FullName.{IsFullName}
use Rattle.ow_names.specs.Name.{IsName, first_fault}
use Rattle.ow_names.specs.Path.{home, named, named_in, of_full_text, of_local, of_rooted, or_fault, parts, within}
use Rattle.ow_names.specs.declared.full.FullName.{FullName}
use Rattle.ow_names.specs.declared.refusal.NameRefusal.{NameRefusal}
use Rattle.ow_names.proofs.NameLaws.{name_if_no_fault}
use Rattle.ow_entity.specs.Body.{action_draft, draft_of, draft_unless, entity_of, first_refusal, package_draft, rule_draft, trigger_draft}
use Rattle.ow_entity.specs.Chain.{and_then, result_map}
use Rattle.ow_entity.specs.Finish.{finished_row, row_of_body}
use Rattle.ow_entity.specs.Row.{draft_name, name_of}
use Rattle.ow_entity.specs.Status.{status_in}
use Rattle.ow_entity.specs.declared.kinds.EntityKind.{EntityKind}
use Rattle.ow_entity.specs.declared.kinds.EntityKind.TheVariants as kinds
use Rattle.ow_entity.specs.declared.refusal.EntityRefusal.{EntityRefusal}
use Rattle.ow_entity.specs.declared.rows.Draft.{Draft}
use Rattle.ow_entity.specs.declared.rows.Row.{Row}
use Rattle.ow_entity.specs.declared.rows.Row.TheVariants as rows
use Rattle.ow_traits.specs.Rows.{text_of}
use Rattle.ow_row_text.specs.Sorted.{Entries}
use Rattle.ow_row_text.specs.declared.item.Item.{Item}
use Rattle.ow_row_text.specs.declared.item.Item.TheVariants as items
use Rattle.ow_keep.specs.Allowed.{confirmed, is_confirmed, item_at}
use Rattle.ow_keep.specs.EntityIn.{at_status, entity_from, entity_with}
use Rattle.ow_keep.specs.ItemIn.{archive_from, archive_with, as_utf8, count_with, entity_of as item_of, entity_with as item_with, item_by, item_from, note_with, value_of, version_from}
use Rattle.ow_keep.specs.Judged.{gathered, judged, or_key, versioned}
use Rattle.ow_keep.specs.OpenIn.{full_name_of}
use Rattle.std.specs.Result.{result_ok}
use Rattle.ow_records.specs.FieldsIn.{number_in, version_in}
use Rattle.ow_records.specs.Id.{hex_number}
use Rattle.ow_records.specs.declared.record.Record.{Record}
use Rattle.ow_records.specs.declared.unrecorded.Unrecorded.{Unrecorded}
use Rattle.ow_tenant.proofs.HomeLaws.{some_if, some_mapped, some_then}
use Rattle.ow_decide.proofs.Finished.{finished_named}
use Rattle.ow_decide.proofs.Results.{if_ok_map}

-- ---- what holds of what is there, and of what isn't refused

pub after : {A B E : Type 0} (M : A → Type 0) (N : B → Type 0) (r : Result A E) (f : A → Result B E) → IfOk r M → ((x : A) → M x → IfOk (f x) N) → IfOk (and_then r f) N
after M N (Ok x) f made keeps = keeps x made
after M N (Err e) f made keeps = tt

pub after_any : {A B E : Type 0} (N : B → Type 0) (r : Result A E) (f : A → Result B E) → ((x : A) → IfOk (f x) N) → IfOk (and_then r f) N
after_any N (Ok x) f keeps = keeps x
after_any N (Err e) f keeps = tt

pub mapped : {A B E : Type 0} (P : A → Type 0) (Q : B → Type 0) (f : A → B) (r : Result A E) → ((x : A) → P x → Q (f x)) → IfOk r P → IfOk (result_map f r) Q
mapped P Q f (Ok x) g h = g x h
mapped P Q f (Err e) g h = tt

pub ok_unless : {A E : Type 0} (P : A → Type 0) (b : Bool) (e : E) (x : A) → P x → IfOk (cond b (Err e) (Ok x)) P
ok_unless P true e x h = tt
ok_unless P false e x h = h

ok_if : {A E : Type 0} (P : A → Type 0) (b : Bool) (e : E) (x : A) → P x → IfOk (cond b (Ok x) (Err e)) P
ok_if P true e x h = h
ok_if P false e x h = tt

-- ---- names

name_then : (P : FullName → Type 0) (s : List ℕ) (o : Option NameRefusal) (r : Result FullName NameRefusal) → first_fault s ≡ o → (IsName s → IfOk r P) → IfOk (or_fault o r) P
name_then P s None r e h = h (name_if_no_fault s e)
name_then P s (Some fault) r e h = tt

named_full : (namespace : List ℕ) (inside : Option (List ℕ)) (name : List ℕ) → IsName namespace → IfOk (named namespace inside name) IsFullName
named_full namespace None name h =
    name_then IsFullName name (first_fault name) (Ok (record { namespace = namespace; «package» = None; name = name })) refl (λ k. record { namespace = h; inside = tt; name = k })
named_full namespace (Some p) name h =
    name_then IsFullName p (first_fault p) (or_fault (first_fault name) (Ok (record { namespace = namespace; «package» = Some p; name = name }))) refl (λ i.
    name_then IsFullName name (first_fault name) (Ok (record { namespace = namespace; «package» = Some p; name = name })) refl (λ k. record { namespace = h; inside = i; name = k }))

either : (b : Bool) (x y : List ℕ) → IsName x → IsName y → IsName (cond b x y)
either true x y h k = h
either false x y h k = k

home_name : (here namespace : List ℕ) → IsName here → IsName namespace → IsName (home here namespace)
home_name here namespace h k = either (bytes_eq namespace (codes "_")) here namespace h k

-- what a path names for one whose namespace is a name
pub named_in_full : (here namespace : List ℕ) (inside : Option (List ℕ)) (name : List ℕ) → IsName here → IfOk (named_in here namespace inside name) IsFullName
named_in_full here namespace inside name h =
    name_then IsFullName namespace (first_fault namespace) (named (home here namespace) inside name) refl (λ k. named_full (home here namespace) inside name (home_name here namespace h k))

within_full : (namespace : List ℕ) (inside : Option (List ℕ)) (name : List ℕ) → IfOk (within namespace inside name) IsFullName
within_full namespace inside name =
    name_then IsFullName namespace (first_fault namespace) (named namespace inside name) refl (λ k. named_full namespace inside name k)

local_full : (ps : List (List ℕ)) → IfOk (of_local ps) IsFullName
local_full [] = tt
local_full (a ∷ []) = tt
local_full (a ∷ b ∷ []) = within_full a None b
local_full (a ∷ b ∷ c ∷ []) = within_full a (Some b) c
local_full (a ∷ b ∷ c ∷ d ∷ ps) = tt

rooted_full : (ps : List (List ℕ)) → IfOk (of_rooted ps) IsFullName
rooted_full [] = tt
rooted_full ([] ∷ ps) = local_full ps
rooted_full ((b ∷ bs) ∷ ps) = tt

read_full : (r : Result FullName NameRefusal) → IfOk r IsFullName → IfSome (result_ok r) IsFullName
read_full (Ok name) h = h
read_full (Err e) h = tt

-- what a full text is read as
full_read : (s : List ℕ) → IfSome (full_name_of s) IsFullName
full_read s = read_full (of_full_text s) (rooted_full (parts s))

-- ---- the drafts of bodies

draft_by : (P : Draft → Type 0) (o : Option EntityRefusal) (d : Draft) → P d → IfOk (draft_unless o d) P
draft_by P None d h = h
draft_by P (Some e) d h = tt

draft_named : (kind : EntityKind) (name : FullName) (body : V) → IfOk (draft_of kind name body) (λ (d : Draft). draft_name d ≡ name)
draft_named kinds.Action name body = draft_by (λ (d : Draft). draft_name d ≡ name) (first_refusal kinds.Action name.namespace body) (action_draft name body) refl
draft_named kinds.Package name body = draft_by (λ (d : Draft). draft_name d ≡ name) (first_refusal kinds.Package name.namespace body) (package_draft name body) refl
draft_named kinds.Rule name body = draft_by (λ (d : Draft). draft_name d ≡ name) (first_refusal kinds.Rule name.namespace body) (rule_draft name body) refl
draft_named kinds.Trigger name body = draft_by (λ (d : Draft). draft_name d ≡ name) (first_refusal kinds.Trigger name.namespace body) (trigger_draft name body) refl

pub entity_named : (kind : EntityKind) (name : FullName) (body : V) → IfOk (entity_of kind name body) (λ (d : Draft). draft_name d ≡ name)
unfolding entity_of
entity_named kind name null = tt
entity_named kind name (boolean b) = tt
entity_named kind name (whole z) = tt
entity_named kind name (text s) = tt
entity_named kind name (list vs) = tt
entity_named kind name (object ms) = draft_named kind name (object ms)

row_named : (kind : EntityKind) (name : FullName) (body : V) → IfOk (row_of_body kind name body) (λ (r : Row). name_of r ≡ name)
unfolding row_of_body
row_named kind name body =
    after (λ (d : Draft). draft_name d ≡ name) (λ (r : Row). name_of r ≡ name) (entity_of kind name body) (λ (d : Draft). finished_row d None) (entity_named kind name body)
    (λ d e. if_ok_map (finished_row d None) (λ (r : Row). name_of r ≡ draft_name d) (λ (r : Row). name_of r ≡ name) (λ r g. g ∙ e) (finished_named d None))

-- ---- rows that are read back

at_named : (name : FullName) (o : Option ℕ) (made : Result Row EntityRefusal) → IfOk made (λ (r : Row). name_of r ≡ name) → IfSome (entity_with o made) (λ (r : Row). name_of r ≡ name)
at_named name None made h = tt
at_named name (Some version) (Ok (rows.Action a)) h = h
at_named name (Some version) (Ok (rows.Package p)) h = h
at_named name (Some version) (Ok (rows.Rule r)) h = h
at_named name (Some version) (Ok (rows.Trigger t)) h = h
at_named name (Some version) (Err e) h = tt

status_named : (name : FullName) (status : Result Bool EntityRefusal) (r : Row) → name_of r ≡ name → IfSome (at_status status r) (λ (x : Row). name_of x ≡ name)
status_named name status (rows.Action a) h = h
status_named name status (rows.Package p) h = h
status_named name (Ok active) (rows.Rule r) h = h
status_named name (Err e) (rows.Rule r) h = tt
status_named name status (rows.Trigger t) h = h

from_named : (kind : EntityKind) (name : FullName) (v : V) → IfSome (entity_from kind name v) (λ (r : Row). name_of r ≡ name)
from_named kind name v = some_then (λ (r : Row). name_of r ≡ name) (λ (r : Row). name_of r ≡ name) (at_status (status_in v)) (entity_with (version_in (codes "version") v) (row_of_body kind name v))
    (status_named name (status_in v)) (at_named name (version_in (codes "version") v) (row_of_body kind name v) (row_named kind name v))

-- an item whose name, if it is of a row, is one by its parts
abbrev pub IsNamedItem : Item → Type 0
IsNamedItem (items.Row r) = IsFullName (name_of r)
IsNamedItem item = Unit {0}

row_item : (kind : EntityKind) (o : Option FullName) (v : Option V) → IfSome o IsFullName → IfSome (item_with kind o v) IsNamedItem
row_item kind None v h = tt
row_item kind (Some name) None h = tt
row_item kind (Some name) (Some v) h =
    some_mapped (λ (r : Row). name_of r ≡ name) IsNamedItem items.Row (entity_from kind name v) (λ r e. subst IsFullName (sym e) h) (from_named kind name v)

place_item : (place s : List ℕ) → IfSome (item_of place s) IsNamedItem
place_item [] s = tt
place_item (byte ∷ place) s =
    some_if IsNamedItem (byte == 97) _ _ (row_item kinds.Action (full_name_of (drop 5 place)) (value_of s) (full_read (drop 5 place)))
    (some_if IsNamedItem (byte == 112) _ _ (row_item kinds.Package (full_name_of (drop 6 place)) (value_of s) (full_read (drop 6 place)))
    (some_if IsNamedItem (byte == 114) _ _ (row_item kinds.Rule (full_name_of (drop 3 place)) (value_of s) (full_read (drop 3 place)))
    (some_if IsNamedItem (byte == 116) (item_with kinds.Trigger (full_name_of (drop 6 place)) (value_of s)) None
    (row_item kinds.Trigger (full_name_of (drop 6 place)) (value_of s) (full_read (drop 6 place))) tt)))

count_item : (namespace count : Option ℕ) → IfSome (count_with namespace count) IsNamedItem
count_item None count = tt
count_item (Some n) None = tt
count_item (Some n) (Some m) = tt

note_item : (key : Option (List ℕ)) (value : Option ℕ) → IfSome (note_with key value) IsNamedItem
note_item None value = tt
note_item (Some k) None = tt
note_item (Some k) (Some n) = tt

archive_with_item : (last number : Option ℕ) → IfSome (archive_with last number) IsNamedItem
archive_with_item None number = tt
archive_with_item (Some l) None = tt
archive_with_item (Some l) (Some n) = tt

archive_item : (o : Option V) → IfSome (option_and_then archive_from o) IsNamedItem
archive_item None = tt
archive_item (Some v) = archive_with_item (number_in (codes "last") v) (number_in (codes "number") v)

open_item : (o : Option Unrecorded) → IfSome (option_map items.Open o) IsNamedItem
open_item None = tt
open_item (Some u) = tt

done_item : (o : Option Record) → IfSome (option_map items.Done o) IsNamedItem
done_item None = tt
done_item (Some r) = tt

by_item : (byte : ℕ) (key s : List ℕ) → IfSome (item_by byte key s) IsNamedItem
by_item byte key s =
    some_if IsNamedItem (byte == 97) _ _ (archive_item (value_of s))
    (some_if IsNamedItem (byte == 99) _ _ (count_item (hex_number (drop 5 key)) (digits_of s))
    (some_if IsNamedItem (byte == 100) _ _ (done_item _)
    (some_if IsNamedItem (byte == 110) _ _ (note_item (as_utf8 (drop 4 key)) (digits_of s))
    (some_if IsNamedItem (byte == 111) _ _ (open_item _)
    (some_if IsNamedItem (byte == 114) _ _ (place_item (drop 3 key) s)
    (some_if IsNamedItem (byte == 118) (Some (items.Version (version_from s))) None tt tt))))))

from_item : (key s : List ℕ) → IfSome (item_from key s) IsNamedItem
from_item [] s = tt
from_item (byte ∷ key) s = by_item byte key s

at_item : (all : Entries) (r : List ℕ × List ℕ) → IfSome (item_at all r) IsNamedItem
unfolding item_at
at_item all r = some_then IsNamedItem IsNamedItem (confirmed all r) (item_from r.0 r.1) (λ i h. some_if IsNamedItem (is_confirmed all r i) (Some i) None h tt) (from_item r.0 r.1)

key_items : (key : List ℕ) (o : Option Item) (rest : Result (List Item) (List ℕ)) → IfSome o IsNamedItem → IfOk rest (AllByRecursion IsNamedItem) → IfOk (or_key key o rest) (AllByRecursion IsNamedItem)
key_items key None rest h k = tt
key_items key (Some i) (Ok is) h k = (h, k)
key_items key (Some i) (Err e) h k = tt

gathered_items : (all some : Entries) → IfOk (gathered all some) (AllByRecursion IsNamedItem)
gathered_items all [] = tt
gathered_items all (r ∷ rs) = key_items r.0 (item_at all r) (gathered all rs) (at_item all r) (gathered_items all rs)

versioned_items : (all : Entries) (g : Result (List Item) (List ℕ)) → IfOk g (AllByRecursion IsNamedItem) → IfOk (versioned all g) (AllByRecursion IsNamedItem)
versioned_items all (Ok is) h = ok_if (AllByRecursion IsNamedItem) (is_some (text_of (codes "version") all)) (codes "version") is h
versioned_items all (Err key) h = tt

pub judged_items : (all : Entries) → IfOk (judged all) (AllByRecursion IsNamedItem)
judged_items [] = tt
judged_items (r ∷ rs) = versioned_items (r ∷ rs) (gathered (r ∷ rs) (r ∷ rs)) (gathered_items (r ∷ rs) (r ∷ rs))
