-- The row that a body makes nests no deeper than is read, and the names in it are read back as they are.
use Rattle.std.proofs.Common.{◌≡◌, ◌≤◌, ◌==◌, ◌+◌, ◌&&◌, ℕ, suc, max, List, [], ◌∷◌, map, codes, Bool, true, false, cond, nat_lt, IfSome, IfOk, unwrap_or, Option, Some, None, option_map, option_and_then, Result, Ok, Err, Ordering, Less, Equal, Greater, refl, sym, ap, subst, arith}
use Rattle.std.specs.BTreeMap.{is_at}
use Rattle.std.specs.List.{AllByRecursion}
use Rattle.std.specs.Ordering.{match_ordering}
use Rattle.std.specs.Result.{result_unwrap_or}
use Rattle.std.specs.Str.{bytes_eq}
use Rattle.std.proofs.lemmas.Bool.{and_from, and_parts, le-leb, leb-true}
use Rattle.std.proofs.lemmas.Bool.Decides.{nat_tests}
use Rattle.std.proofs.lemmas.Slice.Eq.{bytes_eq-Decides}
use Rattle.ow_value.specs.Field.{field, pairs_in}
use Rattle.ow_value.specs.Find.{find, with_pair}
use Rattle.ow_value.specs.Nesting.{most_nested}
use Rattle.ow_value.specs.Value.{V, Pairs, null, boolean, whole, text, list, object, Items, no_items, item, Members, no_members, member, depth, items_depth, items_of, members_depth, text_cmp}
use Rattle.ow_value.specs.declared.measure.TheConstants.{MEGABYTE}
use Rattle.ow_names.specs.Name.{first_fault}
use Rattle.ow_names.specs.Path.{home, named, named_in, of_parts, or_fault, parts, resolved}
use Rattle.ow_names.specs.declared.full.FullName.{FullName}
use Rattle.ow_names.specs.declared.refusal.NameRefusal.{NameRefusal}
use Rattle.ow_entity.specs.Body.{action_draft, are_texts, binding_field, binding_given, binding_in, bound_in, components_field, components_given, draft_of, draft_unless, entity_of, exec_field, exec_given, exec_in, exec_of_kind, first_refusal, if_some, name_field, name_given, name_in, names_in, or_bad_name, package_draft, plain_exec, program_exec, rule_draft, sequence_exec, text_field, trigger_draft}
use Rattle.ow_entity.specs.Chain.{and_then, result_map}
use Rattle.ow_entity.specs.Code.{plain_code, program_name}
use Rattle.ow_entity.specs.Exec.{components_of}
use Rattle.ow_entity.specs.FieldName.{field_name}
use Rattle.ow_entity.specs.Finish.{action_made, action_over, as_action, as_package, as_rule, as_trigger, default_action, default_package, default_rule, default_trigger, finished_row, new_action, new_rule, package_made, package_over, rule_made, rule_over, trigger_made, trigger_over}
use Rattle.ow_entity.specs.Given.{IsPlaced}
use Rattle.ow_entity.specs.Pairs.{pair_of, pair_value, pair_with, pairs_field, pairs_given, pairs_listed, pairs_of_list, pairs_size, with_pairs}
use Rattle.ow_entity.specs.PlainCode.{name_count}
use Rattle.ow_entity.specs.Row.{name_of}
use Rattle.ow_entity.specs.Written.{action_value, binding_value, exec_value, name_value, package_value, row_value, rule_value, trigger_value}
use Rattle.ow_entity.specs.declared.actions.Action.{Action}
use Rattle.ow_entity.specs.declared.actions.ActionDraft.{ActionDraft}
use Rattle.ow_entity.specs.declared.exec.Exec.{Exec}
use Rattle.ow_entity.specs.declared.exec.Exec.TheVariants as execs
use Rattle.ow_entity.specs.declared.field_name.FieldName.{FieldName}
use Rattle.ow_entity.specs.declared.field_name.FieldName.TheVariants as fields
use Rattle.ow_entity.specs.declared.finishing.TheConstants.{FIRST_VERSION}
use Rattle.ow_entity.specs.declared.kinds.EntityKind.{EntityKind}
use Rattle.ow_entity.specs.declared.kinds.EntityKind.TheVariants as kinds
use Rattle.ow_entity.specs.declared.packages.Package.{Package}
use Rattle.ow_entity.specs.declared.packages.PackageDraft.{PackageDraft}
use Rattle.ow_entity.specs.declared.refusal.EntityRefusal.{EntityRefusal}
use Rattle.ow_entity.specs.declared.refusal.EntityRefusal.TheVariants.{LastVersion, TooLarge, UnknownKind, WrongType}
use Rattle.ow_entity.specs.declared.rows.Draft.{Draft}
use Rattle.ow_entity.specs.declared.rows.Draft.TheVariants as drafts
use Rattle.ow_entity.specs.declared.rows.Row.{Row}
use Rattle.ow_entity.specs.declared.rows.Row.TheVariants as rows
use Rattle.ow_entity.specs.declared.rules.Rule.{Rule}
use Rattle.ow_entity.specs.declared.rules.RuleDraft.{RuleDraft}
use Rattle.ow_entity.specs.declared.triggers.Trigger.{Trigger}
use Rattle.ow_entity.specs.declared.triggers.TriggerDraft.{TriggerDraft}
use Rattle.ow_keep.specs.Allowed.{are_few, are_written, is_binding, is_version, is_written, stands_alone}
use Rattle.ow_restart_laws.specs.RowsKept.{IsShort, IsWritable}

-- ---- what holds of what is made, if anything is made

mapped : {A B : Type 0} (P : A → Type 0) (Q : B → Type 0) (f : A → B) (r : Result A EntityRefusal) → ((x : A) → P x → Q (f x)) → IfOk r P → IfOk (result_map f r) Q
mapped P Q f (Ok x) g h = g x h
mapped P Q f (Err e) g h = tt

some_mapped : {A : Type 0} (P : A → Type 0) (r : Result A EntityRefusal) → IfOk r P → IfOk (result_map Some r) (λ (o : Option A). IfSome o P)
some_mapped P (Ok x) h = h
some_mapped P (Err e) h = tt

after : {A B : Type 0} (P : B → Type 0) (r : Result A EntityRefusal) (f : A → Result B EntityRefusal) → ((x : A) → IfOk (f x) P) → IfOk (and_then r f) P
after P (Ok x) f h = h x
after P (Err e) f h = tt

unless : {A : Type 0} (P : A → Type 0) (b : Bool) (e : EntityRefusal) (x : A) → P x → IfOk (cond b (Err e) (Ok x)) P
unless P true e x h = tt
unless P false e x h = h

unwrapped : {A : Type 0} (P : A → Type 0) (r : Result (Option A) EntityRefusal) → IfOk r (λ (o : Option A). IfSome o P) → IfSome (result_unwrap_or r None) P
unwrapped P (Ok o) h = h
unwrapped P (Err e) h = tt

over : {A : Type 0} (P : A → Type 0) (o : Option A) (x : A) → IfSome o P → P x → P (unwrap_or o x)
over P None x h k = k
over P (Some y) x h k = h

-- ---- how deep a field of an object nests

found_by : (b : Bool) (n : ℕ) (v : V) (o : Option V) → depth v ≤ n → IfSome o (λ (w : V). depth w ≤ n) → IfSome (cond b (Some v) o) (λ (w : V). depth w ≤ n)
found_by true n v o h k = h
found_by false n v o h k = k

found_within : (name : List ℕ) (n : ℕ) (ms : Members) → members_depth ms ≤ n → IfSome (find name (pairs_in ms)) (λ (w : V). depth w ≤ n)
found_within name n no_members h = tt
found_within name n (member k v ms) h = found_by (is_at (text_cmp name) k) n v (find name (pairs_in ms)) (omega arith) (found_within name n ms (omega arith))

field_within : (name : List ℕ) (n : ℕ) (v : V) → depth v ≤ suc n → IfSome (field name v) (λ (w : V). depth w ≤ n)
field_within name n null h = tt
field_within name n (boolean b) h = tt
field_within name n (whole z) h = tt
field_within name n (text s) h = tt
field_within name n (list vs) h = tt
field_within name n (object ms) h = found_within name n ms (omega arith)

-- ---- how deep the values of pairs nest that a body lists

-- no value nests deeper
abbrev pub AreWithin : ℕ → Pairs → Type 0
AreWithin n ps = AllByRecursion (λ (p : List ℕ × V). depth p.1 ≤ n) ps

pair_within : (n : ℕ) (key value : Option V) → IfSome value (λ (w : V). depth w ≤ n) → IfSome (pair_with key value) (λ (p : List ℕ × V). depth p.1 ≤ n)
pair_within n None value h = tt
pair_within n (Some null) value h = tt
pair_within n (Some (boolean b)) value h = tt
pair_within n (Some (whole z)) value h = tt
pair_within n (Some (text s)) None h = tt
pair_within n (Some (text s)) (Some v) h = h
pair_within n (Some (list vs)) value h = tt
pair_within n (Some (object ms)) value h = tt

next_within : (n : ℕ) (o : Option (List ℕ × V)) (rest : Option Pairs) → IfSome o (λ (p : List ℕ × V). depth p.1 ≤ n) → IfSome rest (AreWithin n)
    → IfSome (option_and_then (λ (p : List ℕ × V). option_map (λ (ps : Pairs). p ∷ ps) rest) o) (AreWithin n)
next_within n None rest h k = tt
next_within n (Some p) None h k = tt
next_within n (Some p) (Some ps) h k = (h, k)

listed_within : (n : ℕ) (vs : Items) → items_depth vs ≤ suc n → IfSome (pairs_listed vs) (AreWithin n)
listed_within n no_items h = tt
listed_within n (item v vs) h = next_within n (pair_of v) (pairs_listed vs)
    (pair_within n (field (codes "key") v) (field (codes "value") v) (field_within (codes "value") n v (omega arith)))
    (listed_within n vs (omega arith))

put_by : (o : Ordering) (n : ℕ) (a b c : Pairs) → AreWithin n a → AreWithin n b → AreWithin n c → AreWithin n (match_ordering o a b c)
put_by Less n a b c f g h = f
put_by Equal n a b c f g h = g
put_by Greater n a b c f g h = h

pub with_within : (n : ℕ) (qs : Pairs) (k : List ℕ) (v : V) → AreWithin n qs → depth v ≤ n → AreWithin n (with_pair qs k v)
with_within n [] k v h d = (d, tt)
with_within n (q ∷ qs) k v h d =
    put_by (text_cmp k q.0) n ((k, v) ∷ q ∷ qs) ((q.0, v) ∷ qs) (q ∷ with_pair qs k v) (d, h) (d, h.1) (h.0, with_within n qs k v h.1 d)

all_within : (n : ℕ) (qs ps : Pairs) → AreWithin n qs → AreWithin n ps → AreWithin n (with_pairs qs ps)
all_within n qs [] h k = h
all_within n qs (p ∷ ps) h k = all_within n (with_pair qs p.0 p.1) ps (with_within n qs p.0 p.1 h k.0) k.1

abbrev AreGiven : ℕ → Result (Option Pairs) EntityRefusal → Type 0
AreGiven n r = IfOk r (λ (o : Option Pairs). IfSome o (AreWithin n))

list_within : (name : FieldName) (n : ℕ) (o : Option Pairs) → IfSome o (AreWithin n) → AreGiven n (pairs_of_list name (option_map (with_pairs []) o))
list_within name n None h = tt
list_within name n (Some ps) h =
    let qs = with_pairs [] ps in
    some_mapped (AreWithin n) (cond (nat_lt MEGABYTE (pairs_size qs)) (Err TooLarge) (Ok qs)) (unless (AreWithin n) (nat_lt MEGABYTE (pairs_size qs)) TooLarge qs (all_within n [] ps tt h))

given_within : (name : FieldName) (n : ℕ) (o : Option V) → IfSome o (λ (w : V). depth w ≤ suc (suc n)) → AreGiven n (pairs_given name o)
given_within name n None h = tt
given_within name n (Some null) h = tt
given_within name n (Some (boolean b)) h = tt
given_within name n (Some (whole z)) h = tt
given_within name n (Some (text s)) h = tt
given_within name n (Some (list vs)) h =
    let within : depth (list vs) ≤ suc (suc n) = h in
    list_within name n (pairs_listed vs) (listed_within n vs (omega arith))
given_within name n (Some (object ms)) h = tt

pairs_within : (name : FieldName) (n : ℕ) (body : V) → depth body ≤ suc (suc (suc n)) → IfSome (result_unwrap_or (pairs_field name body) None) (AreWithin n)
pairs_within name n body h = unwrapped (AreWithin n) (pairs_field name body) (given_within name n (field (field_name name) body) (field_within (field_name name) (suc (suc n)) body h))

-- ---- what a body binds

-- what is bound is named with the namespace that it has here
abbrev IsBound : List ℕ → FullName → Type 0
IsBound here bound = is_binding here (Some bound) ≡ true

either_same : {X : Type 0} (b : Bool) (x : X) → cond b x x ≡ x
either_same true x = refl
either_same false x = refl

home_by : (here namespace : List ℕ) (b : Bool) → bytes_eq namespace (codes "_") ≡ b → home here (cond b here namespace) ≡ cond b here namespace
home_by here namespace true e = either_same (bytes_eq here (codes "_")) here
home_by here namespace false e = ap (λ (b : Bool). cond b here namespace) e

home_twice : (here namespace : List ℕ) → home here (home here namespace) ≡ home here namespace
home_twice here namespace = home_by here namespace (bytes_eq namespace (codes "_")) refl

home_bound : (here namespace name : List ℕ) → IsBound here (record { namespace = home here namespace; «package» = None; name = name })
home_bound here namespace name = (bytes_eq-Decides (home here (home here namespace)) (home here namespace)).1 (home_twice here namespace)

or_holds : (P : FullName → Type 0) (o : Option NameRefusal) (r : Result FullName NameRefusal) → IfOk r P → IfOk (or_fault o r) P
or_holds P None r h = h
or_holds P (Some e) r h = tt

named_bound : (here namespace name : List ℕ) → IfOk (named_in here namespace None name) (IsBound here)
named_bound here namespace name =
    or_holds (IsBound here) (first_fault namespace) (named (home here namespace) None name)
    (or_holds (IsBound here) (first_fault name) (Ok (record { namespace = home here namespace; «package» = None; name = name })) (home_bound here namespace name))

or_bad_holds : (P : FullName → Type 0) (r : Result FullName NameRefusal) → IfOk r P → IfOk (or_bad_name r) P
or_bad_holds P (Ok name) h = h
or_bad_holds P (Err e) h = tt

bound_bound : (here : List ℕ) (v : V) → IfOk (bound_in here v) (IsBound here)
bound_bound here v =
    after (IsBound here) (text_field fields.BoundNamespace v) (λ (namespace : List ℕ). and_then (text_field fields.BoundName v) (λ (name : List ℕ). or_bad_name (named_in here namespace None name)))
    (λ (namespace : List ℕ). after (IsBound here) (text_field fields.BoundName v) (λ (name : List ℕ). or_bad_name (named_in here namespace None name))
    (λ (name : List ℕ). or_bad_holds (IsBound here) (named_in here namespace None name) (named_bound here namespace name)))

none_or_bound : (here : List ℕ) (b : Bool) (r : Result FullName EntityRefusal) → IfOk r (IsBound here) → IfOk (cond b (Ok None) (result_map Some r)) (λ (o : Option FullName). is_binding here o ≡ true)
none_or_bound here true r h = refl
none_or_bound here false (Ok bound) h = h
none_or_bound here false (Err e) h = tt

given_bound : (here : List ℕ) (o : Option V) → IfOk (binding_given here o) (λ (g : Option (Option FullName)). IfSome g (λ (b : Option FullName). is_binding here b ≡ true))
given_bound here None = tt
given_bound here (Some null) = tt
given_bound here (Some (boolean b)) = tt
given_bound here (Some (whole z)) = tt
given_bound here (Some (text s)) = tt
given_bound here (Some (list vs)) = tt
given_bound here (Some (object ms)) =
    some_mapped (λ (b : Option FullName). is_binding here b ≡ true) (binding_in here (object ms)) (none_or_bound here (name_count (object ms) == 0) (bound_in here (object ms)) (bound_bound here (object ms)))

binding_bound : (here : List ℕ) (body : V) → IfSome (result_unwrap_or (binding_field here body) None) (λ (b : Option FullName). is_binding here b ≡ true)
binding_bound here body = unwrapped (λ (b : Option FullName). is_binding here b ≡ true) (binding_field here body) (given_bound here (field (codes "binding") body))

-- ---- what a body names

-- the text of what is named, read in this namespace, is the name again
abbrev IsWritten : List ℕ → FullName → Type 0
IsWritten here n = is_written here n ≡ true

home_own : (here : List ℕ) → home here here ≡ here
home_own here = either_same (bytes_eq here (codes "_")) here

named_written : (here namespace : List ℕ) (inside : Option (List ℕ)) (name : List ℕ) → home here namespace ≡ namespace → IfOk (named namespace inside name) (IsWritten here)
named_written here namespace None name same =
    or_holds (IsWritten here) (first_fault name) (Ok (record { namespace = namespace; «package» = None; name = name })) ((bytes_eq-Decides (home here namespace) namespace).1 same)
named_written here namespace (Some p) name same =
    or_holds (IsWritten here) (first_fault p) (or_fault (first_fault name) (Ok (record { namespace = namespace; «package» = Some p; name = name })))
    (or_holds (IsWritten here) (first_fault name) (Ok (record { namespace = namespace; «package» = Some p; name = name })) ((bytes_eq-Decides (home here namespace) namespace).1 same))

in_written : (here namespace : List ℕ) (inside : Option (List ℕ)) (name : List ℕ) → IfOk (named_in here namespace inside name) (IsWritten here)
in_written here namespace inside name =
    or_holds (IsWritten here) (first_fault namespace) (named (home here namespace) inside name) (named_written here (home here namespace) inside name (home_twice here namespace))

-- each of the four forms
parts_written : (here : List ℕ) (ps : List (List ℕ)) → IfOk (of_parts here ps) (IsWritten here)
parts_written here [] = tt
parts_written here (name ∷ []) = named_written here here None name (home_own here)
parts_written here ([] ∷ name ∷ []) = tt
parts_written here ((b ∷ bs) ∷ name ∷ []) = named_written here here (Some (b ∷ bs)) name (home_own here)
parts_written here ([] ∷ namespace ∷ name ∷ []) = in_written here namespace None name
parts_written here ((b ∷ bs) ∷ namespace ∷ name ∷ []) = tt
parts_written here ([] ∷ namespace ∷ p ∷ name ∷ []) = in_written here namespace (Some p) name
parts_written here ((b ∷ bs) ∷ namespace ∷ p ∷ name ∷ []) = tt
parts_written here ([] ∷ namespace ∷ p ∷ name ∷ other ∷ ps) = tt
parts_written here ((b ∷ bs) ∷ namespace ∷ p ∷ name ∷ other ∷ ps) = tt

given_written : (name : FieldName) (here : List ℕ) (o : Option V) → IfOk (name_given name here o) (λ (g : Option FullName). IfSome g (IsWritten here))
given_written name here None = tt
given_written name here (Some null) = tt
given_written name here (Some (boolean b)) = tt
given_written name here (Some (whole z)) = tt
given_written name here (Some (text s)) =
    some_mapped (IsWritten here) (or_bad_name (resolved here s)) (or_bad_holds (IsWritten here) (resolved here s) (parts_written here (parts s)))
given_written name here (Some (list vs)) = tt
given_written name here (Some (object ms)) = tt

field_written : (name : FieldName) (here : List ℕ) (body : V) → IfSome (result_unwrap_or (name_field name here body) None) (IsWritten here)
field_written name here body = unwrapped (IsWritten here) (name_field name here body) (given_written name here (field (field_name name) body))

-- ---- the components that a body lists

abbrev AreNamed : List ℕ → List FullName → Type 0
AreNamed here ns = are_written here ns ≡ true

abbrev IsExecWritten : List ℕ → Exec → Type 0
IsExecWritten here x = AreNamed here (components_of x)

item_written : (here : List ℕ) (v : V) → IfOk (name_in here v) (IsWritten here)
item_written here null = tt
item_written here (boolean b) = tt
item_written here (whole z) = tt
item_written here (text s) = or_bad_holds (IsWritten here) (resolved here s) (parts_written here (parts s))
item_written here (list vs) = tt
item_written here (object ms) = tt

both_written : (here : List ℕ) (r : Result FullName EntityRefusal) (s : Result (List FullName) EntityRefusal) → IfOk r (IsWritten here) → IfOk s (AreNamed here)
    → IfOk (and_then r (λ n. result_map (λ ns. n ∷ ns) s)) (AreNamed here)
both_written here (Err e) s h k = tt
both_written here (Ok n) (Err e) h k = tt
both_written here (Ok n) (Ok ns) h k = and_from (is_written here n) (are_written here ns) h k

names_written : (here : List ℕ) (vs : Items) → IfOk (names_in here vs) (AreNamed here)
names_written here no_items = refl
names_written here (item v vs) = both_written here (name_in here v) (names_in here vs) (item_written here v) (names_written here vs)

some_written : (here : List ℕ) (r : Result (List FullName) EntityRefusal) → IfOk r (AreNamed here) → IfOk (and_then r if_some) (AreNamed here)
some_written here (Ok []) h = tt
some_written here (Ok (n ∷ ns)) h = h
some_written here (Err e) h = tt

either_way : {A : Type 0} (P : A → Type 0) (b : Bool) (r s : Result A EntityRefusal) → IfOk r P → IfOk s P → IfOk (cond b r s) P
either_way P true r s h k = h
either_way P false r s h k = k

components_written : (here : List ℕ) (o : Option V) → IfOk (components_given here o) (AreNamed here)
components_written here None = tt
components_written here (Some null) = tt
components_written here (Some (boolean b)) = tt
components_written here (Some (whole z)) = tt
components_written here (Some (text s)) = tt
components_written here (Some (list vs)) =
    either_way (AreNamed here) (are_texts vs) (and_then (names_in here vs) if_some) (Err (WrongType fields.Components)) (some_written here (names_in here vs) (names_written here vs)) tt
components_written here (Some (object ms)) = tt

kind_written : (here : List ℕ) (v : V) (kind : List ℕ) → IfOk (exec_of_kind here v kind) (IsExecWritten here)
kind_written here v kind =
    either_way (IsExecWritten here) (bytes_eq kind (codes "plain:1")) (plain_exec v) _
    (mapped (λ (code : List ℕ). Unit {0}) (IsExecWritten here) execs.Plain (and_then (text_field fields.Code v) plain_code) (λ code u. refl) (any (and_then (text_field fields.Code v) plain_code)))
    (either_way (IsExecWritten here) (bytes_eq kind (codes "program:1")) (program_exec v) _
    (mapped (λ (code : List ℕ). Unit {0}) (IsExecWritten here) execs.Program (and_then (text_field fields.Code v) program_name) (λ code u. refl) (any (and_then (text_field fields.Code v) program_name)))
    (either_way (IsExecWritten here) (bytes_eq kind (codes "sequence")) (sequence_exec here v) (Err UnknownKind)
    (mapped (AreNamed here) (IsExecWritten here) execs.Sequence (components_field here v) (λ ns h. h) (components_written here (field (field_name fields.Components) v))) tt))
  where
    any : {A : Type 0} (r : Result A EntityRefusal) → IfOk r (λ (x : A). Unit {0})
    any (Ok x) = tt
    any (Err e) = tt

exec_given_written : (here : List ℕ) (o : Option V) → IfOk (exec_given here o) (λ (g : Option Exec). IfSome g (IsExecWritten here))
exec_given_written here None = tt
exec_given_written here (Some null) = tt
exec_given_written here (Some (boolean b)) = tt
exec_given_written here (Some (whole z)) = tt
exec_given_written here (Some (text s)) = tt
exec_given_written here (Some (list vs)) = tt
exec_given_written here (Some (object ms)) =
    some_mapped (IsExecWritten here) (exec_in here (object ms)) (after (IsExecWritten here) (text_field fields.Kind (object ms)) (exec_of_kind here (object ms)) (kind_written here (object ms)))

exec_written : (here : List ℕ) (body : V) → IfSome (result_unwrap_or (exec_field here body) None) (IsExecWritten here)
exec_written here body = unwrapped (IsExecWritten here) (exec_field here body) (exec_given_written here (field (codes "exec") body))

-- ---- drafts

record IsActionDraft (n : ℕ) (name : FullName) (d : ActionDraft) : Type 0 where
  name_is : d.name ≡ name
  exec : IfSome d.exec (IsExecWritten name.namespace)
  params : IfSome d.params (AreWithin n)
  notes : IfSome d.notes (AreWithin n)

record IsPackageDraft (n : ℕ) (name : FullName) (d : PackageDraft) : Type 0 where
  name_is : d.name ≡ name
  alone : stands_alone name ≡ true
  params : IfSome d.params (AreWithin n)
  notes : IfSome d.notes (AreWithin n)
  binding : IfSome d.binding (λ (b : Option FullName). is_binding name.namespace b ≡ true)

record IsRuleDraft (n : ℕ) (name : FullName) (d : RuleDraft) : Type 0 where
  name_is : d.name ≡ name
  alone : stands_alone name ≡ true
  notes : IfSome d.notes (AreWithin n)
  trigger : IfSome d.trigger (IsWritten name.namespace)
  action : IfSome d.action (IsWritten name.namespace)

record IsTriggerDraft (n : ℕ) (name : FullName) (d : TriggerDraft) : Type 0 where
  name_is : d.name ≡ name
  alone : stands_alone name ≡ true
  params : IfSome d.params (AreWithin n)
  notes : IfSome d.notes (AreWithin n)

abbrev IsGoodDraft : ℕ → FullName → Draft → Type 0
IsGoodDraft n name (drafts.Action d) = IsActionDraft n name d
IsGoodDraft n name (drafts.Package d) = IsPackageDraft n name d
IsGoodDraft n name (drafts.Rule d) = IsRuleDraft n name d
IsGoodDraft n name (drafts.Trigger d) = IsTriggerDraft n name d

draft_by : (n : ℕ) (name : FullName) (o : Option EntityRefusal) (d : Draft) → IsGoodDraft n name d → IfOk (draft_unless o d) (IsGoodDraft n name)
draft_by n name None d h = h
draft_by n name (Some e) d h = tt

drafts_good : (n : ℕ) (kind : EntityKind) (name : FullName) (body : V) → IsPlaced kind name → depth body ≤ suc (suc (suc n)) → IfOk (draft_of kind name body) (IsGoodDraft n name)
drafts_good n kinds.Action name body placed h = draft_by n name (first_refusal kinds.Action name.namespace body) (action_draft name body) (record {
  name_is = refl;
  exec = exec_written name.namespace body;
  params = pairs_within fields.Parameters n body h;
  notes = pairs_within fields.Annotations n body h;
})
drafts_good n kinds.Package name body placed h = draft_by n name (first_refusal kinds.Package name.namespace body) (package_draft name body) (record {
  name_is = refl;
  alone = placed;
  params = pairs_within fields.Parameters n body h;
  notes = pairs_within fields.Annotations n body h;
  binding = binding_bound name.namespace body;
})
drafts_good n kinds.Rule name body placed h = draft_by n name (first_refusal kinds.Rule name.namespace body) (rule_draft name body) (record {
  name_is = refl;
  alone = placed;
  notes = pairs_within fields.Annotations n body h;
  trigger = field_written fields.Trigger name.namespace body;
  action = field_written fields.Action name.namespace body;
})
drafts_good n kinds.Trigger name body placed h = draft_by n name (first_refusal kinds.Trigger name.namespace body) (trigger_draft name body) (record {
  name_is = refl;
  alone = placed;
  params = pairs_within fields.Parameters n body h;
  notes = pairs_within fields.Annotations n body h;
})

bodies_good : (n : ℕ) (kind : EntityKind) (name : FullName) (body : V) → IsPlaced kind name → depth body ≤ suc (suc (suc n)) → IfOk (entity_of kind name body) (IsGoodDraft n name)
unfolding entity_of
bodies_good n kind name null placed h = tt
bodies_good n kind name (boolean b) placed h = tt
bodies_good n kind name (whole z) placed h = tt
bodies_good n kind name (text s) placed h = tt
bodies_good n kind name (list vs) placed h = tt
bodies_good n kind name (object ms) placed h = drafts_good n kind name (object ms) placed h

-- ---- rows

record IsGoodAction (n : ℕ) (name : FullName) (a : Action) : Type 0 where
  name_is : a.name ≡ name
  exec : IsExecWritten name.namespace a.exec
  version : is_version a.version ≡ true
  params : AreWithin n a.params
  notes : AreWithin n a.notes

record IsGoodPackage (n : ℕ) (name : FullName) (p : Package) : Type 0 where
  name_is : p.name ≡ name
  alone : stands_alone name ≡ true
  version : is_version p.version ≡ true
  params : AreWithin n p.params
  notes : AreWithin n p.notes
  binding : is_binding name.namespace p.binding ≡ true

record IsGoodRule (n : ℕ) (name : FullName) (r : Rule) : Type 0 where
  name_is : r.name ≡ name
  alone : stands_alone name ≡ true
  version : is_version r.version ≡ true
  notes : AreWithin n r.notes
  trigger : IsWritten name.namespace r.trigger
  action : IsWritten name.namespace r.action

record IsGoodTrigger (n : ℕ) (name : FullName) (t : Trigger) : Type 0 where
  name_is : t.name ≡ name
  alone : stands_alone name ≡ true
  version : is_version t.version ≡ true
  params : AreWithin n t.params
  notes : AreWithin n t.notes

abbrev IsGoodRow : ℕ → FullName → Row → Type 0
IsGoodRow n name (rows.Action a) = IsGoodAction n name a
IsGoodRow n name (rows.Package p) = IsGoodPackage n name p
IsGoodRow n name (rows.Rule r) = IsGoodRule n name r
IsGoodRow n name (rows.Trigger t) = IsGoodTrigger n name t

-- versions are counted on from 1
next_version : (n : ℕ) → is_version (n + 1) ≡ true
next_version n = grind (arith, nat_tests)

action_over_good : (n : ℕ) (name : FullName) (d : ActionDraft) (old : Action) (version : ℕ) → IsActionDraft n name d → is_version version ≡ true → AreWithin n old.params → AreWithin n old.notes
    → IsExecWritten name.namespace (unwrap_or d.exec old.exec) → IsGoodAction n name (action_over d old version)
action_over_good n name d old version h counted params notes exec = record {
  name_is = h.name_is;
  exec = exec;
  version = counted;
  params = over (AreWithin n) d.params old.params h.params params;
  notes = over (AreWithin n) d.notes old.notes h.notes notes;
}

new_action_good : (n : ℕ) (name : FullName) (d : ActionDraft) (o : Option Exec) → IsActionDraft n name d → IfSome o (IsExecWritten name.namespace) → IfOk (new_action d o) (IsGoodAction n name)
new_action_good n name d None h k = tt
new_action_good n name d (Some exec) h k =
    action_over_good n name d (default_action d.name exec) FIRST_VERSION h refl tt tt (over (IsExecWritten name.namespace) d.exec exec h.exec k)

actions_good : (n : ℕ) (name : FullName) (d : ActionDraft) (o : Option Action) → IsActionDraft n name d → IfSome o (IsGoodAction n name) → IfOk (action_made d o) (IsGoodAction n name)
actions_good n name d None h k = new_action_good n name d d.exec h h.exec
actions_good n name d (Some old) h k =
    let before : IsGoodAction n name old = k in
    unless (IsGoodAction n name) _ LastVersion (action_over d old (old.version + 1))
    (action_over_good n name d old (old.version + 1) h (next_version old.version) before.params before.notes (over (IsExecWritten name.namespace) d.exec old.exec h.exec before.exec))

package_over_good : (n : ℕ) (name : FullName) (d : PackageDraft) (old : Package) (version : ℕ) → IsPackageDraft n name d → is_version version ≡ true → AreWithin n old.params → AreWithin n old.notes
    → is_binding name.namespace old.binding ≡ true → IsGoodPackage n name (package_over d old version)
package_over_good n name d old version h counted params notes binding = record {
  name_is = h.name_is;
  alone = h.alone;
  version = counted;
  params = over (AreWithin n) d.params old.params h.params params;
  notes = over (AreWithin n) d.notes old.notes h.notes notes;
  binding = over (λ (b : Option FullName). is_binding name.namespace b ≡ true) d.binding old.binding h.binding binding;
}

packages_good : (n : ℕ) (name : FullName) (d : PackageDraft) (o : Option Package) → IsPackageDraft n name d → IfSome o (IsGoodPackage n name) → IfOk (package_made d o) (IsGoodPackage n name)
packages_good n name d None h k = package_over_good n name d (default_package d.name) FIRST_VERSION h refl tt tt refl
packages_good n name d (Some old) h k =
    let before : IsGoodPackage n name old = k in
    unless (IsGoodPackage n name) _ LastVersion (package_over d old (old.version + 1))
    (package_over_good n name d old (old.version + 1) h (next_version old.version) before.params before.notes before.binding)

rule_over_good : (n : ℕ) (name : FullName) (d : RuleDraft) (old : Rule) (version : ℕ) → IsRuleDraft n name d → is_version version ≡ true → AreWithin n old.notes
    → IsWritten name.namespace old.trigger → IsWritten name.namespace old.action → IsGoodRule n name (rule_over d old version)
rule_over_good n name d old version h counted notes trigger action = record {
  name_is = h.name_is;
  alone = h.alone;
  version = counted;
  notes = over (AreWithin n) d.notes old.notes h.notes notes;
  trigger = over (IsWritten name.namespace) d.trigger old.trigger h.trigger trigger;
  action = over (IsWritten name.namespace) d.action old.action h.action action;
}

new_rule_good : (n : ℕ) (name : FullName) (d : RuleDraft) (trigger action : Option FullName) → IsRuleDraft n name d → IfSome trigger (IsWritten name.namespace) → IfSome action (IsWritten name.namespace)
    → IfOk (new_rule d trigger action) (IsGoodRule n name)
new_rule_good n name d None action h t a = tt
new_rule_good n name d (Some trigger) None h t a = tt
new_rule_good n name d (Some trigger) (Some action) h t a = rule_over_good n name d (default_rule d.name trigger action) FIRST_VERSION h refl tt t a

rules_good : (n : ℕ) (name : FullName) (d : RuleDraft) (o : Option Rule) → IsRuleDraft n name d → IfSome o (IsGoodRule n name) → IfOk (rule_made d o) (IsGoodRule n name)
rules_good n name d None h k = new_rule_good n name d d.trigger d.action h h.trigger h.action
rules_good n name d (Some old) h k =
    let before : IsGoodRule n name old = k in
    unless (IsGoodRule n name) _ LastVersion (rule_over d old (old.version + 1))
    (rule_over_good n name d old (old.version + 1) h (next_version old.version) before.notes before.trigger before.action)

trigger_over_good : (n : ℕ) (name : FullName) (d : TriggerDraft) (old : Trigger) (version : ℕ) → IsTriggerDraft n name d → is_version version ≡ true → AreWithin n old.params → AreWithin n old.notes
    → IsGoodTrigger n name (trigger_over d old version)
trigger_over_good n name d old version h counted params notes = record {
  name_is = h.name_is;
  alone = h.alone;
  version = counted;
  params = over (AreWithin n) d.params old.params h.params params;
  notes = over (AreWithin n) d.notes old.notes h.notes notes;
}

triggers_good : (n : ℕ) (name : FullName) (d : TriggerDraft) (o : Option Trigger) → IsTriggerDraft n name d → IfSome o (IsGoodTrigger n name) → IfOk (trigger_made d o) (IsGoodTrigger n name)
triggers_good n name d None h k = trigger_over_good n name d (default_trigger d.name) FIRST_VERSION h refl tt tt
triggers_good n name d (Some old) h k =
    let before : IsGoodTrigger n name old = k in
    unless (IsGoodTrigger n name) _ LastVersion (trigger_over d old (old.version + 1))
    (trigger_over_good n name d old (old.version + 1) h (next_version old.version) before.params before.notes)

old_action_good : (n : ℕ) (name : FullName) (o : Option Row) → IfSome o (IsGoodRow n name) → IfSome (as_action o) (IsGoodAction n name)
old_action_good n name None h = tt
old_action_good n name (Some (rows.Action a)) h = h
old_action_good n name (Some (rows.Package p)) h = tt
old_action_good n name (Some (rows.Rule r)) h = tt
old_action_good n name (Some (rows.Trigger t)) h = tt

old_package_good : (n : ℕ) (name : FullName) (o : Option Row) → IfSome o (IsGoodRow n name) → IfSome (as_package o) (IsGoodPackage n name)
old_package_good n name None h = tt
old_package_good n name (Some (rows.Action a)) h = tt
old_package_good n name (Some (rows.Package p)) h = h
old_package_good n name (Some (rows.Rule r)) h = tt
old_package_good n name (Some (rows.Trigger t)) h = tt

old_rule_good : (n : ℕ) (name : FullName) (o : Option Row) → IfSome o (IsGoodRow n name) → IfSome (as_rule o) (IsGoodRule n name)
old_rule_good n name None h = tt
old_rule_good n name (Some (rows.Action a)) h = tt
old_rule_good n name (Some (rows.Package p)) h = tt
old_rule_good n name (Some (rows.Rule r)) h = h
old_rule_good n name (Some (rows.Trigger t)) h = tt

old_trigger_good : (n : ℕ) (name : FullName) (o : Option Row) → IfSome o (IsGoodRow n name) → IfSome (as_trigger o) (IsGoodTrigger n name)
old_trigger_good n name None h = tt
old_trigger_good n name (Some (rows.Action a)) h = tt
old_trigger_good n name (Some (rows.Package p)) h = tt
old_trigger_good n name (Some (rows.Rule r)) h = tt
old_trigger_good n name (Some (rows.Trigger t)) h = h

rows_good : (n : ℕ) (name : FullName) (d : Draft) (old : Option Row) → IsGoodDraft n name d → IfSome old (IsGoodRow n name) → IfOk (finished_row d old) (IsGoodRow n name)
unfolding finished_row
rows_good n name (drafts.Action d) old h k = mapped (IsGoodAction n name) (IsGoodRow n name) rows.Action (action_made d (as_action old)) (λ a g. g) (actions_good n name d (as_action old) h (old_action_good n name old k))
rows_good n name (drafts.Package d) old h k = mapped (IsGoodPackage n name) (IsGoodRow n name) rows.Package (package_made d (as_package old)) (λ p g. g) (packages_good n name d (as_package old) h (old_package_good n name old k))
rows_good n name (drafts.Rule d) old h k = mapped (IsGoodRule n name) (IsGoodRow n name) rows.Rule (rule_made d (as_rule old)) (λ r g. g) (rules_good n name d (as_rule old) h (old_rule_good n name old k))
rows_good n name (drafts.Trigger d) old h k = mapped (IsGoodTrigger n name) (IsGoodRow n name) rows.Trigger (trigger_made d (as_trigger old)) (λ t g. g) (triggers_good n name d (as_trigger old) h (old_trigger_good n name old k))

-- ---- how deep rows nest

-- how deep the items of what is written of pairs nest
abbrev nested : Pairs → ℕ
nested ps = items_depth (items_of (map pair_value ps))

nested_within : (n : ℕ) (ps : Pairs) → AreWithin n ps → nested ps ≤ suc n
nested_within n [] h = omega arith
nested_within n (p ∷ ps) h =
    let first : depth p.1 ≤ n = h.0 in
    let rest : nested ps ≤ suc n = nested_within n ps h.1 in
    omega (arith, first, rest)

within_nested : (n : ℕ) (ps : Pairs) → nested ps ≤ suc n → AreWithin n ps
within_nested n [] h = tt
within_nested n (p ∷ ps) h = (omega arith, within_nested n ps (omega arith))

-- what is written of a row, by how deep its notes, its parameters and its binding nest
abbrev action_depth : ℕ → ℕ → ℕ → ℕ
action_depth notes exec params = suc (max (suc notes) (max exec (max 1 (max 0 (max 0 (max (suc params) (max 0 (max 0 0))))))))

abbrev package_depth : ℕ → ℕ → ℕ → ℕ
package_depth notes binding params = suc (max (suc notes) (max binding (max 0 (max 0 (max (suc params) (max 0 (max 0 0)))))))

abbrev rule_depth : ℕ → ℕ
rule_depth notes = suc (max 0 (max (suc notes) (max 0 (max 0 (max 0 (max 0 (max 0 (max 0 0))))))))

abbrev trigger_depth : ℕ → ℕ → ℕ
trigger_depth notes params = suc (max (suc notes) (max 0 (max 0 (max (suc params) (max 0 (max 0 0))))))

action_within : (n notes exec params : ℕ) → notes ≤ suc n → exec ≤ 2 → params ≤ suc n → action_depth notes exec params ≤ suc (suc (suc n))
action_within n notes exec params h x k = omega arith

action_parts : (n notes exec params : ℕ) → action_depth notes exec params ≤ suc (suc (suc n)) → (notes ≤ suc n) × (params ≤ suc n)
action_parts n notes exec params h = (omega arith, omega arith)

package_within : (n notes binding params : ℕ) → binding ≡ 1 → notes ≤ suc n → params ≤ suc n → package_depth notes binding params ≤ suc (suc (suc n))
package_within n notes binding params e h k = omega arith

package_parts : (n notes binding params : ℕ) → package_depth notes binding params ≤ suc (suc (suc n)) → (notes ≤ suc n) × (params ≤ suc n)
package_parts n notes binding params h = (omega arith, omega arith)

rule_within : (n notes : ℕ) → notes ≤ suc n → rule_depth notes ≤ suc (suc (suc n))
rule_within n notes h = omega arith

rule_parts : (n notes : ℕ) → rule_depth notes ≤ suc (suc (suc n)) → notes ≤ suc n
rule_parts n notes h = omega arith

trigger_within : (n notes params : ℕ) → notes ≤ suc n → params ≤ suc n → trigger_depth notes params ≤ suc (suc (suc n))
trigger_within n notes params h k = omega arith

trigger_parts : (n notes params : ℕ) → trigger_depth notes params ≤ suc (suc (suc n)) → (notes ≤ suc n) × (params ≤ suc n)
trigger_parts n notes params h = (omega arith, omega arith)

binding_depth : (o : Option FullName) → depth (binding_value o) ≡ 1
binding_depth None = refl
binding_depth (Some bound) = refl

-- the values of pairs nest three less deep than a body that lists them, or than a row that is written of them
abbrev pub most_within : ℕ
most_within = 97

names_depth : (ns : List FullName) → items_depth (items_of (map name_value ns)) ≡ 0
names_depth [] = refl
names_depth (n ∷ ns) = ap (λ d. max 0 d) (names_depth ns)

exec_depth : (x : Exec) → depth (exec_value x) ≤ 2
exec_depth (execs.Plain code) = omega arith
exec_depth (execs.Program code) = omega arith
exec_depth (execs.Sequence components) = let texts = names_depth components in omega (arith, texts)

action_written : (a : Action) → AreWithin most_within a.params → AreWithin most_within a.notes → depth (action_value a) ≤ most_nested
action_written a params notes =
    action_within most_within (nested a.notes) (depth (exec_value a.exec)) (nested a.params) (nested_within most_within a.notes notes) (exec_depth a.exec) (nested_within most_within a.params params)

action_read : (a : Action) → depth (action_value a) ≤ most_nested → AreWithin most_within a.params × AreWithin most_within a.notes
action_read a h =
    let parts = action_parts most_within (nested a.notes) (depth (exec_value a.exec)) (nested a.params) h in
    (within_nested most_within a.params parts.1, within_nested most_within a.notes parts.0)

package_written : (p : Package) → AreWithin most_within p.params → AreWithin most_within p.notes → depth (package_value p) ≤ most_nested
package_written p params notes =
    package_within most_within (nested p.notes) (depth (binding_value p.binding)) (nested p.params) (binding_depth p.binding) (nested_within most_within p.notes notes) (nested_within most_within p.params params)

package_read : (p : Package) → depth (package_value p) ≤ most_nested → AreWithin most_within p.params × AreWithin most_within p.notes
package_read p h =
    let parts = package_parts most_within (nested p.notes) (depth (binding_value p.binding)) (nested p.params) h in
    (within_nested most_within p.params parts.1, within_nested most_within p.notes parts.0)

rule_written : (r : Rule) → AreWithin most_within r.notes → depth (rule_value r) ≤ most_nested
rule_written r notes = rule_within most_within (nested r.notes) (nested_within most_within r.notes notes)

rule_read : (r : Rule) → depth (rule_value r) ≤ most_nested → AreWithin most_within r.notes
rule_read r h = within_nested most_within r.notes (rule_parts most_within (nested r.notes) h)

trigger_written : (t : Trigger) → AreWithin most_within t.params → AreWithin most_within t.notes → depth (trigger_value t) ≤ most_nested
trigger_written t params notes = trigger_within most_within (nested t.notes) (nested t.params) (nested_within most_within t.notes notes) (nested_within most_within t.params params)

pub trigger_read : (t : Trigger) → depth (trigger_value t) ≤ most_nested → AreWithin most_within t.params × AreWithin most_within t.notes
trigger_read t h =
    let parts = trigger_parts most_within (nested t.notes) (nested t.params) h in
    (within_nested most_within t.params parts.1, within_nested most_within t.notes parts.0)

-- ---- a row that is writable, as what it holds

good_from : (name : FullName) (r : Row) → IsWritable r → name_of r ≡ name → IsGoodRow most_within name r
unfolding row_value
good_from name (rows.Action a) h e =
    let parts = action_read a (leb-true (depth (action_value a)) most_nested h.shallow) in
    let counted = and_parts (is_version a.version) (are_few (components_of a.exec) && are_written a.name.namespace (components_of a.exec)) h.entity in
    let listed = and_parts (are_few (components_of a.exec)) (are_written a.name.namespace (components_of a.exec)) counted.1 in
    record {
      name_is = e;
      exec = subst (λ (m : FullName). IsExecWritten m.namespace a.exec) e listed.1;
      version = counted.0;
      params = parts.0;
      notes = parts.1;
    }
good_from name (rows.Package p) h e =
    let parts = package_read p (leb-true (depth (package_value p)) most_nested h.shallow) in
    let counted = and_parts (is_version p.version) (stands_alone p.name && is_binding p.name.namespace p.binding) h.entity in
    let named = and_parts (stands_alone p.name) (is_binding p.name.namespace p.binding) counted.1 in
    record {
      name_is = e;
      alone = subst (λ (m : FullName). stands_alone m ≡ true) e named.0;
      version = counted.0;
      params = parts.0;
      notes = parts.1;
      binding = subst (λ (m : FullName). is_binding m.namespace p.binding ≡ true) e named.1;
    }
good_from name (rows.Rule r) h e =
    let counted = and_parts (is_version r.version) (stands_alone r.name && (is_written r.name.namespace r.trigger && is_written r.name.namespace r.action)) h.entity in
    let named = and_parts (stands_alone r.name) (is_written r.name.namespace r.trigger && is_written r.name.namespace r.action) counted.1 in
    let joins = and_parts (is_written r.name.namespace r.trigger) (is_written r.name.namespace r.action) named.1 in
    record {
      name_is = e;
      alone = subst (λ (m : FullName). stands_alone m ≡ true) e named.0;
      version = counted.0;
      notes = rule_read r (leb-true (depth (rule_value r)) most_nested h.shallow);
      trigger = subst (λ (m : FullName). IsWritten m.namespace r.trigger) e joins.0;
      action = subst (λ (m : FullName). IsWritten m.namespace r.action) e joins.1;
    }
good_from name (rows.Trigger t) h e =
    let parts = trigger_read t (leb-true (depth (trigger_value t)) most_nested h.shallow) in
    let counted = and_parts (is_version t.version) (stands_alone t.name) h.entity in
    record {
      name_is = e;
      alone = subst (λ (m : FullName). stands_alone m ≡ true) e counted.1;
      version = counted.0;
      params = parts.0;
      notes = parts.1;
    }

writable_from : (name : FullName) (r : Row) → IsGoodRow most_within name r → IsShort r → IsWritable r
unfolding row_value
writable_from name (rows.Action a) h short = record {
  shallow = le-leb (depth (action_value a)) most_nested (action_written a h.params h.notes);
  entity = and_from (is_version a.version) (are_few (components_of a.exec) && are_written a.name.namespace (components_of a.exec)) h.version
      (and_from (are_few (components_of a.exec)) (are_written a.name.namespace (components_of a.exec)) short
      (subst (λ (m : FullName). IsExecWritten m.namespace a.exec) (sym h.name_is) h.exec));
}
writable_from name (rows.Package p) h short = record {
  shallow = le-leb (depth (package_value p)) most_nested (package_written p h.params h.notes);
  entity = and_from (is_version p.version) (stands_alone p.name && is_binding p.name.namespace p.binding) h.version
      (and_from (stands_alone p.name) (is_binding p.name.namespace p.binding) (subst (λ (m : FullName). stands_alone m ≡ true) (sym h.name_is) h.alone)
      (subst (λ (m : FullName). is_binding m.namespace p.binding ≡ true) (sym h.name_is) h.binding));
}
writable_from name (rows.Rule r) h short = record {
  shallow = le-leb (depth (rule_value r)) most_nested (rule_written r h.notes);
  entity = and_from (is_version r.version) (stands_alone r.name && (is_written r.name.namespace r.trigger && is_written r.name.namespace r.action)) h.version
      (and_from (stands_alone r.name) (is_written r.name.namespace r.trigger && is_written r.name.namespace r.action) (subst (λ (m : FullName). stands_alone m ≡ true) (sym h.name_is) h.alone)
      (and_from (is_written r.name.namespace r.trigger) (is_written r.name.namespace r.action)
      (subst (λ (m : FullName). IsWritten m.namespace r.trigger) (sym h.name_is) h.trigger)
      (subst (λ (m : FullName). IsWritten m.namespace r.action) (sym h.name_is) h.action)));
}
writable_from name (rows.Trigger t) h short = record {
  shallow = le-leb (depth (trigger_value t)) most_nested (trigger_written t h.params h.notes);
  entity = and_from (is_version t.version) (stands_alone t.name) h.version (subst (λ (m : FullName). stands_alone m ≡ true) (sym h.name_is) h.alone);
}

old_good : (name : FullName) (o : Option Row) → IfSome o (λ (r : Row). IsWritable r × (name_of r ≡ name)) → IfSome o (IsGoodRow most_within name)
old_good name None h = tt
old_good name (Some r) h = good_from name r h.0 h.1

pub rows_writable : (kind : EntityKind) (name : FullName) (body : V) (d : Draft) (old : Option Row) (r : Row)
    → IsPlaced kind name → depth body ≤ most_nested → entity_of kind name body ≡ Ok d → finished_row d old ≡ Ok r → IfSome old (λ (o : Row). IsWritable o × (name_of o ≡ name)) → IsShort r → IsWritable r
rows_writable kind name body d old r placed within drafted finished before short =
    let good : IsGoodDraft most_within name d = subst (λ (x : Result Draft EntityRefusal). IfOk x (IsGoodDraft most_within name)) drafted (bodies_good most_within kind name body placed within) in
    let made : IsGoodRow most_within name r = subst (λ (x : Result Row EntityRefusal). IfOk x (IsGoodRow most_within name)) finished (rows_good most_within name d old good (old_good name old before)) in
    writable_from name r made short
