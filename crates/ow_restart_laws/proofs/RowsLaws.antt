-- Rows that last still do after what is decided.
use Rattle.std.proofs.Common.{◌≡◌, ◌≤◌, ◌+◌, ◌&&◌, ◌++◌, ℕ, List, [], ◌∷◌, Bool, true, false, cond, length, map, nat_le, nat_lt, not, IfSome, IfOk, Option, Some, None, Result, Ok, Err, Ordering, Less, Equal, Greater, refl, sym, ◌∙◌, subst, arith}
use Rattle.std.specs.List.{AllByRecursion}
use Rattle.std.specs.Ordering.{match_ordering}
use Rattle.std.proofs.lemmas.Bool.{and_parts, le-leb, leb-true, ltb-false}
use Rattle.std.proofs.lemmas.Option.{IfSome_then}
use Rattle.std.proofs.lemmas.Slice.Eq.{bytes_eq-Decides}
use Rattle.ow_value.specs.Nesting.{most_nested}
use Rattle.ow_value.specs.Read.{json_of, reading, whole_of}
use Rattle.ow_value.specs.Value.{V, depth, text_cmp}
use Rattle.ow_value.specs.declared.reader.ValueRefusal.{ValueRefusal}
use Rattle.ow_value.specs.declared.reader.ValueRefusal.TheVariants.{TooDeep}
use Rattle.ow_names.specs.FullName.{IsFullName, full_text}
use Rattle.ow_names.specs.Name.{IsName, first_fault}
use Rattle.ow_names.specs.Path.{home, named, named_in, or_fault}
use Rattle.ow_names.specs.declared.full.FullName.{FullName}
use Rattle.ow_names.specs.declared.refusal.NameRefusal.{NameRefusal}
use Rattle.ow_names.proofs.PathLaws.{full_text-inj}
use Rattle.ow_entity.specs.Body.{entity_of}
use Rattle.ow_entity.specs.Chain.{first_some}
use Rattle.ow_entity.specs.Exec.{components_of}
use Rattle.ow_entity.specs.Finish.{as_rule, finished_row}
use Rattle.ow_entity.specs.Given.{AreGiven, IsGiven, IsPlaced}
use Rattle.ow_entity.specs.Row.{draft_kind, draft_name, name_of}
use Rattle.ow_entity.specs.Written.{row_value}
use Rattle.ow_entity.specs.declared.kinds.EntityKind.{EntityKind}
use Rattle.ow_entity.specs.declared.kinds.EntityKind.TheVariants as kinds
use Rattle.ow_entity.specs.declared.refusal.EntityRefusal.{EntityRefusal}
use Rattle.ow_entity.specs.declared.rows.Draft.{Draft}
use Rattle.ow_entity.specs.declared.rows.Row.{Row}
use Rattle.ow_entity.specs.declared.rows.Row.TheVariants as rows
use Rattle.ow_entity.specs.declared.rules.Rule.{Rule}
use Rattle.ow_records.specs.declared.record.Record.{Record}
use Rattle.ow_floor.specs.Calls.{due_in}
use Rattle.ow_floor.specs.Trace.{Trace}
use Rattle.ow_floor.specs.declared.activations.Plan.{Plan}
use Rattle.ow_http.specs.CallKind.{entity_kind, kind_of as call_kind}
use Rattle.ow_http.specs.CallOf.{active_of, as_call, bare_call, body_draft, body_value, call_of_kind, checked, checked_query, draft_of, filled_call, name_of as path_name, package_for, params_of}
use Rattle.ow_http.specs.Pair.{Pair}
use Rattle.ow_http.specs.Parts.{Parts}
use Rattle.ow_http.specs.Request.{parts_of}
use Rattle.ow_http.specs.Steps.{◌>>=◌}
use Rattle.ow_http.specs.declared.call.Call.{Call}
use Rattle.ow_http.specs.declared.call_kind.CallKind.{CallKind}
use Rattle.ow_http.specs.declared.call_kind.CallKind.TheVariants.{ListEntities, ListActivations, PutEntity, Invoke}
use Rattle.ow_http.specs.declared.call_refusal.CallRefusal.{CallRefusal}
use Rattle.ow_http.specs.declared.call_refusal.CallRefusal.TheVariants.{BadEntity, BadName, BadValue}
use Rattle.ow_http.specs.declared.reason.Reason.{Reason}
use Rattle.ow_http.specs.declared.route.Route.{Route}
use Rattle.ow_http.specs.declared.route.Route.TheVariants as route
use Rattle.ow_http.specs.declared.verb.Verb.{Verb}
use Rattle.ow_http.specs.declared.verb.Verb.TheVariants as verb
use Rattle.ow_row_text.specs.Sorted.{Entries}
use Rattle.ow_row_text.specs.Unchanged.{is_unchanged}
use Rattle.ow_row_text.specs.declared.item.Item.{Item}
use Rattle.ow_row_text.specs.declared.item.Item.TheVariants as items
use Rattle.ow_keep.specs.Allowed.{is_entity, stands_alone}
use Rattle.ow_keep.specs.Judged.{judged}
use Rattle.ow_keep.specs.Kept.{MayStand}
use Rattle.ow_keep.specs.Split.{Parts as KeptParts, split}
use Rattle.ow_keep.proofs.Whole.{judged-sound}
use Rattle.ow_keep.proofs.Deep.{of_data, whole_within}
use Rattle.ow_commits.specs.Opening.{resumed_records}
use Rattle.ow_commits.proofs.Knowing.{picked}
use Rattle.ow_rules.specs.Status.{has_status, status_change, with_status}
use Rattle.ow_tables.specs.Builtin.{builtin, is_builtin}
use Rattle.ow_tables.specs.Refusal.{exists_refusal, finish_refusal, old_row, package_refusal, put_refusal, rule_refusal, target_of, target_refusal}
use Rattle.ow_tables.specs.Sequences.{long_refusal, loop_refusal, sequence_refusal}
use Rattle.ow_tables.specs.declared.refusal.TableRefusal.TheVariants.{SequenceTooLong}
use Rattle.ow_tables.specs.declared.sequences.TheConstants.{MOST_COMPONENTS}
use Rattle.ow_tables.specs.Joined.{rule_at}
use Rattle.ow_tables.specs.Contents.{Change}
use Rattle.ow_tables.specs.Rows.{changed, found, is_row, key, key_of, standing, with_row, without}
use Rattle.ow_tables.proofs.BuiltinLaws.{echo_full, utils_full}
use Rattle.ow_value.specs.ByText.{ByText, value_at}
use Rattle.ow_tenant.specs.Table.{Table, AreHomes}
use Rattle.ow_tenant.specs.Tenants.{holder_of}
use Rattle.ow_tenant.specs.declared.entries.Holder.{Holder}
use Rattle.ow_tenant.proofs.HomeLaws.{some_if}
use Rattle.ow_decide.specs.Asking.{ask_decision, put_of, request_done}
use Rattle.ow_decide.specs.Calling.{admitted_plan, call_plan, called_decision}
use Rattle.ow_commits.specs.Kept.{OthersView}
use Rattle.ow_row_text.specs.declared.item.Note.{Note}
use Rattle.ow_decide.specs.Decision.{all_changed}
use Rattle.ow_decide.specs.Deploying.{Progress, begun, deploy_decision, deployed, drafted_row, put_over, with_put}
use Rattle.ow_decide.specs.Decisions.{archived_until, decide, sweep_by, sweep_with, swept_all, swept_told}
use Rattle.ow_decide.specs.Opening.{are_resumable, is_fresh, opened_decision, parts_taken, taken_if}
use Rattle.ow_decide.specs.Given.{IsGivenEvent}
use Rattle.ow_decide.specs.OfficeFiring.{Shot, office_decision, office_shot}
use Rattle.ow_decide.specs.Sight.{Sight}
use Rattle.ow_reads.specs.Steps.{or_else}
use Rattle.ow_reads.specs.Tenants.{asker}
use Rattle.ow_decide.specs.declared.events.Event.{Event}
use Rattle.ow_decide.specs.declared.events.Event.TheVariants as events
use Rattle.ow_decide.specs.declared.events.Told.{Told}
use Rattle.ow_decide.specs.declared.events.Told.TheVariants as told
use Rattle.ow_decide.proofs.DeployLaws.{deploy_rows, drafted_parts, drafts_keep}
use Rattle.ow_decide.proofs.Finished.{finished_named}
use Rattle.ow_decide.proofs.RowLaws.{request_rows}
use Rattle.ow_hall.proofs.Joined.{ok_of}
use Rattle.ow_restart_laws.specs.Bodies.{RowsOfBodies}
use Rattle.ow_restart_laws.specs.RowsKept.{IsShort}
use Rattle.ow_packages.specs.Access.{package_of}
use Rattle.ow_restart_laws.specs.Lasting.{AreWritable, IsLasting, IsLastingRow}
use Rattle.ow_restart_laws.specs.Laws.{RowsLast}
use Rattle.ow_restart_laws.proofs.Callees.{found_lasts}
use Rattle.ow_restart_laws.proofs.Each.{all_found}
use Rattle.ow_restart_laws.proofs.Names.{IsNamedItem, after, after_any, entity_named, judged_items, named_in_full}

-- ---- the rows from the start

pub builtin_writable : AreWritable builtin
unfolding row_value
builtin_writable = (
  record { lasts = record { shallow = refl; fit = refl }; named = echo_full },
  (record { lasts = record { shallow = refl; fit = refl }; named = utils_full }, tt),
)

-- ---- changes of rows

with_by : (P : Row → Type 0) (r x : Row) (xs : List Row) (o : Ordering) → P r → P x → AllByRecursion P xs → AllByRecursion P (with_row r xs)
    → AllByRecursion P (match_ordering o (r ∷ x ∷ xs) (r ∷ xs) (x ∷ with_row r xs))
with_by P r x xs Less h k all rest = (h, (k, all))
with_by P r x xs Equal h k all rest = (h, all)
with_by P r x xs Greater h k all rest = (k, rest)

all_with : (P : Row → Type 0) (r : Row) (rs : List Row) → P r → AllByRecursion P rs → AllByRecursion P (with_row r rs)
all_with P r [] h all = (h, tt)
all_with P r (x ∷ xs) h all = with_by P r x xs (text_cmp (key_of r) (key_of x)) h all.0 all.1 (all_with P r xs h all.1)

-- each of these is put
all_put : (es rs : List Row) → AreWritable es → AreWritable rs → AreWritable (all_changed (map put_of es) rs)
all_put [] rs h all = all
all_put (e ∷ es) rs h all = all_put es (with_row e rs) h.1 (all_with IsLastingRow e rs h.0 all)

-- ---- an opening

stands_so : (all : Entries) (r : Row) → MayStand all (items.Row r) → IsFullName (name_of r) → IsLastingRow r
stands_so all r h n = record { lasts = record { shallow = h.shallow; fit = (and_parts (is_entity r) (not (is_builtin r)) h.allowed).0 }; named = n }

entities_so : (all : Entries) (is : List Item) → AllByRecursion (MayStand all) is → AllByRecursion IsNamedItem is → AreWritable (split is).entities
entities_so all [] h n = tt
entities_so all (items.Version v ∷ is) h n = entities_so all is h.1 n.1
entities_so all (items.Archive a ∷ is) h n = entities_so all is h.1 n.1
entities_so all (items.Note x ∷ is) h n = entities_so all is h.1 n.1
entities_so all (items.Count namespace count ∷ is) h n = entities_so all is h.1 n.1
entities_so all (items.Row r ∷ is) h n = (stands_so all r h.0 n.0, entities_so all is h.1 n.1)
entities_so all (items.Open u ∷ is) h n = entities_so all is h.1 n.1
entities_so all (items.Done r ∷ is) h n = entities_so all is h.1 n.1

read_by : (all : Entries) (g : Result (List Item) (List ℕ)) → judged all ≡ g → IfOk g (AllByRecursion IsNamedItem) → IfOk g (λ (is : List Item). AreWritable (split is).entities)
read_by all (Ok is) e n = entities_so all is (judged-sound all is e).each n
read_by all (Err key) e n = tt

-- of rows that are judged good the entities last
pub rows_read : (all : Entries) → IfOk (judged all) (λ (is : List Item). AreWritable (split is).entities)
rows_read all = read_by all (judged all) refl (judged_items all)

taken_rows : (at : ℕ) (b : Bool) (parts : KeptParts) (rs : List Row) → AreWritable parts.entities → AreWritable rs → AreWritable (all_changed (opened_decision at (taken_if b parts)).changes rs)
taken_rows at true parts rs h all = all_put parts.entities rs h all
taken_rows at false parts rs h all = all

opened_rows : (at : ℕ) (T : Trace) (g : Result (List Item) (List ℕ)) (rs : List Row) → IfOk g (λ (is : List Item). AreWritable (split is).entities) → AreWritable rs
    → AreWritable (all_changed (opened_decision at (parts_taken at T g)).changes rs)
opened_rows at T (Ok is) rs h all =
    taken_rows at (is_fresh T && are_resumable (split is).counts (resumed_records at (split is).unrecorded (split is).records)) (split is) rs h all
opened_rows at T (Err key) rs h all = all

-- ---- what is read of a body

abbrev IsWithin : ℕ → Result V ValueRefusal → Type 0
IsWithin limit r = IfOk r (λ (v : V). depth v ≤ limit)

within_by : (limit : ℕ) (v : V) (b : Bool) → nat_le (depth v) limit ≡ b → IsWithin limit (cond b (Ok v) (Err TooDeep))
within_by limit v true e = leb-true (depth v) limit e
within_by limit v false e = tt

whole_is_within : (limit : ℕ) (o : Option V) → IsWithin limit (whole_within limit o)
whole_is_within limit None = tt
whole_is_within limit (Some v) = within_by limit v (nat_le (depth v) limit) refl

module _ {D : Type 0} (value : D → Option V) where
  data_is_within : (limit : ℕ) (o : Option D) → IsWithin limit (of_data value limit o)
  data_is_within limit None = tt
  data_is_within limit (Some d) = whole_is_within limit (value d)

reading_within : (limit : ℕ) (s : List ℕ) → IsWithin limit (reading limit s)
reading_within limit s = data_is_within whole_of limit (json_of s)

pub body_within : (body : List ℕ) → IsWithin most_nested (body_value body)
body_within [] = omega arith
body_within (b ∷ bs) = reading_within most_nested (b ∷ bs)

-- ---- the draft of a call

abbrev IsGivenSome : Option Draft → Type 0
IsGivenSome o = IfSome o IsGiven

-- what is put is placed as its kind is
abbrev IsPlacedBy : CallKind → FullName → Type 0
IsPlacedBy (PutEntity kind) name = IsPlaced kind name
IsPlacedBy kind name = Unit {0}

abbrev IsPathName : CallKind → Option FullName → Type 0
IsPathName kind o = IfSome o (λ name. IsFullName name × IsPlacedBy kind name)

abbrev IsGivenCall : Call → Type 0
IsGivenCall c = IsGivenSome c.draft

pub called : {A B E : Type 0} (M : A → Type 0) (N : B → Type 0) (ok : A → B) (err : E → CallRefusal) (r : Result A E) → ((x : A) → M x → N (ok x)) → IfOk r M → IfOk (as_call ok err r) N
called M N ok err (Ok x) f h = f x h
called M N ok err (Err e) f h = tt

entity_given : (kind : EntityKind) (name : FullName) (v : V) (g : Result Draft EntityRefusal) → entity_of kind name v ≡ g → depth v ≤ most_nested → IsFullName name → IsPlaced kind name
    → IfOk (as_call Some BadEntity g) IsGivenSome
entity_given kind name v (Ok d) e within full placed = record { kind = kind; name = name; body = v; within = within; drafted = e; full = full; placed = placed }
entity_given kind name v (Err x) e within full placed = tt

body_given : (kind : EntityKind) (name : FullName) (body : List ℕ) → IsFullName name → IsPlaced kind name → IfOk (body_draft kind name body) IsGivenSome
body_given kind name body full placed =
    after (λ (v : V). depth v ≤ most_nested) IsGivenSome (as_call (λ (v : V). v) BadValue (body_value body)) (λ (v : V). as_call Some BadEntity (entity_of kind name v))
    (called (λ (v : V). depth v ≤ most_nested) (λ (v : V). depth v ≤ most_nested) (λ (v : V). v) BadValue (body_value body) (λ v h. h) (body_within body))
    (λ v h. entity_given kind name v (entity_of kind name v) refl h full placed)

draft_given : (kind : CallKind) (o : Option FullName) (body : List ℕ) → IsPathName kind o → IfOk (draft_of kind o body) IsGivenSome
draft_given (PutEntity kind) (Some name) body h = body_given kind name body h.0 h.1
draft_given kind o body h = tt

any_ok : {A E : Type 0} (r : Result A E) → IfOk r (λ (x : A). Unit {0})
any_ok (Ok x) = tt
any_ok (Err e) = tt

both_ok : {A E : Type 0} (P Q : A → Type 0) (r : Result A E) → IfOk r P → IfOk r Q → IfOk r (λ x. P x × Q x)
both_ok P Q (Ok x) h k = (h, k)
both_ok P Q (Err e) h k = tt

or_kept : (P : FullName → Type 0) (o : Option NameRefusal) (r : Result FullName NameRefusal) → IfOk r P → IfOk (or_fault o r) P
or_kept P None r h = h
or_kept P (Some fault) r h = tt

in_alone : (here namespace name : List ℕ) → IfOk (named_in here namespace None name) (λ (n : FullName). stands_alone n ≡ true)
in_alone here namespace name =
    or_kept (λ (n : FullName). stands_alone n ≡ true) (first_fault namespace) (named (home here namespace) None name)
    (or_kept (λ (n : FullName). stands_alone n ≡ true) (first_fault name) (Ok (record { namespace = home here namespace; «package» = None; name = name })) refl)

-- only actions are named in packages
in_placed : (here namespace : List ℕ) (kind : EntityKind) (inside : Option (List ℕ)) (name : List ℕ) → IfOk (named_in here namespace (package_for kind inside) name) (IsPlaced kind)
in_placed here namespace kinds.Action inside name = any_ok (named_in here namespace inside name)
in_placed here namespace kinds.Package inside name = in_alone here namespace name
in_placed here namespace kinds.Rule inside name = in_alone here namespace name
in_placed here namespace kinds.Trigger inside name = in_alone here namespace name

placed_by : (kind : EntityKind) (method : Verb) (name : FullName) → IsPlaced kind name → IsPlacedBy (entity_kind kind method) name
placed_by kind verb.Get name h = tt
placed_by kind verb.Put name h = h
placed_by kind verb.Delete name h = tt
placed_by kinds.Action verb.Post name h = tt
placed_by kinds.Package verb.Post name h = tt
placed_by kinds.Rule verb.Post name h = tt
placed_by kinds.Trigger verb.Post name h = tt
placed_by kind verb.Patch name h = tt
placed_by kind verb.Options name h = tt

path_full : (here : List ℕ) (r : Route) (method : Verb) → IsName here → IfOk (path_name here r) (IsPathName (call_kind r method))
path_full here (route.Entity namespace kind inside name) method h =
    called (λ (n : FullName). IsFullName n × IsPlaced kind n) (IsPathName (entity_kind kind method)) Some BadName (named_in here namespace (package_for kind inside) name)
    (λ n f. (f.0, placed_by kind method n f.1))
    (both_ok IsFullName (IsPlaced kind) (named_in here namespace (package_for kind inside) name) (named_in_full here namespace (package_for kind inside) name h) (in_placed here namespace kind inside name))
path_full here (route.List namespace kind) method h =
    after_any (IsPathName (call_kind (route.List namespace kind) method)) (checked BadName (first_fault namespace)) (λ (right : Unit {0}). Ok None) (λ right. tt)
path_full here (route.Activations namespace) method h =
    after_any (IsPathName (call_kind (route.Activations namespace) method)) (checked BadName (first_fault namespace)) (λ (right : Unit {0}). Ok None) (λ right. tt)
path_full here other method h = tt

filled_given : (kind : CallKind) (query : List Pair) (c : Call) → IsGivenCall c → IsGivenCall (filled_call kind query c)
filled_given (ListEntities kind) query c h = h
filled_given ListActivations query c h = h
filled_given (PutEntity kind) query c h = h
filled_given Invoke query c h = h
filled_given kind query c h = h

call_given : (here : List ℕ) (p : Parts) → IsName here → IfOk (call_of_kind here (call_kind p.route p.method) p) IsGivenCall
call_given here p h =
    let kind = call_kind p.route p.method in
    after_any IsGivenCall (checked_query kind p.query) _ (λ right.
    after (IsPathName kind) IsGivenCall (path_name here p.route) _ (path_full here p.route p.method h) (λ name full.
    after IsGivenSome IsGivenCall (draft_of kind name p.body) _ (draft_given kind name p.body full) (λ draft given.
    after_any IsGivenCall (params_of kind p.body) _ (λ params.
    after_any IsGivenCall (active_of kind p.body) _ (λ active. filled_given kind p.query (bare_call kind name draft params active) given)))))

-- ---- the row that a draft is put over

tail_same : (a b : ℕ) (s t : List ℕ) → a ∷ s ≡ b ∷ t → t ≡ s
tail_same a b s t e = cc

found_named : (kind : EntityKind) (name : FullName) (r : Row) → IsFullName name → IsFullName (name_of r) → is_row kind name r ≡ true → name_of r ≡ name
found_named kind name r full named e =
    full_text-inj (name_of r) name named full (tail_same _ _ (full_text name) (full_text (name_of r)) ((bytes_eq-Decides (key kind name) (key_of r)).0 e))

old_lasts : (d : Draft) (name : FullName) (rs : List Row) → IsFullName name → draft_name d ≡ name → AreWritable rs → IfSome (old_row d rs) (λ (o : Row). IsLasting (items.Row o) × (name_of o ≡ name))
old_lasts d name rs full e all =
    IfSome_then (old_row d rs) (all_found IsLastingRow (is_row (draft_kind d) (draft_name d)) rs all)
    (λ r h. (h.0.lasts, found_named (draft_kind d) (draft_name d) r (subst IsFullName (sym e) full) h.0.named h.1 ∙ e))

-- ---- the lookup of the caller

values_all : {W : Type 0} (P : W → Type 0) (text : List ℕ) (es : ByText W) → AllByRecursion (λ (e : List ℕ × W). P e.1) es → IfSome (value_at text es) P
values_all P text [] all = tt
values_all P text (e ∷ es) all = some_if P _ (Some e.1) (value_at text es) all.0 (values_all P text es all.1)

some_or_else : {X : Type 0} (P : X → Type 0) (o : Option X) (reason : Reason) → IfSome o P → IfOk (or_else o reason) P
some_or_else P None reason h = tt
some_or_else P (Some x) reason h = h

holder_home : (t : Table) (key : Option (List ℕ)) → AreHomes t → IfSome (holder_of key t) (λ (h : Holder). IsName h.home)
holder_home t None homes = tt
holder_home t (Some key) homes = values_all (λ (h : Holder). IsName h.home) key t.keys homes

asker_home : (t : Table) (key : Option (List ℕ)) → AreHomes t → IfOk (asker t key) (λ (h : Holder). IsName h.home)
asker_home t key homes = some_or_else (λ (h : Holder). IsName h.home) (holder_of key t) _ (holder_home t key homes)

-- ---- the status of a rule

as_rule_good : (o : Option Row) → IfSome o IsLastingRow → IfSome (as_rule o) (λ (r : Rule). IsLastingRow (rows.Rule r))
as_rule_good None h = tt
as_rule_good (Some (rows.Action a)) h = tt
as_rule_good (Some (rows.Package p)) h = tt
as_rule_good (Some (rows.Rule r)) h = h
as_rule_good (Some (rows.Trigger t)) h = tt

rule_good : (name : FullName) (r : Rule) (rs : List Row) → AreWritable rs → rule_at (standing rs) name ≡ Some r → IsLastingRow (rows.Rule r)
rule_good name r rs all is =
    subst (λ (o : Option Rule). IfSome o (λ x. IsLastingRow (rows.Rule x))) is (as_rule_good (found kinds.Rule name rs) (found_lasts (is_row kinds.Rule name) rs all))

set_lasts : (r : Rule) (active : Bool) → IsLastingRow (rows.Rule r) → IsLastingRow (rows.Rule (with_status active r))
unfolding row_value
set_lasts r active h = record { lasts = record { shallow = h.lasts.shallow; fit = h.lasts.fit }; named = h.named }

set_so : (r : Rule) (active : Bool) (c : Change) (b : Bool) → cond b None (Some (put_of (rows.Rule (with_status active r)))) ≡ Some c → put_of (rows.Rule (with_status active r)) ≡ c
set_so r active c true is = cc
set_so r active c false is = cc

-- ---- the components of a row that is put

first_none : {X : Type 0} (a b : Option X) → first_some (a ∷ b ∷ []) ≡ None → a ≡ None
first_none None b none = refl
first_none (Some x) b none = cc

last_none : {X : Type 0} (a b c d e f : Option X) → first_some (a ∷ b ∷ c ∷ d ∷ e ∷ f ∷ []) ≡ None → f ≡ None
last_none None None None None None None none = refl
last_none None None None None None (Some x) none = cc
last_none None None None None (Some x) f none = cc
last_none None None None (Some x) e f none = cc
last_none None None (Some x) d e f none = cc
last_none None (Some x) c d e f none = cc
last_none (Some x) b c d e f none = cc

few_by : (n : ℕ) (b : Bool) → nat_lt MOST_COMPONENTS n ≡ b → cond b (Some SequenceTooLong) None ≡ None → nat_le n MOST_COMPONENTS ≡ true
few_by n true e none = cc
few_by n false e none = le-leb n MOST_COMPONENTS (ltb-false MOST_COMPONENTS n e)

few_of : (rs : List Row) (r : Row) → sequence_refusal rs (Ok r) ≡ None → IsShort r
few_of rs (rows.Action a) none =
    few_by (length (components_of a.exec)) (nat_lt MOST_COMPONENTS (length (components_of a.exec))) refl (first_none (long_refusal a) (loop_refusal (standing rs) (length rs) a) none)
few_of rs (rows.Package p) none = tt
few_of rs (rows.Rule r) none = tt
few_of rs (rows.Trigger t) none = tt

-- what may be put has no more components than a put allows
put_short : (d : Draft) (overwrite : Bool) (rs : List Row) (r : Row) → put_refusal d overwrite rs ≡ None → finished_row d (old_row d rs) ≡ Ok r → IsShort r
put_short d overwrite rs r none made =
    let fits = last_none (rule_refusal d rs) (package_refusal (package_of (draft_name d)) rs) (target_refusal (target_of d) (draft_name d).namespace rs)
    (exists_refusal overwrite (old_row d rs)) (finish_refusal d (old_row d rs)) (sequence_refusal rs (finished_row d (old_row d rs))) none in
    few_of rs r (subst (λ (x : Result Row EntityRefusal). sequence_refusal rs x ≡ None) made fits)

-- ---- what is done

made_over : RowsOfBodies → (rs : List Row) → AreWritable rs → (d : Draft) (r : Row) → IsGiven d → IsShort r → finished_row d (old_row d rs) ≡ Ok r → IsLastingRow r
made_over core rs all d r g short e =
    let drafted : draft_name d ≡ g.name = ok_of (λ (x : Draft). draft_name x ≡ g.name) (entity_of g.kind g.name g.body) d g.drafted (entity_named g.kind g.name g.body) in
    let called_so : name_of r ≡ draft_name d = ok_of (λ (x : Row). name_of x ≡ draft_name d) (finished_row d (old_row d rs)) r e (finished_named d (old_row d rs)) in
    record {
      lasts = core g.kind g.name g.body d (old_row d rs) r g.placed g.within g.drafted e (old_lasts d g.name rs g.full drafted all) short;
      named = subst IsFullName (sym (called_so ∙ drafted)) g.full;
    }

-- a row that a deployment puts lasts, and so do the rows with it, or those that are left as they are
put_over_good : RowsOfBodies → (t : Table) (d : Draft) (row : Row) (p : Progress) → IsGiven d → AreWritable p.rows → drafted_row t p.rows d ≡ Ok row
    → AreWritable (put_over (old_row d p.rows) row p).rows
put_over_good core t d row p given good is = by_old (old_row d p.rows)
  where
    with_it : AreWritable (with_row row p.rows)
    with_it =
        let parts = drafted_parts t p.rows d row is in
        all_with IsLastingRow row p.rows (made_over core p.rows good d row given (put_short d true p.rows row parts.0 parts.1) parts.1) good

    by_test : (b : Bool) → AreWritable (cond b (record p { same = p.same + 1 }) (record (with_put row p) { changed = p.changed + 1 })).rows
    by_test true = good
    by_test false = with_it

    by_old : (old : Option Row) → AreWritable (put_over old row p).rows
    by_old None = with_it
    by_old (Some old) = by_test (is_unchanged old row)

module _ (core : RowsOfBodies) (S : Sight) (all : AreWritable S.rows) where
  made : (d : Draft) (r : Row) → IsGiven d → IsShort r → finished_row d (old_row d S.rows) ≡ Ok r → IsLastingRow r
  made d r g short e = made_over core S.rows all d r g short e

  put_good : (c : Call) (d : Draft) (r : Row) → IsGivenCall c → c.draft ≡ Some d → put_refusal d c.overwrite S.rows ≡ None → finished_row d (old_row d S.rows) ≡ Ok r → AreWritable (with_row r S.rows)
  put_good c d r given is free e = all_with IsLastingRow r S.rows (made d r (subst IsGivenSome is given) (put_short d c.overwrite S.rows r free e) e) all

  removed_good : (kind : EntityKind) (name : FullName) → AreWritable (without kind name S.rows)
  removed_good kind name = picked IsLastingRow (λ (r : Row). not (is_row kind name r)) S.rows all

  -- a rule that is set lasts as it did: its status changes neither how deep it nests nor the names in it
  set_good : (name : FullName) (r : Rule) (active : Bool) (c : Change) → rule_at (standing S.rows) name ≡ Some r → status_change r active ≡ Some c → AreWritable (changed c S.rows)
  set_good name r active c stands is =
      subst (λ (x : Change). AreWritable (changed x S.rows)) (set_so r active c (has_status active r) is)
      (all_with IsLastingRow (rows.Rule (with_status active r)) S.rows (set_lasts r active (rule_good name r S.rows all stands)) all)

  asked_rows : (p : Parts) → AreHomes S.tenants → AreWritable (all_changed (ask_decision (request_done S p)).changes S.rows)
  asked_rows p homes =
      request_rows S p (λ (h : Holder). IsName h.home) IsGivenCall AreWritable (asker_home S.tenants p.key homes) (λ h home. call_given h.home p home) all put_good removed_good set_good

  called_rows : (r : Result Plan Reason) → AreWritable (all_changed (called_decision S r).changes S.rows)
  called_rows (Ok plan) = all
  called_rows (Err reason) = all

  due_rows : (t : Told) (swept : Trace) (until : ℕ) (due : List Record) → AreWritable (all_changed (sweep_with S t swept until due).changes S.rows)
  due_rows t swept until [] = all
  due_rows t swept until (r ∷ rs) = all

  swept_rows : (t : Told) (swept : Trace) (until : Option ℕ) → AreWritable (all_changed (sweep_by S t swept until).changes S.rows)
  swept_rows t swept None = all
  swept_rows t swept (Some until) = due_rows t swept until (due_in until (swept ++ S.trace))

  -- a fire of the office changes none
  fired_rows : (o : OthersView) (n : Note) (r : Result Shot Reason) → AreWritable (all_changed (office_decision o n r).changes S.rows)
  fired_rows o n (Ok shot) = all
  fired_rows o n (Err reason) = all

  deployed_rows : (ds : List Draft) → AreGiven ds → AreWritable (all_changed (deploy_decision (deployed S ds)).changes S.rows)
  deployed_rows ds given =
      deploy_rows AreWritable S ds all (drafts_keep IsGiven (λ (p : Progress). AreWritable p.rows) S.tenants (put_over_good core S.tenants) 1 ds (begun S.rows) given all)

  by_event : (event : Event) → IsGivenEvent event → AreHomes S.tenants → AreWritable (all_changed (decide S event).changes S.rows)
  by_event (events.Opened rows) given homes = opened_rows S.moment S.trace (judged rows) S.rows (rows_read rows) all
  by_event (events.Asked r) given homes = asked_rows (parts_of r) homes
  by_event (events.Deployed drafts) given homes = deployed_rows drafts given
  by_event (events.Called name params) given homes = called_rows (call_plan S name params >>= admitted_plan S)
  by_event events.Sweep given homes = swept_rows (told.Swept (swept_told (swept_all S))) (swept_all S) (archived_until S.tenants.retain S.moment)
  by_event (events.Fired trigger params note) given homes = fired_rows S.others note (office_shot S trigger params note)
  by_event event given homes = all

-- where the rows that bodies make last
pub rows_last : RowsOfBodies → RowsLast
rows_last core S event given homes all = by_event core S all event given homes
