-- What the caller sees of the records.
use Rattle.std.proofs.Common.{◌≡◌, ◌∙◌, ◌≤◌, ℕ, Bool, true, false, if◌then◌else◌, List, [], ◌∷◌, length, Option, Some, None, Ok, map, take, drop, reverse, refl, sym, ap, subst, arith}
use Rattle.std.specs.List.{filter, find}
use Rattle.std.proofs.lemmas.Bool.{and_parts}
use Rattle.std.proofs.lemmas.Slice.Eq.{bytes_eq-Decides}
use Rattle.ow_value.specs.Value.{V, list, items_of}
use Rattle.ow_names.specs.Path.{home}
use Rattle.ow_entity.specs.declared.rows.Row.{Row}
use Rattle.ow_records.specs.Id.{same_id}
use Rattle.ow_records.specs.Records.{id_key, is_in, is_of_id, listing, sorted_by}
use Rattle.ow_records.specs.Written.{summary_value}
use Rattle.ow_records.specs.declared.ids.Id.{Id}
use Rattle.ow_records.specs.declared.record.Record.{Record}
use Rattle.ow_records.proofs.Filtered.{filter_sorted, find_of_id}
use Rattle.ow_http.specs.Parts.{Parts}
use Rattle.ow_http.specs.Steps.{◌>>=◌}
use Rattle.ow_http.specs.declared.call.Call.{Call}
use Rattle.ow_http.specs.declared.route.Part.{Part}
use Rattle.ow_value.specs.ByText.{ByText}
use Rattle.ow_tenant.specs.declared.entries.Holder.{Holder}
use Rattle.ow_tenant.specs.declared.rights.Rights.{Rights}
use Rattle.ow_reads.specs.declared.acts.Act.TheVariants.{Reads}
use Rattle.ow_reads.specs.declared.acts.Reading.TheVariants.{Activations, Activation}
use Rattle.ow_reads.specs.Acts.{granted_call}
use Rattle.ow_reads.specs.Reading.{id_of, is_recorded, namespace_of, part_value, read_value, recorded, recorded_under}
use Rattle.ow_reads.specs.Reasons.{not_found}
use Rattle.ow_reads.specs.Steps.{or_else}
use Rattle.ow_reads.specs.View.{AreOnce, is_visible_record, may_read, seen_records, view_over}
use Rattle.ow_reads.proofs.Filters.{filter_filter, find_filter, find_only_none, find_only_some, find_passes, find_uncounted, not_wider}
use Rattle.ow_reads.proofs.ReadLaws.{granted_right, shows}

-- ---- lists

is_in_visible : (rights : ByText Rights) (here : List ℕ) (r : Record) → may_read rights here ≡ true → is_in here r ≡ true → is_visible_record rights r ≡ true
is_in_visible rights here r reads stands = ap (may_read rights) (sym ((bytes_eq-Decides here r.namespace).0 stands)) ∙ reads

read_listing : (rights : ByText Rights) (here : List ℕ) (skip limit : ℕ) (ended : List Record) → may_read rights here ≡ true → listing here skip limit (seen_records rights ended) ≡ listing here skip limit ended
read_listing rights here skip limit ended reads = ap (λ (xs : List Record). map summary_value (take limit (drop skip (reverse xs))))
    (filter_sorted id_key (is_in here) (filter (is_visible_record rights) ended)
    ∙ ap (sorted_by id_key) (filter_filter (is_in here) (is_visible_record rights) ended (λ r stands. is_in_visible rights here r reads stands)))

-- what a list of the records of a namespace shows
pub records_shown : (rs : List Row) (ended : List Record) (h : Holder) (p : Parts) (c : Call) (vs : List V) → granted_call h [] (Reads Activations) p ≡ Ok c
    → vs ≡ listing (home h.home (namespace_of p.route)) c.skip c.limit ended → shows (list (items_of vs)) ≡ read_value (view_over rs ended h) Activations p c
records_shown rs ended h p c vs granted is = ap (λ (xs : List V). shows (list (items_of xs)))
    (is ∙ sym (read_listing h.rights (home h.home (namespace_of p.route)) c.skip c.limit ended (granted_right h p c granted)))

-- ---- one record

-- where an id appears once among the records, the record that is found is the only one
once_only : (id : Id) (q : Record → Bool) (r : Record) (rs : List Record) → length (filter (is_of_id id) rs) ≤ 1 → find (is_of_id id) rs ≡ Some r → q r ≡ false
    → ((x : Record) → q x ≡ true → is_of_id id x ≡ true) → find q rs ≡ None
once_only id q r [] few found other narrow = refl
once_only id q r (x ∷ rs) few found other narrow = by_test (is_of_id id x) refl (λ few' found'. once_only id q r rs few' found' other narrow)
  where
    by_test : (b : Bool) → is_of_id id x ≡ b → (length (filter (is_of_id id) rs) ≤ 1 → find (is_of_id id) rs ≡ Some r → find q rs ≡ None) → find q (x ∷ rs) ≡ None
    by_test true e rest =
        let h : Some x ≡ Some r = rw e at found in
        let same : x ≡ r = cc in
        let hidden : q x ≡ false = subst (λ (z : Record). q z ≡ false) (sym same) other in
        let few' : length (x ∷ filter (is_of_id id) rs) ≤ 1 = rw e at few in
        rw hidden (find_only_none (is_of_id id) q rs narrow (find_uncounted (is_of_id id) rs (omega (arith, few'))))
    by_test false e rest =
        rw (not_wider q (is_of_id id) x narrow e) (rest (rw e at few) (rw e at found))

abbrev pub in_own : List ℕ → Option Record → Option Record
in_own here None = None
in_own here (Some r) = if is_in here r then Some r else None

narrow : (here : List ℕ) (id : Id) (r : Record) → is_recorded here id r ≡ true → is_of_id id r ≡ true
narrow here id r h = (and_parts (is_in here r) (same_id r.id id) h).1

placed : (rights : ByText Rights) (here : List ℕ) (id : Id) (r : Record) → may_read rights here ≡ true → is_recorded here id r ≡ true → is_visible_record rights r ≡ true
placed rights here id r reads h = is_in_visible rights here r reads (and_parts (is_in here r) (same_id r.id id) h).0

by_place : (here : List ℕ) (id : Id) (ended : List Record) (r : Record) (b : Bool) → AreOnce ended → is_in here r ≡ b → find (is_of_id id) ended ≡ Some r
    → find (is_recorded here id) ended ≡ in_own here (Some r)
by_place here id ended r true once e found =
    rw e (find_only_some (is_of_id id) (is_recorded here id) r ended (narrow here id) found (rw e (find_passes (is_of_id id) r ended found)))
by_place here id ended r false once e found =
    rw e (once_only id (is_recorded here id) r ended (once id) found (rw e refl) (narrow here id))

by_found : (here : List ℕ) (id : Id) (ended : List Record) (o : Option Record) → AreOnce ended → find (is_of_id id) ended ≡ o → find (is_recorded here id) ended ≡ in_own here o
by_found here id ended None once found = find_only_none (is_of_id id) (is_recorded here id) ended (narrow here id) found
by_found here id ended (Some r) once found = by_place here id ended r (is_in here r) once refl found

-- a record of a namespace that may be read, by its id
pub read_recorded : (rights : ByText Rights) (here : List ℕ) (id : Id) (ended : List Record) (o : Option Record) → may_read rights here ≡ true → AreOnce ended → find (is_of_id id) ended ≡ o
    → in_own here o ≡ recorded_under here (Some id) (seen_records rights ended)
read_recorded rights here id ended o reads once found =
    sym (find_of_id id (is_recorded here id) (filter (is_visible_record rights) ended) (narrow here id)
    ∙ (find_filter (is_recorded here id) (is_visible_record rights) ended (λ r h. placed rights here id r reads h) ∙ by_found here id ended o once found))

-- what is shown of a record
pub record_read : (rs : List Row) (ended : List Record) (h : Holder) (p : Parts) (c : Call) (part : Part) (o : Option Record)
    → o ≡ recorded (home h.home (namespace_of p.route)) (id_of p.route) (seen_records h.rights ended)
    → (or_else o not_found >>= (λ (r : Record). shows (part_value part r))) ≡ read_value (view_over rs ended h) (Activation part) p c
record_read rs ended h p c part o is = ap (λ (x : Option Record). or_else x not_found >>= (λ (r : Record). shows (part_value part r))) is
