-- A row that is written as another one is that row.
use Rattle.std.proofs.Common.{◌≡◌, ◌∙◌, ◌&&◌, ◌<◌, ◌^◌, ℕ, List, [], Bool, true, not, Some, refl, sym, ap, ap₂}
use Rattle.std.specs.List.{list_any}
use Rattle.std.specs.Str.{bytes_eq}
use Rattle.std.proofs.lemmas.Bool.{and_parts}
use Rattle.std.proofs.lemmas.Slice.Eq.{bytes_eq-Decides}
use Rattle.ow_entity.specs.Exec.{components_of}
use Rattle.ow_entity.specs.Row.{version_of, with_version}
use Rattle.ow_entity.specs.Written.{row_value}
use Rattle.ow_entity.specs.declared.rows.Row.{Row}
use Rattle.ow_entity.specs.declared.rows.Row.TheVariants as rows
use Rattle.ow_tables.specs.Builtin.{builtin, is_builtin}
use Rattle.ow_tables.specs.Rows.{key_of}
use Rattle.ow_row_text.specs.Item.{entity_key, item_text}
use Rattle.ow_row_text.specs.declared.item.Item.TheVariants as items
use Rattle.ow_keep.specs.Allowed.{are_few, are_written, is_binding, is_entity, is_shallow, is_version, is_written, stands_alone}
use Rattle.ow_keep.specs.ItemIn.{item_from}
use Rattle.ow_keep.specs.Known.{IsKnownEntity}
use Rattle.ow_keep.proofs.Back.{item_back}
use Rattle.ow_restart_laws.specs.Deployments.{IsKeptRow, UnchangedRowsAreEqual}

-- rows of one key and one text are one row
same_text : (r s : Row) → entity_key r ≡ entity_key s → item_text (items.Row r) ≡ item_text (items.Row s) → IsKeptRow r → IsKeptRow s → s ≡ r
same_text r s keys texts h k =
    let same : Some (items.Row s) ≡ Some (items.Row r) =
    sym (item_back [] (items.Row s) k.known k.allowed) ∙ ap₂ item_from (sym keys) (sym texts) ∙ item_back [] (items.Row r) h.known h.allowed in
    cc

-- ---- a kept row with another version

both : (a b : Bool) → a ≡ true → b ≡ true → (a && b) ≡ true
both a b e f = rw (e, f) refl

known_version : (r : Row) → IsKnownEntity r → version_of r < 2 ^ 32
known_version (rows.Action a) h = h.version
known_version (rows.Package p) h = h.version
known_version (rows.Rule r) h = h.version
known_version (rows.Trigger t) h = h.version

known_with : (n : ℕ) (r : Row) → n < 2 ^ 32 → IsKnownEntity r → IsKnownEntity (with_version n r)
known_with n (rows.Action a) less h = record { name = h.name; version = less; params = h.params; notes = h.notes; code = h.code; fits = record { params = h.fits.params; notes = h.fits.notes; exec = h.fits.exec; limits = h.fits.limits } }
known_with n (rows.Package p) less h =
    record { name = h.name; version = less; params = h.params; notes = h.notes; fit_params = h.fit_params; fit_notes = h.fit_notes; binding = h.binding }
known_with n (rows.Rule r) less h = record { name = h.name; version = less; notes = h.notes; fit_notes = h.fit_notes; trigger = h.trigger; action = h.action }
known_with n (rows.Trigger t) less h =
    record { name = h.name; version = less; params = h.params; notes = h.notes; fit_params = h.fit_params; fit_notes = h.fit_notes }

-- what is required of an entity, except of its version
abbrev fit_apart : Row → Bool
fit_apart (rows.Action a) = are_few (components_of a.exec) && are_written a.name.namespace (components_of a.exec)
fit_apart (rows.Package p) = stands_alone p.name && is_binding p.name.namespace p.binding
fit_apart (rows.Rule r) = stands_alone r.name && (is_written r.name.namespace r.trigger && is_written r.name.namespace r.action)
fit_apart (rows.Trigger t) = stands_alone t.name

entity_parts : (r : Row) → is_entity r ≡ true → (is_version (version_of r) ≡ true) × (fit_apart r ≡ true)
entity_parts (rows.Action a) e = and_parts (is_version a.version) (fit_apart (rows.Action a)) e
entity_parts (rows.Package p) e = and_parts (is_version p.version) (fit_apart (rows.Package p)) e
entity_parts (rows.Rule r) e = and_parts (is_version r.version) (fit_apart (rows.Rule r)) e
entity_parts (rows.Trigger t) e = and_parts (is_version t.version) (fit_apart (rows.Trigger t)) e

entity_with : (n : ℕ) (r : Row) → is_version n ≡ true → fit_apart r ≡ true → is_entity (with_version n r) ≡ true
entity_with n (rows.Action a) v e = both (is_version n) (fit_apart (rows.Action a)) v e
entity_with n (rows.Package p) v e = both (is_version n) (fit_apart (rows.Package p)) v e
entity_with n (rows.Rule r) v e = both (is_version n) (fit_apart (rows.Rule r)) v e
entity_with n (rows.Trigger t) v e = both (is_version n) (fit_apart (rows.Trigger t)) v e

key_with : (n : ℕ) (r : Row) → key_of (with_version n r) ≡ key_of r
key_with n (rows.Action a) = refl
key_with n (rows.Package p) = refl
key_with n (rows.Rule r) = refl
key_with n (rows.Trigger t) = refl

entity_key_with : (n : ℕ) (r : Row) → entity_key (with_version n r) ≡ entity_key r
entity_key_with n (rows.Action a) = refl
entity_key_with n (rows.Package p) = refl
entity_key_with n (rows.Rule r) = refl
entity_key_with n (rows.Trigger t) = refl

-- a version is no deeper than another one
shallow_with : (n : ℕ) (r : Row) → is_shallow (items.Row r) ≡ true → is_shallow (items.Row (with_version n r)) ≡ true
unfolding row_value
shallow_with n (rows.Action a) h = h
shallow_with n (rows.Package p) h = h
shallow_with n (rows.Rule r) h = h
shallow_with n (rows.Trigger t) h = h

kept_with : (old new : Row) → IsKeptRow old → IsKeptRow new → IsKeptRow (with_version (version_of new) old)
kept_with old new h k =
    let n = version_of new in
    let parts = and_parts (is_entity old) (not (is_builtin old)) h.allowed.allowed in
    let version = (entity_parts new (and_parts (is_entity new) (not (is_builtin new)) k.allowed.allowed).0).0 in
    let apart : not (is_builtin (with_version n old)) ≡ true = ap (λ (x : List ℕ). not (list_any (λ (b : Row). bytes_eq x (key_of b)) builtin)) (key_with n old) ∙ parts.1 in
    record {
      known = known_with n old (known_version new k.known) h.known;
      allowed = record {
        shallow = shallow_with n old h.allowed.shallow;
        allowed = both (is_entity (with_version n old)) (not (is_builtin (with_version n old))) (entity_with n old version (entity_parts old parts.0).1) apart;
      };
    }

pub unchanged_equal : UnchangedRowsAreEqual
unchanged_equal old new keys h k unchanged =
    let n = version_of new in
    same_text (with_version n old) new (entity_key_with n old ∙ keys)
    ((bytes_eq-Decides (item_text (items.Row (with_version n old))) (item_text (items.Row new))).0 unchanged) (kept_with old new h k) k
