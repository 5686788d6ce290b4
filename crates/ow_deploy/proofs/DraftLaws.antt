-- Drafts that are read one after another, and what is known of each.
use Rattle.std.proofs.Common.{◌≡◌, ◌≤◌, ◌<◌, ℕ, zero, suc, List, [], ◌∷◌, ◌++◌, length, get_or, map, true, false, Option, Some, None, Result, Ok, Err, IfOk, MatchResult, refl, sym, ap, ◌∙◌, append_assoc, subst, arith, nat_le}
use Rattle.std.specs.List.{list_all, position}
use Rattle.std.proofs.lemmas.Bool.{and_parts}
use Rattle.std.proofs.lemmas.Bool.Decides.{nat_tests}
use Rattle.toml.specs.Data.{Data, depth}
use Rattle.ow_value.specs.Nesting.{most_nested}
use Rattle.ow_value.specs.Value.{V, depth as value_depth}
use Rattle.ow_names.specs.FullName.{IsFullName}
use Rattle.ow_names.specs.Name.{first_fault}
use Rattle.ow_names.specs.Path.{of_parts, or_fault, resolved}
use Rattle.ow_names.specs.Slash.{is_slash}
use Rattle.ow_names.specs.declared.full.FullName.{FullName}
use Rattle.ow_names.specs.declared.refusal.NameRefusal.{NameRefusal}
use Rattle.ow_names.proofs.PathLaws.{cuts_none}
use Rattle.ow_entity.specs.Body.{entity_of, is_action}
use Rattle.ow_entity.specs.Chain.{result_map}
use Rattle.ow_entity.specs.Given.{AreGiven, IsGiven, IsPlaced}
use Rattle.ow_entity.specs.declared.kinds.EntityKind.{EntityKind}
use Rattle.ow_entity.specs.declared.kinds.EntityKind.TheVariants.{Action, Package, Rule, Trigger}
use Rattle.ow_entity.specs.declared.refusal.EntityRefusal.{EntityRefusal}
use Rattle.ow_entity.specs.declared.rows.Draft.{Draft}
use Rattle.ow_deploy.specs.EntryView.{entry_view}
use Rattle.ow_deploy.specs.Manifest.{is_path, is_shallow, slash_fits}
use Rattle.ow_deploy.specs.Values.{value_of}
use Rattle.ow_deploy.specs.declared.entries.Entry.{Entry}
use Rattle.ow_deploy.proofs.ValueLaws.{depth-value_of}

-- one more draft is read and put last
pub put_next : (read : List Draft) (d : Draft) (r : Result (List Draft) EntityRefusal)
    → result_map (λ ds. (read ++ d ∷ []) ++ ds) r ≡ result_map (λ ds. read ++ ds) (result_map (λ ds. d ∷ ds) r)
put_next read d (Ok ds) = ap Ok (append_assoc read (d ∷ []) ds)
put_next read d (Err e) = refl

given_last : (read : List Draft) (d : Draft) → AreGiven read → IsGiven d → AreGiven (read ++ d ∷ [])
given_last [] d h g = (g, tt)
given_last (x ∷ read) d h g = (h.0, given_last read d h.1 g)

pub given_next : (read : List Draft) (d : Draft) (new : List Draft) → new ≡ read ++ d ∷ [] → AreGiven read → IsGiven d → AreGiven new
given_next read d new e h g = subst AreGiven (sym e) (given_last read d h g)

-- ---- a path without a slash names nothing in a package

abbrev package_in : Result FullName NameRefusal → Option (List ℕ)
package_in (Ok n) = n.package
package_in (Err e) = None

outside : (home name : List ℕ) (o : Option NameRefusal) → package_in (or_fault o (Ok (record { namespace = home; «package» = None; name = name }))) ≡ None
outside home name None = refl
outside home name (Some e) = refl

resolved_outside : (home path : List ℕ) (n : FullName) → position is_slash path ≡ None → resolved home path ≡ Ok n → n.package ≡ None
resolved_outside home path n none e = sym (ap package_in (sym (ap (of_parts home) (cuts_none path none)) ∙ e)) ∙ outside home path (first_fault path)

no_slash : (kind : EntityKind) (o : Option ℕ) → slash_fits kind o ≡ true → is_action kind ≡ false → o ≡ None
no_slash Action o h g = cc
no_slash Package None h g = refl
no_slash Package (Some zero) h g = cc
no_slash Package (Some (suc n)) h g = cc
no_slash Rule None h g = refl
no_slash Rule (Some zero) h g = cc
no_slash Rule (Some (suc n)) h g = cc
no_slash Trigger None h g = refl
no_slash Trigger (Some zero) h g = cc
no_slash Trigger (Some (suc n)) h g = cc

pub placed : (kind : EntityKind) (home path : List ℕ) (n : FullName) → is_path kind path ≡ true → resolved home path ≡ Ok n → IsPlaced kind n
placed Action home path n fits e = tt
placed Package home path n fits e = rw (resolved_outside home path n (no_slash Package (position is_slash path) fits refl) e) refl
placed Rule home path n fits e = rw (resolved_outside home path n (no_slash Rule (position is_slash path) fits refl) e) refl
placed Trigger home path n fits e = rw (resolved_outside home path n (no_slash Trigger (position is_slash path) fits refl) e) refl

-- ---- a draft of a body that isn't too deep

within : (d : Data) → nat_le (depth d) most_nested ≡ true → depth d ≤ most_nested
within d h = grind (arith, nat_tests)

pub given : (kind : EntityKind) (name : FullName) (v : V) (d : Data) (draft : Draft) → nat_le (depth d) most_nested ≡ true → v ≡ value_of d → IsFullName name → IsPlaced kind name
    → entity_of kind name v ≡ Ok draft → IsGiven draft
given kind name v d draft shallow e full placed drafted =
    record {
      kind = kind;
      name = name;
      body = v;
      within = subst (λ n. n ≤ most_nested) (sym (ap value_depth e ∙ depth-value_of d)) (within d shallow);
      drafted = drafted;
      full = full;
      placed = placed;
    }

pub shallow_at : (es : List Entry) (i : ℕ) (d : Entry) → i < length es → list_all is_shallow (map entry_view es) ≡ true → is_shallow (entry_view (get_or es i d)) ≡ true
shallow_at [] i d lt h = absurd (omega arith)
shallow_at (e ∷ es) zero d lt h = (and_parts (is_shallow (entry_view e)) (list_all is_shallow (map entry_view es)) h).0
shallow_at (e ∷ es) (suc i) d lt h = shallow_at es i d (omega arith) (and_parts (is_shallow (entry_view e)) (list_all is_shallow (map entry_view es)) h).1

pub when_ok : {X E : Type 0} (r : Result X E) (P Q : X → Type 0) (R : E → Type 0) → ((x : X) → P x → Q x) → MatchResult r P R → IfOk r Q
when_ok (Ok x) P Q R f h = f x h
when_ok (Err e) P Q R f h = tt
