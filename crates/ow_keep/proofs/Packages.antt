-- What is written of a package, read again as a body and finished over no row.
use Rattle.std.proofs.Common.{◌≡◌, ℕ, List, [], ◌∷◌, Bool, true, not, is_some, IfSome, Option, Some, None, Result, Ok, refl, ap, ◌∙◌}
use Rattle.std.specs.Result.{result_err, result_unwrap_or}
use Rattle.std.specs.Str.{bytes_eq}
use Rattle.std.proofs.lemmas.Bool.{and_parts}
use Rattle.std.proofs.lemmas.Slice.Eq.{bytes_eq-Decides}
use Rattle.ow_value.specs.Value.{Pairs, AreParams}
use Rattle.ow_names.specs.FullName.{IsFullName}
use Rattle.ow_names.specs.Name.{IsName}
use Rattle.ow_names.specs.Path.{home, named_in}
use Rattle.ow_names.specs.declared.full.FullName.{FullName}
use Rattle.ow_names.proofs.PathLaws.{no_fault}
use Rattle.ow_entity.specs.Body.{binding_given, draft_of, draft_unless, entity_of, or_bad_name}
use Rattle.ow_entity.specs.Chain.{and_then, first_some, result_map}
use Rattle.ow_entity.specs.Finish.{finished_row, row_of_body}
use Rattle.ow_entity.specs.Fit.{IsFitPairs}
use Rattle.ow_entity.specs.Written.{binding_value, package_value}
use Rattle.ow_entity.specs.declared.field_name.FieldName.TheVariants as fields
use Rattle.ow_entity.specs.declared.finishing.TheConstants.{FIRST_VERSION}
use Rattle.ow_entity.specs.declared.kinds.EntityKind.TheVariants as kinds
use Rattle.ow_entity.specs.declared.packages.Package.{Package}
use Rattle.ow_entity.specs.declared.refusal.EntityRefusal.{EntityRefusal}
use Rattle.ow_entity.specs.declared.rows.Draft.{Draft}
use Rattle.ow_entity.specs.declared.rows.Draft.TheVariants as drafts
use Rattle.ow_entity.specs.declared.rows.Row.TheVariants as rows
use Rattle.ow_entity.proofs.PairLaws.{pairs_given-value}
use Rattle.ow_keep.specs.Allowed.{is_binding}

-- ---- its binding

named_back : (here namespace name : List ℕ) → IsName namespace → IsName name → home here namespace ≡ namespace
    → named_in here namespace None name ≡ Ok (record { namespace = namespace; «package» = None; name = name })
named_back here namespace name hs hn e =
    no_fault namespace _ hs
    ∙ no_fault name _ hn
    ∙ ap (λ (s : List ℕ). Ok (record { namespace = s; «package» = None; name = name })) e

in_none : (p : Option (List ℕ)) → not (is_some p) ≡ true → None ≡ p
in_none None e = refl
in_none (Some p) e = let f : ⊥ = cc in absurd f

binding_back : (here : List ℕ) (o : Option FullName) → IfSome o IsFullName → is_binding here o ≡ true → binding_given here (Some (binding_value o)) ≡ Ok (Some o)
binding_back here None h e = refl
binding_back here (Some b) h e =
    let a = and_parts (not (is_some b.package)) (bytes_eq (home here b.namespace) b.namespace) e in
    let same : home here b.namespace ≡ b.namespace = (bytes_eq-Decides (home here b.namespace) b.namespace).0 a.1 in
    ap (λ r. result_map Some (result_map Some (or_bad_name r))) (named_back here b.namespace b.name h.namespace h.name same)
    ∙ ap (λ (p : Option (List ℕ)). Ok (Some (Some (record b { «package» = p })))) (in_none b.package a.0)

-- ---- the draft of four good fields

abbrev drafted : FullName → Result (Option Pairs) EntityRefusal → Result (Option Pairs) EntityRefusal → Result (Option Bool) EntityRefusal → Result (Option (Option FullName)) EntityRefusal → Result Draft EntityRefusal
drafted name n p b x = draft_unless
    (first_some (result_err n ∷ result_err p ∷ result_err b ∷ result_err x ∷ []))
    (drafts.Package (record {
      name = name;
      publish = result_unwrap_or b None;
      params = result_unwrap_or p None;
      notes = result_unwrap_or n None;
      binding = result_unwrap_or x None;
    }))

draft_of-value : (p : Package) → AreParams p.notes → AreParams p.params → IsFitPairs p.notes → IsFitPairs p.params → IfSome p.binding IsFullName → is_binding p.name.namespace p.binding ≡ true
    → draft_of kinds.Package p.name (package_value p) ≡ Ok (drafts.Package (record {
      name = p.name;
      publish = Some p.publish;
      params = Some p.params;
      notes = Some p.notes;
      binding = Some p.binding;
    }))
draft_of-value p rn rp hn hp hb e = λ i. drafted p.name
    (pairs_given-value fields.Annotations p.notes rn hn i)
    (pairs_given-value fields.Parameters p.params rp hp i)
    (Ok (Some p.publish))
    (binding_back p.name.namespace p.binding hb e i)

pub package_back : (p : Package) → AreParams p.notes → AreParams p.params → IsFitPairs p.notes → IsFitPairs p.params → IfSome p.binding IsFullName → is_binding p.name.namespace p.binding ≡ true
    → row_of_body kinds.Package p.name (package_value p) ≡ Ok (rows.Package (record p { version = FIRST_VERSION }))
unfolding row_of_body entity_of finished_row
package_back p rn rp hn hp hb e = ap (λ r. and_then r (λ d. finished_row d None)) (draft_of-value p rn rp hn hp hb e)
