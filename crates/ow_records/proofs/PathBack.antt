-- The texts that full names are written as read back.
use Rattle.std.proofs.Common.{◌≡◌, ℕ, List, [], ◌∷◌, ◌++◌, IfSome, Option, Some, None, Result, Ok, refl, ap, ◌∙◌}
use Rattle.std.proofs.lemmas.List.Splits.{slice_split_none, slice_split_at, slice_split-cons_yes}
use Rattle.ow_names.specs.FullName.{full_text, local_text, IsFullName}
use Rattle.ow_names.specs.Name.{IsName, first_fault}
use Rattle.ow_names.specs.Path.{of_full_text, of_rooted, or_fault, parts, within}
use Rattle.ow_names.specs.Slash.{is_slash}
use Rattle.ow_names.specs.declared.full.FullName.{FullName}
use Rattle.ow_names.specs.declared.refusal.NameRefusal.{NameRefusal}
use Rattle.ow_names.proofs.NameLaws.{first_fault-name, no_slash}
use Rattle.std.specs.Result.{result_ok}
use Rattle.ow_records.specs.FieldsIn.{path_of}
use Rattle.ow_records.specs.WrittenNotes.{path_text}

abbrev local_parts : Option (List ℕ) → List ℕ → List (List ℕ)
local_parts None name = name ∷ []
local_parts (Some p) name = p ∷ name ∷ []

parts_local : (p : Option (List ℕ)) (name : List ℕ) → IfSome p IsName → IsName name → parts (local_text p name) ≡ local_parts p name
parts_local None name hp hn = slice_split_none is_slash name (no_slash name hn)
parts_local (Some p) name hp hn = slice_split_at is_slash p 47 name (no_slash p hp) refl ∙ ap (λ x. p ∷ x) (slice_split_none is_slash name (no_slash name hn))

parts_full : (n : FullName) → IsFullName n → parts (full_text n) ≡ [] ∷ n.namespace ∷ local_parts n.package n.name
parts_full n h =
    slice_split-cons_yes is_slash 47 (n.namespace ++ 47 ∷ local_text n.package n.name) refl
    ∙ ap (λ x. [] ∷ x) (slice_split_at is_slash n.namespace 47 (local_text n.package n.name) (no_slash n.namespace h.namespace) refl)
    ∙ ap (λ x. [] ∷ n.namespace ∷ x) (parts_local n.package n.name h.inside h.name)

no_fault : (o : Option NameRefusal) (x : Result FullName NameRefusal) → o ≡ None → or_fault o x ≡ x
no_fault o x e = ap (λ p. or_fault p x) e

within_back : (n : FullName) (p : Option (List ℕ)) → IfSome p IsName → IsName n.namespace → IsName n.name → within n.namespace p n.name ≡ Ok (record n { «package» = p })
within_back n None hp hs hn = no_fault (first_fault n.namespace) _ (first_fault-name n.namespace hs) ∙ no_fault (first_fault n.name) _ (first_fault-name n.name hn)
within_back n (Some p) hp hs hn =
    no_fault (first_fault n.namespace) _ (first_fault-name n.namespace hs)
    ∙ no_fault (first_fault p) _ (first_fault-name p hp)
    ∙ no_fault (first_fault n.name) _ (first_fault-name n.name hn)

rooted_back : (n : FullName) (p : Option (List ℕ)) → of_rooted ([] ∷ n.namespace ∷ local_parts p n.name) ≡ within n.namespace p n.name
rooted_back n None = refl
rooted_back n (Some p) = refl

pub full_back : (n : FullName) → IsFullName n → of_full_text (full_text n) ≡ Ok n
full_back n h = ap of_rooted (parts_full n h) ∙ rooted_back n n.package ∙ within_back n n.package h.inside h.namespace h.name

pub path_back : (n : FullName) → IsFullName n → path_of (path_text n) ≡ Some n
path_back n h = ap result_ok (full_back n h)
