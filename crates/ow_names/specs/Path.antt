-- The full name of a text that is read in a namespace.
use Rattle.std.specs.Prelude.{ℕ, List, [], ◌∷◌, codes, if◌then◌else◌, Option, Some, None, Result, Ok, Err}
use Rattle.std.specs.List.{slice_split}
use Rattle.std.specs.Str.{bytes_eq}
use Rattle.ow_names.specs.declared.full.FullName.{FullName}
use Rattle.ow_names.specs.declared.refusal.NameRefusal.{NameRefusal}
use Rattle.ow_names.specs.declared.refusal.NameRefusal.TheVariants.{BadPath}
use Rattle.ow_names.specs.Name.{first_fault}
use Rattle.ow_names.specs.Slash.{is_slash}

-- the parts between the slashes
abbrev pub parts : List ℕ → List (List ℕ)
parts = slice_split is_slash

-- `_` means the namespace in which a text is read
abbrev pub home : List ℕ → List ℕ → List ℕ
home here namespace = if bytes_eq namespace (codes "_") then here else namespace

abbrev pub or_fault : Option NameRefusal → Result FullName NameRefusal → Result FullName NameRefusal
or_fault None r = r
or_fault (Some e) r = Err e

-- the full name of the parts, or the fault of the first part that is no name
abbrev pub named : List ℕ → Option (List ℕ) → List ℕ → Result FullName NameRefusal
named namespace None name = or_fault (first_fault name) (Ok (record { namespace = namespace; «package» = None; name = name }))
named namespace (Some «package») name = or_fault (first_fault «package»)
    (or_fault (first_fault name) (Ok (record { namespace = namespace; «package» = Some «package»; name = name })))

abbrev pub named_in : List ℕ → List ℕ → Option (List ℕ) → List ℕ → Result FullName NameRefusal
named_in here namespace «package» name = or_fault (first_fault namespace) (named (home here namespace) «package» name)

-- the forms `name`, `package/name`, `/namespace/name` and `/namespace/package/name`, and no other
abbrev pub of_parts : List ℕ → List (List ℕ) → Result FullName NameRefusal
of_parts here (name ∷ []) = named here None name
of_parts here ([] ∷ name ∷ []) = Err BadPath
of_parts here («package» ∷ name ∷ []) = named here (Some «package») name
of_parts here ([] ∷ namespace ∷ name ∷ []) = named_in here namespace None name
of_parts here ([] ∷ namespace ∷ «package» ∷ name ∷ []) = named_in here namespace (Some «package») name
of_parts here ps = Err BadPath

abbrev pub resolved : List ℕ → List ℕ → Result FullName NameRefusal
resolved here text = of_parts here (parts text)

-- ---- the texts of full names

-- the name of the parts, whose namespace is taken as it is written
abbrev pub within : List ℕ → Option (List ℕ) → List ℕ → Result FullName NameRefusal
within namespace «package» name = or_fault (first_fault namespace) (named namespace «package» name)

-- the forms `namespace/name` and `namespace/package/name`, and no other
abbrev pub of_local : List (List ℕ) → Result FullName NameRefusal
of_local (namespace ∷ name ∷ []) = within namespace None name
of_local (namespace ∷ «package» ∷ name ∷ []) = within namespace (Some «package») name
of_local ps = Err BadPath

-- the same forms after a slash
abbrev pub of_rooted : List (List ℕ) → Result FullName NameRefusal
of_rooted ([] ∷ ps) = of_local ps
of_rooted ps = Err BadPath

abbrev pub of_full_text : List ℕ → Result FullName NameRefusal
of_full_text text = of_rooted (parts text)
