-- The text of a full name.
use Rattle.std.specs.Prelude.{ℕ, List, ◌∷◌, ◌++◌, Option, Some, None, IfSome}
use Rattle.ow_names.specs.declared.full.FullName.{FullName}
use Rattle.ow_names.specs.Name.{IsName}

-- `name` or `package/name`
abbrev pub local_text : Option (List ℕ) → List ℕ → List ℕ
local_text None name = name
local_text (Some «package») name = «package» ++ 47 ∷ name

-- `/namespace/name` or `/namespace/package/name`
abbrev pub full_text : FullName → List ℕ
full_text n = 47 ∷ n.namespace ++ 47 ∷ local_text n.package n.name

-- each part is a name
pub record IsFullName (n : FullName) : Type 0 where
  pub namespace : IsName n.namespace
  pub inside : IfSome n.package IsName
  pub name : IsName n.name
