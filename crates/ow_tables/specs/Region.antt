-- The rows of one kind in one namespace, which are adjacent, for private clauses.
use Rattle.std.specs.Prelude.{ℕ, List, [], ◌∷◌, ◌++◌, map}
use Rattle.std.specs.List.{AllByRecursion}
use Rattle.ow_names.specs.Slash.{HasNoSlash}
use Rattle.ow_entity.specs.declared.kinds.EntityKind.{EntityKind}
use Rattle.ow_entity.specs.declared.rows.Row.{Row}
use Rattle.ow_entity.specs.Row.{kind_of, name_of}
use Rattle.ow_tables.specs.Rows.{kind_place, AreRows}

-- how the keys of these rows begin
abbrev pub region : EntityKind → List ℕ → List ℕ
region kind namespace = kind_place kind ∷ 47 ∷ namespace ++ 47 ∷ []

abbrev pub namespace_of : Row → List ℕ
namespace_of r = (name_of r).namespace

abbrev pub region_of : Row → List ℕ
region_of r = region (kind_of r) (namespace_of r)

abbrev pub IsPart : Row → Type 0
IsPart r = HasNoSlash (namespace_of r)

-- what tables maintain of their rows: they are in order, and no namespace has a slash in it, so the keys of a namespace are adjacent
pub record AreKept (rows : List Row) : Type 0 where
  pub rise : AreRows rows
  pub parts : AllByRecursion HasNoSlash (map namespace_of rows)
