-- Places of rows among those of their kind.
use Rattle.std.specs.Prelude.{◌==◌, ℕ, List, [], ◌∷◌, Bool, Option, filter, slice_get}
use Rattle.ow_entity.specs.Row.{kind_of}
use Rattle.ow_entity.specs.declared.kinds.EntityKind.{EntityKind}
use Rattle.ow_entity.specs.declared.rows.Row.{Row}
use Rattle.ow_tables.specs.Rows.{kind_place}

-- the row is of the kind
abbrev pub is_of : EntityKind → Row → Bool
is_of kind r = kind_place kind == kind_place (kind_of r)

-- the row of the kind at a place, counted from 0, by full text
abbrev pub nth_of : EntityKind → ℕ → List Row → Option Row
nth_of kind k rows = slice_get (filter (is_of kind) rows) k

-- how the key of a row begins, for private clauses
abbrev pub kind_key : Row → List ℕ
kind_key r = kind_place (kind_of r) ∷ []
