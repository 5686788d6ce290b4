-- Rows in the order of their kinds and full texts: what is found, what a put and a removal leave, what a list shows.
use Rattle.std.specs.Prelude.{◌&&◌, ◌==◌, ℕ, List, [], ◌∷◌, Bool, not, find, filter, map, take, drop, if◌then◌else◌, Option, Some, None}
use Rattle.std.specs.Ordering.{match_ordering}
use Rattle.std.specs.List.Sorted.{IsStrictlySortedBy}
use Rattle.std.specs.Str.{bytes_eq}
use Rattle.ow_value.specs.Value.{V, text_cmp}
use Rattle.ow_names.specs.declared.full.FullName.{FullName}
use Rattle.ow_names.specs.FullName.{full_text}
use Rattle.ow_entity.specs.declared.kinds.EntityKind.{EntityKind}
use Rattle.ow_entity.specs.declared.kinds.EntityKind.TheVariants as kinds
use Rattle.ow_entity.specs.declared.rows.Row.{Row}
use Rattle.ow_entity.specs.Row.{kind_of, name_of}
use Rattle.ow_entity.specs.Written.{summary_value}
use Rattle.ow_tables.specs.Contents.{Change}

-- ---- the order

abbrev pub kind_place : EntityKind → ℕ
kind_place kinds.Action = 0
kind_place kinds.Package = 1
kind_place kinds.Rule = 2
kind_place kinds.Trigger = 3

-- the place of the kind, and then the full text
abbrev pub key : EntityKind → FullName → List ℕ
key kind name = kind_place kind ∷ full_text name

abbrev pub key_of : Row → List ℕ
key_of r = key (kind_of r) (name_of r)

-- the keys rise, so no kind and name occurs twice
abbrev pub AreRows : List Row → Type 0
AreRows rows = IsStrictlySortedBy text_cmp (map key_of rows)

-- ---- look-ups

abbrev pub is_row : EntityKind → FullName → Row → Bool
is_row kind name r = bytes_eq (key kind name) (key_of r)

-- the row of the kind and the name
abbrev pub found : EntityKind → FullName → List Row → Option Row
found kind name rows = find (is_row kind name) rows

-- the rows as a look-up by kind and name
abbrev pub standing : List Row → EntityKind → FullName → Option Row
standing rows kind name = found kind name rows

-- ---- changes

-- the rows with this one instead of the row of its kind and name, or else before the first row that comes after it
abbrev pub with_row : Row → List Row → List Row
with_row r [] = r ∷ []
with_row r (x ∷ xs) = match_ordering (text_cmp (key_of r) (key_of x)) (r ∷ x ∷ xs) (r ∷ xs) (x ∷ with_row r xs)

-- the rows with each of these in its place, of which the first is put first
abbrev pub resumed : List Row → List Row → List Row
resumed [] rows = rows
resumed (r ∷ rs) rows = resumed rs (with_row r rows)

-- the rows but the one of the kind and the name
abbrev pub without : EntityKind → FullName → List Row → List Row
without kind name rows = filter (λ r. not (is_row kind name r)) rows

-- the rows after a change that was made ready
abbrev pub changed : Change → List Row → List Row
changed c rows = if c.removes then without (kind_of c.row) (name_of c.row) rows else with_row c.row rows

-- what is found after a change: of its kind and name the row that was put, or none, and of any other what was found before
abbrev pub found_after : Change → EntityKind → FullName → Option Row → Option Row
found_after c kind name before = if is_row kind name c.row then (if c.removes then None else Some c.row) else before

-- ---- lists

-- whether the row is of the kind and in the namespace, in a package or not
abbrev pub stands_in : EntityKind → List ℕ → Row → Bool
stands_in kind namespace r = kind_place kind == kind_place (kind_of r) && bytes_eq namespace (name_of r).namespace

-- the summaries of the rows of the kind in the namespace, without the first `skip`, and at most `limit`
abbrev pub listing : EntityKind → List ℕ → ℕ → ℕ → List Row → List V
listing kind namespace skip limit rows = map summary_value (take limit (drop skip (filter (stands_in kind namespace) rows)))
