-- The value that a `Val` represents. Its lists and objects are seen as lists already.
use Rattle.std.specs.Prelude.{ℕ, List, map}
use Rattle.ow_value.specs.Value.{V, Pairs, null, boolean, whole, text, list, object, items_of, members_of}
use Rattle.ow_value.specs.declared.val.Val.{Val}
use Rattle.ow_value.specs.declared.val.Pair.{Pair}
use Rattle.ow_value.specs.declared.val.Val.TheVariants.{Null, Bool, Int, Text, List as ListOf, Object}
use Rattle.ow_value.specs.declared.fields.Members.{Members}
use Rattle.ow_value.specs.declared.fields.Members.TheVariants.{Listed, Mapped}

abbrev pub view : Val → V
view Null = null
view (Bool b) = boolean b
view (Int z) = whole z
view (Text s) = text s
view (ListOf vs) = list (items_of vs)
view (Object ps) = object (members_of ps)

abbrev pub views : List Val → List V
views = map view

abbrev pub pair_view : Pair → List ℕ × V
pair_view p = (p.name, view p.value)

abbrev pub pair_views : List Pair → Pairs
pair_views = map pair_view

abbrev pub entry_views : List (List ℕ × Val) → Pairs
entry_views = map (λ e. (e.0, view e.1))

-- the members of an object that is being made
abbrev pub members_view : Members → Pairs
members_view (Listed ps) = pair_views ps.items
members_view (Mapped es) = entry_views es.entries
