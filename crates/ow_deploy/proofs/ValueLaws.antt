-- The values of a list and of a table, one after another, and how deep they nest.
use Rattle.std.proofs.Common.{◌≡◌, ℕ, suc, max, List, [], ◌∷◌, ◌++◌, map, String, Global, Less, Greater, string_bytes, refl, ap, ap₂, ◌∙◌}
use Rattle.std.proofs.lemmas.Cmp.{nat_list_cmp_total}
use Rattle.std.specs.List.{AllByRecursion}
use Rattle.std.specs.List.Sorted.{IsStrictlySortedBy}
use Rattle.std.specs.Map.{keys_of}
use Rattle.std.specs.Ordering.{ordering_reverse}
use Rattle.std.specs.String.{string_cmp}
use Rattle.ow_value.specs.Find.{with_pair}
use Rattle.ow_value.specs.Value as body
use Rattle.ow_value.specs.Value.{V, text_cmp, items_of, members_of}
use Rattle.toml.specs.Data.{Data, string, integer, float, boolean, datetime, array, table, Items, no_items, item, Members, no_members, member, depth, items_depth, members_depth}
use Rattle.toml.specs.View.{view, items_view, members_view}
use Rattle.toml.specs.declared.value.Value.{Value}
use Rattle.ow_deploy.specs.Values.{value_of, items_value, members_value}

abbrev pub Member : Type 0
Member = String Global × Value

abbrev pub value_in : Value → V
value_in v = value_of (view v)

abbrev pub pair_of : Member → List ℕ × V
pair_of m = (string_bytes m.0, value_in m.1)

pub items_of-map : (vs : List Value) → items_of (map value_in vs) ≡ items_value (items_view vs)
items_of-map [] = refl
items_of-map (v ∷ vs) = ap (body.item (value_in v)) (items_of-map vs)

pub members_of-map : (ms : List Member) → members_of (map pair_of ms) ≡ members_value (members_view ms)
members_of-map [] = refl
members_of-map (m ∷ ms) = ap (body.member (string_bytes m.0) (value_in m.1)) (members_of-map ms)

below_middle : (first : Member) (es : List Member) (e : Member) (more : List Member) → AllByRecursion (λ y. string_cmp first.0 y ≡ Less) (keys_of (es ++ e ∷ more)) → string_cmp first.0 e.0 ≡ Less
below_middle first [] e more h = h.0
below_middle first (x ∷ es) e more h = below_middle first es e more h.1

-- a name that is above those before it goes last
pub put_last : (done : List Member) (e : Member) (more : List Member) → IsStrictlySortedBy string_cmp (keys_of (done ++ e ∷ more))
    → with_pair (map pair_of done) (string_bytes e.0) (value_in e.1) ≡ map pair_of (done ++ e ∷ [])
unfolding IsStrictlySortedBy
put_last [] e more h = refl
put_last (first ∷ done) e more h =
    let above : text_cmp (string_bytes e.0) (string_bytes first.0) ≡ Greater =
    nat_list_cmp_total.antisymm (string_bytes e.0) (string_bytes first.0) ∙ ap ordering_reverse (below_middle first done e more h.0) in
    rw above (ap (λ t. pair_of first ∷ t) (put_last done e more h.1))

-- ---- a value nests as deep as the one that it is made of

mutual
  pub depth-value_of : (d : Data) → body.depth (value_of d) ≡ depth d
  depth-value_of (string s) = refl
  depth-value_of (integer z) = refl
  depth-value_of (float x) = refl
  depth-value_of (boolean b) = refl
  depth-value_of (datetime dt) = refl
  depth-value_of (array ds) = ap suc (depth-items_value ds)
  depth-value_of (table ms) = ap suc (depth-members_value ms)

  depth-items_value : (ds : Items) → body.items_depth (items_value ds) ≡ items_depth ds
  depth-items_value no_items = refl
  depth-items_value (item d ds) = ap₂ max (depth-value_of d) (depth-items_value ds)

  depth-members_value : (ms : Members) → body.members_depth (members_value ms) ≡ members_depth ms
  depth-members_value no_members = refl
  depth-members_value (member k d ms) = ap₂ max (depth-value_of d) (depth-members_value ms)
