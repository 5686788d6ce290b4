-- No row of an entity that rows hold is there from the start.
use Rattle.std.proofs.Common.{◌≡◌, List, [], ◌∷◌, false, not, sym, subst}
use Rattle.std.specs.List.{AllByRecursion}
use Rattle.std.proofs.lemmas.Bool.{and_parts, not-true}
use Rattle.ow_entity.specs.declared.rows.Row.{Row as EntityRow}
use Rattle.ow_tables.specs.Builtin.{is_builtin}
use Rattle.ow_row_text.specs.Sorted.{Entries}
use Rattle.ow_row_text.specs.declared.item.Item.{Item}
use Rattle.ow_row_text.specs.declared.item.Item.TheVariants.{Version, Archive, Count, Note, Row, Open, Done}
use Rattle.ow_keep.specs.Allowed.{is_entity}
use Rattle.ow_keep.specs.Kept.{MayStand}
use Rattle.ow_keep.specs.Split.{HoldsItems, Parts, split}

split_free : (all : Entries) (is : List Item) → AllByRecursion (MayStand all) is → AllByRecursion (λ r. is_builtin r ≡ false) (split is).entities
split_free all [] h = tt
split_free all (Version v ∷ is) h = split_free all is h.1
split_free all (Archive a ∷ is) h = split_free all is h.1
split_free all (Note n ∷ is) h = split_free all is h.1
split_free all (Count namespace count ∷ is) h = split_free all is h.1
split_free all (Row r ∷ is) h = (not-true (is_builtin r) (and_parts (is_entity r) (not (is_builtin r)) h.0.allowed).1, split_free all is h.1)
split_free all (Open u ∷ is) h = split_free all is h.1
split_free all (Done r ∷ is) h = split_free all is h.1

pub not_builtin_held : (all : Entries) (p : Parts) → HoldsItems all p → AllByRecursion (λ r. is_builtin r ≡ false) p.entities
not_builtin_held all p holds =
    subst (λ (q : Parts). AllByRecursion (λ (r : EntityRow). is_builtin r ≡ false) q.entities) (sym holds.parts) (split_free all holds.items holds.kept.each)
