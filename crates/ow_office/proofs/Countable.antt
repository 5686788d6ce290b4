-- Records that rows hold may be counted.
use Rattle.std.proofs.Common.{◌≤◌, ℕ, List, [], ◌∷◌, Option, Some, None, arith, sym, subst, IfSome}
use Rattle.std.specs.List.{All, AllByRecursion}
use Rattle.std.proofs.lemmas.List.Elements.{All-from_recursion}
use Rattle.ow_entity.specs.declared.bounds.Limits.{Limits}
use Rattle.ow_entity.specs.FitAction.{IsFitLimits}
use Rattle.ow_records.specs.Known.{IsKnown}
use Rattle.ow_records.specs.declared.record.Record.{Record}
use Rattle.ow_row_text.specs.Sorted.{Entries}
use Rattle.ow_row_text.specs.declared.item.Item.{Item}
use Rattle.ow_row_text.specs.declared.item.Item.TheVariants.{Version, Archive, Count, Note, Row, Open, Done}
use Rattle.ow_keep.specs.Known.{IsItem}
use Rattle.ow_keep.specs.Laws.{MomentsAreSmall}
use Rattle.ow_keep.specs.Moments.{greatest_kept_moment, record_moment}
use Rattle.ow_keep.specs.Split.{HoldsItems, Parts, split}
use Rattle.ow_usage.specs.Cells.{IsCountable, memory_in}

abbrev most : ℕ
most = 253402300799999

memory_small : (o : Option Limits) → IfSome o IsFitLimits → memory_in o ≤ 512
memory_small None fit = omega arith
memory_small (Some limits) fit = omega (arith, fit.memory.1)

countable : (r : Record) → IsKnown r → record_moment r ≤ most → IsCountable r
countable r known small = record {
  start = omega (arith, small);
  end = omega (arith, small);
  memory = memory_small r.notes.limits known.notes.limits;
}

countable_items : (is : List Item) → AllByRecursion IsItem is → greatest_kept_moment is ≤ most → AllByRecursion IsCountable (split is).records
countable_items [] known small = tt
countable_items (Version v ∷ is) known small = countable_items is known.1 (omega (arith, small))
countable_items (Archive a ∷ is) known small = countable_items is known.1 (omega (arith, small))
countable_items (Note n ∷ is) known small = countable_items is known.1 (omega (arith, small))
countable_items (Count namespace count ∷ is) known small = countable_items is known.1 (omega (arith, small))
countable_items (Row r ∷ is) known small = countable_items is known.1 (omega (arith, small))
countable_items (Open u ∷ is) known small = countable_items is known.1 (omega (arith, small))
countable_items (Done r ∷ is) known small = (countable r known.0 (omega (arith, small)), countable_items is known.1 (omega (arith, small)))

pub all_countable : (rows : Entries) (p : Parts) → MomentsAreSmall → HoldsItems rows p → All IsCountable p.records
all_countable rows p law held =
    subst (λ (q : Parts). All IsCountable q.records) (sym held.parts)
    (All-from_recursion IsCountable (split held.items).records (countable_items held.items held.known (law rows held.items held.kept.each held.known)))
