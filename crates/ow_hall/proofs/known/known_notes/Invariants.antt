use Rattle.std.proofs.Common.{length}
use Rattle.std.specs.List.{AllByRecursion}
use Rattle.ow_keep.specs.Known.{IsItem}
use Rattle.ow_row_text.specs.declared.item.Item.TheVariants as items
use Rattle.ow_hall.proofs.known.known_notes.Given as goal

abbrev pub invariant-loop-rest : goal.invariant-loop-rest
invariant-loop-rest l = AllByRecursion (λ n. IsItem (items.Note n)) l.rest → AllByRecursion (λ n. IsItem (items.Note n)) l.notes

abbrev pub decreases-loop-rest : goal.decreases-loop-rest
decreases-loop-rest l = length l.rest
