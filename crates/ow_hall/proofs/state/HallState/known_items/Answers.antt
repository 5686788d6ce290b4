use Rattle.std.proofs.Common.{List, subst}
use Rattle.std.specs.List.{AllByRecursion}
use Rattle.ow_floor.specs.Laws.{Stands}
use Rattle.ow_floor.specs.Trace.{Trace}
use Rattle.ow_keep.specs.Known.{IsItem, IsKnownEntity}
use Rattle.ow_row_text.specs.declared.item.Item.TheVariants as items
use Rattle.ow_row_text.specs.declared.item.Note.{Note}
use Rattle.ow_commits.specs.Kept.{kept_items, other_items}
use Rattle.ow_commits.proofs.Allowing.{to_mapped}
use Rattle.ow_commits.proofs.Knowing.{kept_known}
use Rattle.ow_hall.specs.State.{StateView}
use Rattle.ow_hall.proofs.state.HallState.known_items.Goals as goal

pub returns-clause-kept : goal.returns-clause-kept
returns-clause-kept c =
    subst (λ (w : StateView). (T : Trace) → Stands w.floor.now T → AllByRecursion IsItem (kept_items w.rows T)) c.self.view_is
    (λ T st. kept_known c.self.inside.tables.rows T (subst (λ rs. AllByRecursion IsKnownEntity rs) c.rows.ensures c.known_entities.ensures)
    (c.known_parts.ensures.drawn T st) (c.known_parts.ensures.unended T st) (c.known_parts.ensures.records T st))

pub returns-clause-others : goal.returns-clause-others
returns-clause-others c =
    subst (λ (w : StateView). AllByRecursion IsItem (other_items w.others)) c.self.view_is (
      c.known_archive.ensures,
      to_mapped IsItem items.Note c.self.inside.notes.items
          (subst (λ (ns : List Note). AllByRecursion (λ n. IsItem (items.Note n)) ns) c.deref.ensures.value c.known_notes.ensures),
    )
