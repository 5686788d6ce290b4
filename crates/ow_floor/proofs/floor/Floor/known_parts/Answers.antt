use Rattle.std.proofs.Common.{◌∙◌, List, Option, IfSome, ap, subst}
use Rattle.std.specs.List.{AllByRecursion}
use Rattle.ow_records.specs.Known.{IsId, IsKnown, IsKnownUnrecorded}
use Rattle.ow_records.specs.Unrecorded.{unrecorded_of}
use Rattle.ow_records.specs.declared.activations.Activation.{Activation}
use Rattle.ow_floor.specs.Laws.{Stands}
use Rattle.ow_floor.specs.Trace.{Trace, drawn, open_items, shown_records}
use Rattle.ow_floor.specs.View.{FloorView, Shown}
use Rattle.ow_floor.specs.declared.activations.Open.{Open}
use Rattle.ow_floor.proofs.Knowing.{opens_known}
use Rattle.ow_floor.proofs.floor.Floor.known_parts.Goals as goal

pub returns-clause-unended : goal.returns-clause-unended
returns-clause-unended c =
    subst (λ (w : FloorView). (T : Trace) → Stands w.now T → AllByRecursion (λ (o : Open). IsKnownUnrecorded (unrecorded_of o.task)) (open_items T)) c.self.view_is
    (λ T st. subst (λ (v : Shown). AllByRecursion (λ (o : Open). IsKnownUnrecorded (unrecorded_of o.task)) v.open_items) st.is
    (opens_known c.self.inside.lists.now.spots c.self.inside.lists.now.tasks (subst (λ (ts : List (Option Activation)). AllByRecursion (λ (t : Option Activation). IfSome t (λ a. IsKnownUnrecorded (unrecorded_of a))) ts) c.tasks.ensures c.known_tasks.ensures)))

pub returns-clause-drawn : goal.returns-clause-drawn
returns-clause-drawn c =
    subst (λ (w : FloorView). (T : Trace) → Stands w.now T → AllByRecursion IsId (drawn T)) c.self.view_is
    (λ T st. subst (λ (v : Shown). AllByRecursion IsId v.drawn) st.is (subst (λ ids. AllByRecursion IsId ids) c.drawn.ensures c.known_ids.ensures))

pub returns-clause-records : goal.returns-clause-records
returns-clause-records c =
    subst (λ (w : FloorView). (T : Trace) → Stands w.now T → AllByRecursion IsKnown (shown_records T)) c.self.view_is
    (λ T st. subst (λ rs. AllByRecursion IsKnown rs) (c.items.ensures ∙ c.records.ensures ∙ ap (λ (v : Shown). v.records) st.is) c.known_records.ensures)
