use Rattle.std.proofs.Common.{◌≡◌, ◌∙◌, ap, subst}
use Rattle.std.specs.Prelude.{find}
use Rattle.std.specs.Option.{option_copied}
use Rattle.ow_floor.specs.View.{FloorView, Shown, is_of}
use Rattle.ow_floor.specs.Trace.{Trace, open_task, task_by}
use Rattle.ow_floor.specs.Laws.{Stands}
use Rattle.ow_floor.proofs.floor.Floor.activation.Goals as goal

pub returns-clause-trace : goal.returns-clause-trace
returns-clause-trace c =
    subst (λ (w : FloorView). (T : Trace) → Stands w.now T → option_copied c.open_task.result ≡ open_task T c.args.id.now) c.self.view_is
    (λ T st. c.open_task.ensures ∙ ap (λ (v : Shown). task_by (find (is_of c.args.id.now) v.open_items)) st.is)
