use Rattle.std.proofs.Common.{◌≡◌, ◌∙◌, ap, subst}
use Rattle.std.specs.Prelude.{find}
use Rattle.std.specs.Option.{option_copied}
use Rattle.ow_floor.specs.View.{FloorView, Shown}
use Rattle.ow_floor.specs.Frames.{is_frame}
use Rattle.ow_floor.specs.Trace.{Trace, frames}
use Rattle.ow_floor.specs.Laws.{Stands}
use Rattle.ow_floor.proofs.floor.Floor.framed.Goals as goal

pub returns-clause-trace : goal.returns-clause-trace
returns-clause-trace c =
    subst (λ (w : FloorView). (T : Trace) → Stands w.now T → option_copied c.frame.result ≡ find (is_frame c.args.id.now) (frames T)) c.self.view_is
    (λ T st. c.frame.ensures ∙ ap (λ (v : Shown). find (is_frame c.args.id.now) v.frames) st.is)
