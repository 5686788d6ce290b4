use Rattle.std.proofs.Common.{◌≡◌, ◌∙◌, ap, subst}
use Rattle.ow_floor.specs.View.{FloorView, last_of}
use Rattle.ow_floor.specs.Trace.{Trace, last}
use Rattle.ow_floor.specs.Laws.{Stands}
use Rattle.ow_floor.specs.Store.{show}
use Rattle.ow_floor.proofs.Growing.{last_told}
use Rattle.ow_floor.proofs.floor.Floor.last.Goals as goal

pub returns-clause-trace : goal.returns-clause-trace
returns-clause-trace c =
    subst (λ (w : FloorView). (T : Trace) → Stands w.now T → c.last_of.result ≡ last T c.args.namespace) c.self.view_is
    (last_told (show c.self.inside.lists.now) c.last_of.result c.args.namespace (c.last_of.ensures ∙ ap (λ ids. last_of ids c.args.namespace) c.drawn.ensures))
