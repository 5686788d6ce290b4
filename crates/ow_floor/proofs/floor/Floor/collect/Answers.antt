use Rattle.std.proofs.Common.{◌≡◌, ◌∙◌, subst}
use Rattle.std.specs.Prelude.{option_copied}
use Rattle.ow_floor.specs.View.{FloorView}
use Rattle.ow_floor.specs.Trace.{Trace}
use Rattle.ow_floor.specs.Laws.{Stands}
use Rattle.ow_floor.specs.Collecting.{collected, collection_of}
use Rattle.ow_floor.specs.Store.{show}
use Rattle.ow_floor.proofs.Blocking.{collected_told}
use Rattle.ow_floor.proofs.floor.Floor.collect.Goals as goal

pub returns-clause-told : goal.returns-clause-told
returns-clause-told c =
    subst (λ (w : FloorView). (T : Trace) → Stands w.now T → collection_of c.collected_by.result ≡ collected c.args.at c.args.id.now T) c.self.view_is
    (λ T st. c.collected_by.ensures.told ∙ collected_told (show c.self.inside.lists.now) c.args.at c.args.id.now c.until.result (option_copied c.record_of.result) c.until.ensures c.record_of.ensures T st)
