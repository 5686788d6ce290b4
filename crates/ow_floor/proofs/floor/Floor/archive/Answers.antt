use Rattle.std.proofs.Common.{subst}
use Rattle.ow_floor.specs.View.{FloorView}
use Rattle.ow_floor.specs.Laws.{Grows}
use Rattle.ow_floor.specs.Calls.{archive_items}
use Rattle.ow_floor.specs.Store.{show}
use Rattle.ow_floor.proofs.Growing.{grows_archive}
use Rattle.ow_floor.proofs.Showing.{good_archived}
use Rattle.ow_floor.proofs.floor.Floor.archive.Goals as goal

pub invariant_of-self : goal.invariant_of-self
invariant_of-self c = (
  rw c.archive.ensures.now (good_archived c.self.inside.lists.now c.args.until c.self.invariant.0),
  rw c.archive.ensures.held tt,
)

pub returns-clause-grows : goal.returns-clause-grows
returns-clause-grows c =
    subst (λ (w : FloorView). Grows w.now (show c.archive.new.self.now) (λ T. archive_items c.args.until T)) c.self.view_is
    (rw c.archive.ensures.now (grows_archive c.self.inside.lists.now c.args.until))
