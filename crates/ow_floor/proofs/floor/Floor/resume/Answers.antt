use Rattle.std.proofs.Common.{sym, subst}
use Rattle.ow_floor.specs.View.{FloorView}
use Rattle.ow_floor.specs.Growth.{IsFresh}
use Rattle.ow_floor.specs.Laws.{Grows}
use Rattle.ow_floor.specs.Calls.{resume_items}
use Rattle.ow_floor.specs.Store.{show}
use Rattle.ow_floor.proofs.Growing.{grows_resume}
use Rattle.ow_floor.proofs.floor.Floor.resume.Goals as goal

pub returns-clause-ok : goal.returns-clause-ok
returns-clause-ok c =
    let counts = c.args.counts.items in
    let rs = c.args.records.items in
    let fresh = subst (λ (w : FloorView). IsFresh w.now) (sym c.self.view_is) c.requires.fresh in
    subst (λ (w : FloorView). Grows w.now (show c.resume.new.self.now) (λ T. resume_items counts rs)) c.self.view_is
    (rw (c.resume.ensures.now, c.in_ok-records.ensures) (grows_resume c.self.inside.lists.now counts rs fresh c.requires.resumable))
