use Rattle.std.proofs.Common.{sym, ap, subst}
use Rattle.ow_floor.specs.View.{Shown}
use Rattle.ow_decide.specs.Making.{IsSeen}
use Rattle.ow_hall.specs.State.{StateView}
use Rattle.ow_hall.proofs.state.HallState.take.Goals as goal

pub returns-clause-ok : goal.returns-clause-ok
returns-clause-ok c t S seen waits others =
    let w = c.args.self.now in
    let same = ap (λ (x : StateView). x.floor.now) c.self.view_is in
    c.take.ensures.ok t w.rows w.counts w.keeping S (subst (λ (v : Shown). IsSeen S t w.rows w.counts w.keeping v c.args.now) (sym same) seen)
