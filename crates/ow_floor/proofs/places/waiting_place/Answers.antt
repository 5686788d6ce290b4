use Rattle.std.proofs.Common.{◌≡◌, ◌+◌, suc, sym, ◌∙◌, ap, subst, arith, take, None}
use Rattle.std.specs.List.{find}
use Rattle.ow_floor.specs.View.{waits}
use Rattle.ow_floor.specs.Places.{has_open}
use Rattle.ow_floor.specs.Store.{opens}
use Rattle.ow_floor.proofs.Finding.{none_more, spot_at}
use Rattle.ow_floor.proofs.Going.{none_open}
use Rattle.ow_floor.proofs.places.waiting_place.Goals as goal

pub returns-then-waits_at : goal.returns-then-waits_at
returns-then-waits_at c =
    spot_at waits c.args.spots.now c.args.tasks.now c.loop-i.i _ _ c.loop-i-test.true c.requires.paired c.loop-i.invariant
    (sym (c.if-waits_at.ensures ∙ ap (has_open waits _) c.index-tasks-i.is))

pub loop-i-preserved : goal.loop-i-preserved
loop-i-preserved c =
    let next : suc c.loop-i.i ≡ c.loop-i.i + 1 = omega arith in
    subst (λ n. find waits (opens (take n c.args.spots.now) (take n c.args.tasks.now)) ≡ None) next
    (none_more waits c.args.spots.now c.args.tasks.now c.loop-i.i _ _ c.loop-i-test.true c.requires.paired c.loop-i.invariant
    (sym (c.if-waits_at.ensures ∙ ap (has_open waits _) c.index-tasks-i.is)))

pub loop-i-init : goal.loop-i-init
loop-i-init c = none_open waits c.args.from c.args.spots.now c.args.tasks.now c.requires.gone
