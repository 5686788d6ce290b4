use Rattle.std.proofs.Common.{◌≡◌, ◌+◌, suc, subst, arith, take, get_or, None, true, false}
use Rattle.std.specs.List.{find}
use Rattle.ow_floor.specs.declared.activations.State.TheVariants.{Waiting}
use Rattle.ow_floor.specs.View.{is_of}
use Rattle.ow_floor.specs.Store.{opens}
use Rattle.ow_floor.proofs.Finding.{none_more, open_by_id, spot_at}
use Rattle.ow_floor.proofs.Going.{none_open}
use Rattle.ow_floor.proofs.places.open_place.Goals as goal

pub returns-then-is_at : goal.returns-then-is_at
returns-then-is_at c =
    spot_at (is_of c.args.id) c.args.spots.now c.args.tasks.now c.loop-i.i (record { state = Waiting }) c.index-tasks-i.result c.loop-i-test.true c.requires.paired c.loop-i.invariant
    (open_by_id c.args.id (get_or c.args.spots.now c.loop-i.i (record { state = Waiting })) c.index-tasks-i.result _ true c.if-is_at.ensures c.index-tasks-i.is)

pub loop-i-preserved : goal.loop-i-preserved
loop-i-preserved c =
    let next : suc c.loop-i.i ≡ c.loop-i.i + 1 = omega arith in
    subst (λ n. find (is_of c.args.id) (opens (take n c.args.spots.now) (take n c.args.tasks.now)) ≡ None) next
    (none_more (is_of c.args.id) c.args.spots.now c.args.tasks.now c.loop-i.i (record { state = Waiting }) c.index-tasks-i.result c.loop-i-test.true c.requires.paired c.loop-i.invariant
    (open_by_id c.args.id (get_or c.args.spots.now c.loop-i.i (record { state = Waiting })) c.index-tasks-i.result _ false c.if-is_at.ensures c.index-tasks-i.is))

pub loop-i-init : goal.loop-i-init
loop-i-init c = none_open (is_of c.args.id) c.args.from c.args.spots.now c.args.tasks.now c.requires.gone
