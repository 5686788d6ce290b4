use Rattle.std.proofs.Common.{◌≡◌, ◌<◌, [], List, Option, None, get_or, length, subst}
use Rattle.ow_floor.specs.Calls.{late_of}
use Rattle.ow_floor.specs.Ends.{late_at}
use Rattle.ow_floor.specs.Store.{show}
use Rattle.ow_floor.specs.declared.lists.Berth.{Berth}
use Rattle.ow_floor.proofs.Making.{seeks_at, seeks_found_at}
use Rattle.ow_floor.proofs.ends.first_late.Goals as goal

pub loop-i-preserved : goal.loop-i-preserved
loop-i-preserved c =
    seeks_at c.args.at c.args.lists.now.now c.loop-i.i None (subst (λ (cs : List (Option Berth)). c.loop-i.i < length cs) c.runs-i-end.ensures c.loop-i-test.true)
    (subst (λ (cs : List (Option Berth)). late_at c.args.at (get_or cs c.loop-i.i None) c.args.lists.now.now ≡ []) c.runs.ensures c.in_default.ensures) c.loop-i.invariant

pub returns-in-Some : goal.returns-in-Some
returns-in-Some c = (
  seeks_found_at c.args.at c.args.lists.now.now c.loop-i.i None c.in-Some.found.0 c.in-Some.found.1
      (subst (λ (cs : List (Option Berth)). c.loop-i.i < length cs) c.runs-i-end.ensures c.loop-i-test.true)
      (subst (λ (cs : List (Option Berth)). late_at c.args.at (get_or cs c.loop-i.i None) c.args.lists.now.now ≡ late_of c.args.at c.in-Some.found.1 (show c.args.lists.now.now)) c.runs.ensures c.in-Some.ensures.0)
      c.in-Some.ensures.1 c.loop-i.invariant,
  c.in-Some.ensures.1,
)
