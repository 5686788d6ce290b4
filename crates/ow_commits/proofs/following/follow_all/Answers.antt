use Rattle.std.proofs.Common.{refl, arith}
use Rattle.ow_commits.proofs.Moving.{changes_last, changes_next, follows_last, follows_next, known_last, known_next}
use Rattle.ow_commits.proofs.following.follow_all.Goals as goal

pub loop-moved-init : goal.loop-moved-init
loop-moved-init c = record { changes = refl; follows = λ after left h. h; known = λ all. all }

pub loop-moved-preserved : goal.loop-moved-preserved
loop-moved-preserved c = record {
  changes = changes_next c.args.moves.now c.loop-moved.moved-index c.moved-item.result _ _ _ c.loop-moved-test.true c.moved-item.is c.loop-moved.invariant.changes c.in_ok-follow.ensures.changes;
  follows = follows_next c.args.moves.now c.loop-moved.moved-index c.moved-item.result _ _ _ _ _ _ c.loop-moved-test.true c.moved-item.is c.loop-moved.invariant.follows c.in_ok-follow.ensures.follows;
  known = known_next c.args.moves.now c.loop-moved.moved-index c.moved-item.result c.loop-moved-test.true c.moved-item.is c.loop-moved.invariant.known c.follow.ensures.known;
}

pub returns-clause-changes : goal.returns-clause-changes
returns-clause-changes c = changes_last c.args.moves.now c.loop-moved.moved-index _ _ (omega arith) c.loop-moved.invariant.changes

pub returns-clause-follows : goal.returns-clause-follows
returns-clause-follows c = follows_last c.args.moves.now c.loop-moved.moved-index _ _ _ _ (omega arith) c.loop-moved.invariant.follows

pub returns-clause-known : goal.returns-clause-known
returns-clause-known c = known_last c.args.moves.now c.loop-moved.moved-index (omega arith) c.loop-moved.invariant.known
