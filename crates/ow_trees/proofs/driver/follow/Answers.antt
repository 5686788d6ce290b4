use Rattle.std.proofs.Common.{◌∙◌, Some, arith, refl}
use Rattle.ow_trees.proofs.Following.{followed_all, followed_none, following_next, following_start}
use Rattle.ow_trees.proofs.driver.follow.Goals as goal

pub loop-left-init : goal.loop-left-init
loop-left-init g c = record {
  follows = λ T st. following_start (g.L.Lookup.found c.args.rows.now) c.args.at c.args.first T c.args.floor.now.now c.args.moves.now st;
  firing = refl;
  before = refl;
}

pub loop-left-preserved : goal.loop-left-preserved
loop-left-preserved g c = record {
  follows = λ T st.
      following_next (g.L.Lookup.found c.args.rows.now) c.args.at c.args.first c.loop-left.left _ c.in-Some.id c.in_ok-next.next T c.loop-left.floor.now c.make_step.new.floor.now c.args.moves.now c.loop-left.moves c.make_step.new.moves
      (omega arith) c.in_ok-next.ensures.ok c.in_ok-next.ensures.moved c.in_ok-next.ensures.next
      (rw c.in-Some.is at (c.loop-left.invariant.follows T st));
  firing = c.in_ok-next.ensures.firing ∙ c.loop-left.invariant.firing;
  before = c.make_step.ensures.before ∙ c.loop-left.invariant.before;
}

pub returns-clause-ok : goal.returns-clause-ok
returns-clause-ok g c = λ T st.
    (followed_all (g.L.Lookup.found c.args.rows.now) c.args.at c.args.first c.loop-left.left c.loop-left.next T c.loop-left.floor.now c.args.moves.now c.loop-left.moves (omega arith) (c.loop-left.invariant.follows T st)).stands

pub returns-clause-moved : goal.returns-clause-moved
returns-clause-moved g c = λ T st.
    (followed_all (g.L.Lookup.found c.args.rows.now) c.args.at c.args.first c.loop-left.left c.loop-left.next T c.loop-left.floor.now c.args.moves.now c.loop-left.moves (omega arith) (c.loop-left.invariant.follows T st)).noted

pub returns-in_default-clause-ok : goal.returns-in_default-clause-ok
returns-in_default-clause-ok g c = λ T st.
    (followed_none (g.L.Lookup.found c.args.rows.now) c.args.at c.args.first c.loop-left.left T c.loop-left.floor.now c.args.moves.now c.loop-left.moves (rw c.in_default.is at (c.loop-left.invariant.follows T st))).stands

pub returns-in_default-clause-moved : goal.returns-in_default-clause-moved
returns-in_default-clause-moved g c = λ T st.
    (followed_none (g.L.Lookup.found c.args.rows.now) c.args.at c.args.first c.loop-left.left T c.loop-left.floor.now c.args.moves.now c.loop-left.moves (rw c.in_default.is at (c.loop-left.invariant.follows T st))).noted
