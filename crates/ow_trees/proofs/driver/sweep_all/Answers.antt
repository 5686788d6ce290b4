use Rattle.std.proofs.Common.{◌∙◌, arith, refl, sym}
use Rattle.ow_trees.proofs.Sweeping.{swept_full, swept_none, sweeping_next, sweeping_start}
use Rattle.ow_trees.proofs.driver.sweep_all.Goals as goal

pub loop-late-init : goal.loop-late-init
loop-late-init g c = record {
  sweeps = λ T st. sweeping_start (g.L.Lookup.found c.args.rows.now) c.args.at T c.args.floor.now.now c.args.moves.now st;
  before = refl;
}

pub loop-late-preserved : goal.loop-late-preserved
loop-late-preserved g c = record {
  sweeps = λ T st.
      sweeping_next (g.L.Lookup.found c.args.rows.now) c.args.at c.loop-late.late c.busy-most.result T c.loop-late.floor.now c.sweep_one.new.floor.now c.args.moves.now c.loop-late.moves c.sweep_one.new.moves
      (c.busy-most.ensures.trace T st) (omega arith) c.in_ok-sweep_one.ensures.ok c.in_ok-sweep_one.ensures.moved
      (λ U s. sym c.if-not-branch.false ∙ c.in_ok-sweep_one.ensures.late U s) (c.loop-late.invariant.sweeps T st);
  before = c.sweep_one.ensures.before ∙ c.loop-late.invariant.before;
}

pub returns-then-not-branch-clause-late : goal.returns-then-not-branch-clause-late
returns-then-not-branch-clause-late g c = λ T st.
    (swept_none (g.L.Lookup.found c.args.rows.now) c.args.at c.loop-late.late T c.loop-late.floor.now c.sweep_one.new.floor.now c.args.moves.now c.loop-late.moves c.sweep_one.new.moves c.in_ok-sweep_one.ensures.ok
    c.in_ok-sweep_one.ensures.moved (λ U s. sym c.if-not-branch.true ∙ c.in_ok-sweep_one.ensures.late U s) (c.loop-late.invariant.sweeps T st)).count

pub returns-then-not-branch-clause-moved : goal.returns-then-not-branch-clause-moved
returns-then-not-branch-clause-moved g c = λ T st.
    (swept_none (g.L.Lookup.found c.args.rows.now) c.args.at c.loop-late.late T c.loop-late.floor.now c.sweep_one.new.floor.now c.args.moves.now c.loop-late.moves c.sweep_one.new.moves c.in_ok-sweep_one.ensures.ok
    c.in_ok-sweep_one.ensures.moved (λ U s. sym c.if-not-branch.true ∙ c.in_ok-sweep_one.ensures.late U s) (c.loop-late.invariant.sweeps T st)).noted

pub returns-then-not-branch-clause-ok : goal.returns-then-not-branch-clause-ok
returns-then-not-branch-clause-ok g c = λ T st.
    (swept_none (g.L.Lookup.found c.args.rows.now) c.args.at c.loop-late.late T c.loop-late.floor.now c.sweep_one.new.floor.now c.args.moves.now c.loop-late.moves c.sweep_one.new.moves c.in_ok-sweep_one.ensures.ok
    c.in_ok-sweep_one.ensures.moved (λ U s. sym c.if-not-branch.true ∙ c.in_ok-sweep_one.ensures.late U s) (c.loop-late.invariant.sweeps T st)).stands

pub returns-clause-ok : goal.returns-clause-ok
returns-clause-ok g c = λ T st.
    (swept_full (g.L.Lookup.found c.args.rows.now) c.args.at c.loop-late.late c.busy-most.result T c.loop-late.floor.now c.args.moves.now c.loop-late.moves (c.busy-most.ensures.trace T st) (omega arith) (c.loop-late.invariant.sweeps T st)).stands

pub returns-clause-moved : goal.returns-clause-moved
returns-clause-moved g c = λ T st.
    (swept_full (g.L.Lookup.found c.args.rows.now) c.args.at c.loop-late.late c.busy-most.result T c.loop-late.floor.now c.args.moves.now c.loop-late.moves (c.busy-most.ensures.trace T st) (omega arith) (c.loop-late.invariant.sweeps T st)).noted

pub returns-clause-late : goal.returns-clause-late
returns-clause-late g c = λ T st.
    (swept_full (g.L.Lookup.found c.args.rows.now) c.args.at c.loop-late.late c.busy-most.result T c.loop-late.floor.now c.args.moves.now c.loop-late.moves (c.busy-most.ensures.trace T st) (omega arith) (c.loop-late.invariant.sweeps T st)).count
