use Rattle.std.proofs.Common.{◌∙◌, refl}
use Rattle.ow_board.specs.Board.{size, view_of}
use Rattle.ow_serve.specs.Working.{goes_on, stays}
use Rattle.ow_serve.proofs.Turning.{reaps_so}
use Rattle.ow_serve.proofs.working.reap_on.Goals as goal

pub loop-init : goal.loop-init
loop-init g c = record { pass = c.requires; ran = refl; reaps = stays }

pub loop-preserved : goal.loop-preserved
loop-preserved g c =
    let was = c.loop.invariant in
    record {
      pass = c.reap.ensures.pass.0;
      ran = c.reap.ensures.runner.ran ∙ was.ran;
      reaps = goes_on was.reaps (reaps_so (g.C.Clock.tells c.args.clock.now) c.args.opened c.loop.notes.notes c.reap.new.notes.notes (view_of c.loop.pass) (view_of c.reap.new.pass) (size c.args.shared.now.board) c.reap.result c.reap.ensures.ok c.reap.ensures.err);
    }

pub returns-then-is_over-clause-reapings : goal.returns-then-is_over-clause-reapings
returns-then-is_over-clause-reapings g c = record { view = view_of c.loop.pass; reaps = c.loop.invariant.reaps }
