use Rattle.std.proofs.Common.{refl}
use Rattle.ow_invoker.proofs.Running.{idles_refl, idles_trans}
use Rattle.ow_serve.specs.Working.{goes_on, stays}
use Rattle.ow_serve.proofs.working.book_on.Goals as goal

pub loop-init : goal.loop-init
loop-init g c = record { pass = c.requires; runner = idles_refl _ _; books = stays }

pub loop-preserved : goal.loop-preserved
loop-preserved g c =
    let was = c.loop.invariant in
    let one = c.again-turned.ensures in
    record {
      pass = one.pass.0;
      runner = idles_trans was.runner one.runner;
      books = goes_on was.books (record {
        job = c.loop.job;
        turn = c.again-turned.result;
        is_left = refl;
        booked = one.booked;
        others = one.others;
        leaves = c.in-Some-left.ensures;
        later = one.runner.steady.later;
        ran = one.runner.ran;
      });
    }

pub returns-in-None-left-clause-runner : goal.returns-in-None-left-clause-runner
returns-in-None-left-clause-runner g c = idles_trans c.loop.invariant.runner c.again-turned.ensures.runner

pub returns-in-None-left-clause-books : goal.returns-in-None-left-clause-books
returns-in-None-left-clause-books g c =
    let one = c.again-turned.ensures in
    goes_on c.loop.invariant.books (record {
      job = c.loop.job;
      turn = c.again-turned.result;
      is_left = refl;
      booked = one.booked;
      others = one.others;
      leaves = c.in-None-left.ensures;
      later = one.runner.steady.later;
      ran = one.runner.ran;
    })
