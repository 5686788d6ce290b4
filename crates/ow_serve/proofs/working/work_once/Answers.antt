use Rattle.std.proofs.Common.{Some, None}
use Rattle.ow_invoker.proofs.Running.{steady_trans}
use Rattle.ow_serve.specs.Working.{stays}
use Rattle.ow_serve.proofs.Turning.{works_so}
use Rattle.ow_serve.proofs.working.work_once.Goals as goal

pub returns-in-Turn-clause-works : goal.returns-in-Turn-clause-works
returns-in-Turn-clause-works g c = works_so c.turn-turned.result _ None c.in-Turn.ensures c.turn-turned.ensures.turned c.turn-turned.ensures.runner.later stays

pub returns-in-Pause-clause-works : goal.returns-in-Pause-clause-works
returns-in-Pause-clause-works g c = works_so c.turn-turned.result _ None c.in-Pause.ensures c.turn-turned.ensures.turned c.turn-turned.ensures.runner.later stays

pub returns-in-Book-clause-runner : goal.returns-in-Book-clause-runner
returns-in-Book-clause-runner g c = steady_trans c.turn-turned.ensures.runner c.book_on.ensures.runner.steady

pub returns-in-Book-clause-works : goal.returns-in-Book-clause-works
returns-in-Book-clause-works g c =
    works_so c.turn-turned.result _ (Some c.in-Book.job) c.in-Book.ensures c.turn-turned.ensures.turned c.turn-turned.ensures.runner.later c.book_on.ensures.books
