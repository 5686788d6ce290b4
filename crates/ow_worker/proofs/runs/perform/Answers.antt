use Rattle.std.proofs.Common.{inl}
use Rattle.ow_invoker.proofs.Running.{replied_on, runs_idles}
use Rattle.ow_worker.proofs.Carried.{carried_turns}
use Rattle.ow_worker.proofs.runs.perform.Goals as goal

pub returns-in-Ok-clause-performs : goal.returns-in-Ok-clause-performs
returns-in-Ok-clause-performs g c = carried_turns c.settle.result (record {
  reply = c.in-Ok.reply;
  replies = replied_on (g.R.Runner.tally c.settle.new.runner) c.args.order.kind c.args.order.code c.args.order.params c.in-Ok.reply c.in-Ok.ensures.runs.steady c.settle.ensures.runner.steady.later c.in-Ok.ensures.reply;
  opened = c.tell_begun.new.notes.notes;
  opens = inl (c.requires.started, c.tell_begun.ensures.begun, (runs_idles c.in-Ok.ensures.runs c.settle.ensures.runner).ran);
  settles = c.settle.ensures.settled;
})

pub returns-in-Ok-clause-runner : goal.returns-in-Ok-clause-runner
returns-in-Ok-clause-runner g c = runs_idles c.in-Ok.ensures.runs c.settle.ensures.runner

pub returns-in-Err-clause-runner : goal.returns-in-Err-clause-runner
returns-in-Err-clause-runner g c = runs_idles c.in-Err.ensures.runs c.stop.ensures
