use Rattle.std.proofs.Common.{arith, refl}
use Rattle.ow_day.proofs.Rising.{rose_none}
use Rattle.ow_day.proofs.session.Session.perform.Goals as goal

pub returns-in-Answer : goal.returns-in-Answer
returns-in-Answer g c = rw c.in-Answer.is c.answer.ensures

pub returns-in-Logged : goal.returns-in-Logged
returns-in-Logged g c = rw c.in-Logged.is c.logged.ensures

pub returns-in-Exit : goal.returns-in-Exit
returns-in-Exit g c = rw c.in-Exit.is c.exit.ensures

pub returns-in-NoStart : goal.returns-in-NoStart
returns-in-NoStart g c = rw c.in-NoStart.is c.no_start.ensures

pub returns-in-Gone : goal.returns-in-Gone
returns-in-Gone g c = rw c.in-Gone.is c.gone.ensures

pub returns-in-End : goal.returns-in-End
returns-in-End g c = rw c.in-End.is (0, ((refl, refl, refl), rose_none _ _ (omega arith)))

pub returns-in-Call : goal.returns-in-Call
returns-in-Call g c = rw c.in-Call.is c.call.ensures

pub returns-in-Ask : goal.returns-in-Ask
returns-in-Ask g c = rw c.in-Ask.is c.ask.ensures

pub returns-in-Next : goal.returns-in-Next
returns-in-Next g c = rw c.in-Next.is c.next.ensures

pub returns-in-Fault : goal.returns-in-Fault
returns-in-Fault g c = rw c.in-Fault.is c.reply.ensures

pub returns-in-Sweep : goal.returns-in-Sweep
returns-in-Sweep g c = rw c.in-Sweep.is c.sweep.ensures

pub returns-in-Collect : goal.returns-in-Collect
returns-in-Collect g c = rw c.in-Collect.is c.collect.ensures

pub returns-in-Turn : goal.returns-in-Turn
returns-in-Turn g c = rw c.in-Turn.is c.turn.ensures

pub returns-in-Drain : goal.returns-in-Drain
returns-in-Drain g c = rw c.in-Drain.is c.drain.ensures

pub returns-in-Reopen : goal.returns-in-Reopen
returns-in-Reopen g c = rw c.in-Reopen.is c.reopen.ensures
