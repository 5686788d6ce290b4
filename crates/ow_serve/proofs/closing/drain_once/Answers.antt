use Rattle.ow_serve.proofs.Whole.{keeps_first}
use Rattle.ow_serve.proofs.closing.drain_once.Goals as goal

pub returns-clause-called : goal.returns-clause-called
returns-clause-called g c = (c.now-at.result, rw c.deref.ensures at c.now-at.ensures, c.drain.ensures.called)

pub returns-clause-first : goal.returns-clause-first
returns-clause-first g c = keeps_first (g.C.Clock.tells c.args.service.now.clock.value) c.drain.result _ _ (c.now-at.result, rw c.deref.ensures at c.now-at.ensures, c.drain.ensures.called)
