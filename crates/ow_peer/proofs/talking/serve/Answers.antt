use Rattle.ow_peer.proofs.Replied.{served_by, unserved_by}
use Rattle.ow_peer.proofs.talking.serve.Goals as goal

pub returns-in-Ok-clause-serves : goal.returns-in-Ok-clause-serves
returns-in-Ok-clause-serves g c = served_by (g.C.Clock.tells c.args.clock.now) _ _ _ _ _ _ c.reply.result c.in-Ok.ensures c.reply.ensures.replies

pub returns-in-Err-clause-serves : goal.returns-in-Err-clause-serves
returns-in-Err-clause-serves g c = unserved_by (g.C.Clock.tells c.args.clock.now) _ _ _ _ _ c.give_up.result c.in-Err.ensures c.give_up.ensures.gives_up
