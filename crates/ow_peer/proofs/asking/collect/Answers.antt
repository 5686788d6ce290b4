use Rattle.ow_peer.proofs.asking.collect.Goals as goal

pub returns : goal.returns
returns g c = (c.now.result, c.now.ensures, c.collect.ensures.called)
