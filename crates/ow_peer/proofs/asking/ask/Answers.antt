use Rattle.ow_peer.proofs.asking.ask.Goals as goal

pub returns : goal.returns
returns g c =
    let x = c.ask.ensures.called in
    (x.0, x.1, (c.now.result, c.now.ensures, x.2))
