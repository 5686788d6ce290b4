use Rattle.std.proofs.Common.{inl, refl}
use Rattle.ow_peer.proofs.Replied.{asked_by, cut_by, gave_up, over_link, refused_by, stop}
use Rattle.ow_peer.proofs.talking.exchange.Goals as goal

pub returns-in-Asked-clause-exchanged : goal.returns-in-Asked-clause-exchanged
returns-in-Asked-clause-exchanged g c =
    let T = g.C.Clock.tells c.args.clock.now in
    let r = c.in-Asked.ensures.received in
    over_link T _ _ _ _ _ _ _ _ _ _ c.serve.result (asked_by T _ _ _ _ c.args.reader.now.inbox r.0 _ c.in-Asked.request _ _ c.serve.result r.1 r.2.0 r.2.1 c.serve.ensures.serves) c.serve.ensures.left c.receive.ensures.taken

pub returns-in-Refused-clause-exchanged : goal.returns-in-Refused-clause-exchanged
returns-in-Refused-clause-exchanged g c =
    let T = g.C.Clock.tells c.args.clock.now in
    let r = c.in-Refused.ensures.received in
    stop T _ _ _ _ _ _ c.args.reader.now.inbox r.0 _ _ _ _ r.1 (refused_by T _ _ _ _ _ c.in-Refused.e c.tell.result r.2.0 r.2.1 c.tell.ensures.sent) c.tell.ensures.left c.receive.ensures.taken c.ending_of.ensures

pub returns-in-CutShort-clause-exchanged : goal.returns-in-CutShort-clause-exchanged
returns-in-CutShort-clause-exchanged g c =
    let T = g.C.Clock.tells c.args.clock.now in
    let r = c.in-CutShort.ensures.received in
    stop T _ _ _ _ _ _ c.args.reader.now.inbox r.0 _ _ _ _ r.1 (cut_by T _ _ _ _ _ c.tell-sent.result r.2.0 r.2.1 r.2.2 c.tell-sent.ensures.sent) c.tell-sent.ensures.left c.receive.ensures.taken c.ending_of-in-CutShort.ensures

pub returns-in-NoMemory-clause-exchanged : goal.returns-in-NoMemory-clause-exchanged
returns-in-NoMemory-clause-exchanged g c =
    let T = g.C.Clock.tells c.args.clock.now in
    let r = c.in-NoMemory.ensures.received in
    stop T _ _ _ _ _ _ c.args.reader.now.inbox r.0 _ _ _ _ r.1 (gave_up T _ _ _ _ _ _ c.give_up.result (inl refl) c.give_up.ensures.gives_up) c.give_up.ensures.left c.receive.ensures.taken refl

pub returns-in-Fault-clause-exchanged : goal.returns-in-Fault-clause-exchanged
returns-in-Fault-clause-exchanged g c =
    let r = c.in-Fault.ensures.received in
    record { came = r.0; gives = r.1; ends = (r.2, refl, c.receive.ensures.taken) }
