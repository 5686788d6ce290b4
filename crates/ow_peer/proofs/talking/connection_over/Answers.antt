use Rattle.std.proofs.Common.{[], inl, refl, arith}
use Rattle.ow_wire.proofs.Came.{gives_nothing}
use Rattle.ow_peer.proofs.Chatting.{ends_so, none_yet, one_more}
use Rattle.ow_peer.proofs.Replied.{gave_up, stop}
use Rattle.ow_peer.proofs.talking.connection_over.Goals as goal

pub returns-in_default-clause-talks : goal.returns-in_default-clause-talks
returns-in_default-clause-talks g c =
    let T = g.C.Clock.tells c.args.clock.now in
    ends_so T _ _ _ _ _ _ [] _ _ _ c.give_up.result (none_yet T _ _ _)
    (stop T _ _ _ _ _ _ [] [] _ _ _ _ (gives_nothing (g.K.Link.left c.args.link.now)) (gave_up T [] _ _ _ _ _ c.give_up.result (inl refl) c.give_up.ensures.gives_up) c.give_up.ensures.left refl refl)

pub returns-in-Some-exchange-clause-talks : goal.returns-in-Some-exchange-clause-talks
returns-in-Some-exchange-clause-talks g c =
    let T = g.C.Clock.tells c.args.clock.now in
    ends_so T _ _ _ _ _ _ _ _ _ _ c.in-Some-exchange.ending c.loop.invariant.so_far c.in-Some-exchange.ensures.exchanged

pub loop-preserved : goal.loop-preserved
loop-preserved g c =
    let T = g.C.Clock.tells c.args.clock.now in
    record {
      so_far = one_more T _ _ _ _ _ _ _ _ _ _ _ c.loop.invariant.so_far c.in_default-exchange.ensures.exchanged;
      later = (let before = c.loop.invariant.later in let now = c.in_default-exchange.ensures.faults_grow in omega (arith, before, now));
    }
