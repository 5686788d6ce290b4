use Rattle.std.proofs.Common.{[], inl, refl}
use Rattle.ow_wire.proofs.Came.{gives_nothing}
use Rattle.ow_peer.proofs.Chatting.{ends_so, none_yet}
use Rattle.ow_peer.proofs.Replied.{gave_up, stop}
use Rattle.ow_peer.proofs.talking.connection.Goals as goal

pub returns-in_default-clause-talks : goal.returns-in_default-clause-talks
returns-in_default-clause-talks g c =
    let T = g.C.Clock.tells c.args.clock.now in
    ends_so T _ _ _ _ _ _ [] _ _ _ c.give_up.result (none_yet T _ _ _)
    (stop T _ _ _ _ _ _ [] [] _ _ _ _ (gives_nothing (g.K.Link.left c.args.link.now)) (gave_up T [] _ _ _ _ _ c.give_up.result (inl refl) c.give_up.ensures.gives_up) c.give_up.ensures.left refl refl)
