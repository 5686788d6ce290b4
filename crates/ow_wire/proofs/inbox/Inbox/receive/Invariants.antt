use Rattle.std.proofs.Common.{◌≡◌, ◌≤◌, ◌++◌, ℕ, List}
use Rattle.ow_wire.specs.Arrivals.{Gives, IsNeeded}
use Rattle.ow_wire.proofs.inbox.Inbox.receive.Given as goal

abbrev pub invariant-loop : goal.invariant-loop
invariant-loop g l = (came : List ℕ)
    × Gives (g.K.Link.left l.fn.link) (g.K.Link.left l.link) came
    × (l.self ≡ l.fn.self ++ came)
    × IsNeeded l.fn.self came
    × (g.K.Link.taken l.link ≡ g.K.Link.taken l.fn.link)
    × (g.K.Link.faults l.fn.link ≤ g.K.Link.faults l.link)
