-- For private clauses: the result of an accept of a socket.
use Rattle.std.specs.Prelude.{◌≡◌, ℕ}
use Rattle.ow_links.specs.declared.listeners.Accepted.{Accepted}
use Rattle.ow_links.specs.declared.listeners.Accepted.TheVariants.{Peer, Closed}

-- a peer came, whose link has no fault yet
abbrev pub IsNewPeer : {L : Type 0} → (L → ℕ) → Accepted L → Type 0
IsNewPeer faults (Peer link) = faults link ≡ 0
IsNewPeer faults Closed = ⊥
