-- Which peer an accept gives.
use Rattle.std.specs.Prelude.{◌≡◌, List, [], ◌∷◌, Option, Some, None, Result, Ok, Err}
use Rattle.ow_traits.specs.declared.streams.Failed.{Failed}
use Rattle.ow_links.specs.declared.listeners.Accepted.{Accepted}
use Rattle.ow_links.specs.declared.listeners.Accepted.TheVariants.{Peer, Closed}

-- for a listener that reports its peers: the first peer that is still to come, or Closed exactly where none is; a fault leaves them
abbrev pub Accepts : {L : Type 0} → Option (List L) → Option (List L) → Result (Accepted L) Failed → Type 0
Accepts None new result = new ≡ None
Accepts (Some peers) new (Ok (Peer link)) = (rest : List _) × (peers ≡ link ∷ rest) × (new ≡ Some rest)
Accepts (Some peers) new (Ok Closed) = (peers ≡ []) × (new ≡ Some [])
Accepts (Some peers) new (Err e) = new ≡ Some peers
