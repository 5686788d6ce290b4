-- The peers that are accepted, in order, and who serves each.
use Rattle.std.specs.Prelude.{◌≡◌, ◌≤◌, ◌⊎◌, ◌++◌, ℕ, Bool, false, List, [], ◌∷◌, Option, Some, None, length, map}
use Rattle.ow_threads.specs.declared.tasks.Begun.{Begun}
use Rattle.ow_threads.specs.declared.tasks.Begun.TheVariants.{Started, Ran, Refused}
use Rattle.ow_desk.specs.Notes.{Notes}
use Rattle.ow_peer.specs.declared.ending.Ending.{Ending}
use Rattle.ow_serve.specs.declared.accepting.Stopped.{Stopped}
use Rattle.ow_serve.specs.declared.accepting.Stopped.TheVariants as stops

-- of a listener that reports its peers: the peers that it gave, and the ones that are still to come
abbrev pub AcceptsAll : {K : Type 0} → Option (List K) → List K → Option (List K) → Type 0
AcceptsAll None peers new = new ≡ None
AcceptsAll (Some all) peers new = (rest : List _) × (all ≡ peers ++ rest) × (new ≡ Some rest)

-- none is still to come, where the listener reports it
abbrev pub HasNoPeer : {K : Type 0} → Option (List K) → Type 0
HasNoPeer None = Unit {0}
HasNoPeer (Some peers) = peers ≡ []

module _ {T K D : Type 0} (IsFor : T → K → Type 0) (Serves : K → D → Type 0) where
  -- each peer has its result, where the service itself served it, or else a task that was started is for it, for private clauses
  abbrev pub Seats : List T → List K → List (Option D) → Type 0
  Seats ts ks [] = (ts ≡ []) × (ks ≡ [])
  Seats ts [] (seat ∷ seats) = ⊥
  Seats ts (k ∷ ks) (Some d ∷ seats) = Serves k d × Seats ts ks seats
  Seats [] (k ∷ ks) (None ∷ seats) = ⊥
  Seats (t ∷ ts) (k ∷ ks) (None ∷ seats) = IsFor t k × Seats ts ks seats

  -- the peers that were accepted, and the tasks that were started for them, for private clauses
  pub record Seated (old new : Option (List K)) (before now : List (T × Bool)) (seats : List (Option D)) : Type 0 where
    pub peers : List K
    pub started : List T
    pub accepts : AcceptsAll old peers new
    pub tasks : now ≡ before ++ map (λ t. (t, false)) started
    pub seated : Seats started peers seats

  -- none is accepted any more: no peer is left, or `most` came, or the listener failed; no more came than `most`, for private clauses
  abbrev pub AcceptsPeers : Option (List K) → Option (List K) → List (T × Bool) → List (T × Bool) → ℕ → List (Option D) → Stopped → Type 0
  AcceptsPeers old new before now most seats stops.Closed = Seated old new before now seats × (length seats ≤ most) × (HasNoPeer new ⊎ (length seats ≡ most))
  AcceptsPeers old new before now most seats stops.Fault = Seated old new before now seats × (length seats ≤ most)
  AcceptsPeers old new before now most seats stops.NoMemory = Unit {0}

-- each peer has been served, for lemmas
abbrev pub AllServed : {K D : Type 0} → (K → D → Type 0) → List K → List D → Type 0
AllServed Serves [] [] = Unit {0}
AllServed Serves [] (d ∷ ds) = ⊥
AllServed Serves (k ∷ ks) [] = ⊥
AllServed Serves (k ∷ ks) (d ∷ ds) = Serves k d × AllServed Serves ks ds

-- the seat of a peer whose task was begun, for private clauses
abbrev pub seat_of : {D : Type 0} → Begun D → Option (Option D)
seat_of Started = Some None
seat_of (Ran done) = Some (Some done)
seat_of Refused = None

-- the results of tasks take the seats that are free, for private clauses
abbrev pub filled : {D : Type 0} → List (Option D) → List D → List D
filled [] ds = []
filled (Some d ∷ seats) ds = d ∷ filled seats ds
filled (None ∷ seats) [] = filled seats []
filled (None ∷ seats) (d ∷ ds) = d ∷ filled seats ds

-- the endings that there are, for private clauses
abbrev pub endings_in : List (Option Ending) → List Ending
endings_in [] = []
endings_in (Some ending ∷ told) = ending ∷ endings_in told
endings_in (None ∷ told) = endings_in told

-- each peer has its receipts and its ending, in order
abbrev pub AllTalk : {K : Type 0} → (K → Notes → Ending → Type 0) → List K → List Notes → List Ending → Type 0
AllTalk Talks [] [] [] = Unit {0}
AllTalk Talks (k ∷ ks) (n ∷ ns) (e ∷ es) = Talks k n e × AllTalk Talks ks ns es
AllTalk Talks ks ns es = ⊥
