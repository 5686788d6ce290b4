-- The results that a thread may have, and which threads are begun.
use Rattle.std.specs.Prelude.{◌≡◌, ◌++◌, ℕ, Bool, false, List, [], ◌∷◌, Option, Some, None, IsSomeAnd, map}
use Rattle.ow_traits.specs.Runner.{Giving, RanNone, Tally}
use Rattle.ow_desk.specs.Notes.{Notes, no_notes}
use Rattle.ow_peer.specs.Talk.{Talks}
use Rattle.ow_peer.specs.declared.ending.Ending.{Ending}
use Rattle.ow_serve.specs.Working.{MakesReapings, MakesSweeps, MakesTurns, Outset}
use Rattle.ow_serve.specs.declared.duty.Work.{Work}
use Rattle.ow_serve.specs.declared.duty.Work.TheVariants.{Turns, Sweeps, Reaps, Serves}

-- ---- the results that a thread may have

-- a connection over the link that leaves these receipts, where it began with others, and this ending
abbrev pub TalksFrom : {K : Type 0} → (K → Option (List ℕ)) → (K → Option (List ℕ)) → Option ℕ → K → Notes → Notes → Ending → Type 0
TalksFrom left taken tells link n m ending =
    (unread : Option (List ℕ)) × (written : Option (List ℕ)) × Talks tells (left link) unread (taken link) written n m ending

-- who serves a peer leaves its receipts and its ending; the others have no ending, and leave the receipts of their calls. A worker leaves its
-- runner, and so does the reaper, whose runner ran no code, for private clauses
abbrev pub Ends : {K R : Type 0} → (K → Option (List ℕ)) → (K → Option (List ℕ)) → (R → Giving) → (R → Tally) → Outset → Work K R → Notes → Notes → Option Ending → Option R → Type 0
Ends left taken gives tally o (Serves link) n m (Some ending) back = TalksFrom left taken o.tells link n m ending
Ends left taken gives tally o (Serves link) n m None back = ⊥
Ends left taken gives tally o (Turns runner) n m ending back = (ending ≡ None) × IsSomeAnd back (λ r. MakesTurns (gives runner) (tally runner) (tally r) o n m)
Ends left taken gives tally o Sweeps n m ending back = (ending ≡ None) × MakesSweeps o.tells n m
Ends left taken gives tally o (Reaps runner) n m ending back = (ending ≡ None) × IsSomeAnd back (λ r. RanNone (tally runner) (tally r)) × MakesReapings o n m

-- a peer was served, from receipts of nothing on
abbrev pub TalksAlone : {K : Type 0} → (K → Option (List ℕ)) → (K → Option (List ℕ)) → Option ℕ → K → Notes → Ending → Type 0
TalksAlone left taken tells link m ending = TalksFrom left taken tells link no_notes m ending

-- for private clauses
abbrev pub IsServed : {K : Type 0} → (K → Option (List ℕ)) → (K → Option (List ℕ)) → Option ℕ → K → Notes → Option Ending → Type 0
IsServed left taken tells link m told = (ending : Ending) × (told ≡ Some ending) × TalksAlone left taken tells link m ending

-- ---- which threads are begun

-- each task is for what is at its place, for private clauses
abbrev pub AllFor : {T W : Type 0} → (T → W → Type 0) → List T → List W → Type 0
AllFor IsFor [] [] = Unit {0}
AllFor IsFor (t ∷ ts) (w ∷ ws) = IsFor t w × AllFor IsFor ts ws
AllFor IsFor ts ws = ⊥

-- tasks were started for these, in order, for private clauses
pub record AllStarted {T W : Type 0} (IsFor : T → W → Type 0) (works : List W) (old new : List (T × Bool)) : Type 0 where
  pub started : List T
  pub tasks : new ≡ old ++ map (λ t. (t, false)) started
  pub all_for : AllFor IsFor started works

-- for each runner but the last a task that makes turns, then one that sweeps, and one that reaps with the last runner, for private clauses
pub record BeginsAll {T K R : Type 0} (IsFor : T → Work K R → Type 0) (runners : List R) (old new : List (T × Bool)) : Type 0 where
  pub workers : List R
  pub last : R
  pub runners_are : runners ≡ workers ++ last ∷ []
  pub begun : AllStarted IsFor (map (λ r. Turns r) workers ++ Sweeps ∷ Reaps last ∷ []) old new
