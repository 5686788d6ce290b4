-- Which slots can be removed, in which order, and when they make room.
use Rattle.std.specs.Prelude.{◌≡◌, ◌==◌, ◌+◌, ◌&&◌, ◌||◌, ℕ, suc, Bool, true, false, List, [], ◌∷◌, ◌++◌, Option, Some, None, if◌then◌else◌, nat_lt, map}
use Rattle.std.specs.List.{list_any, slice_get, AllByRecursion}
use Rattle.ow_slots.specs.Slots.{IsThere}
use Rattle.ow_slots.specs.declared.states.State.{State}
use Rattle.ow_slots.specs.declared.states.State.TheVariants.{Prewarmed, Idle, Closing}
use Rattle.ow_slots.specs.declared.states.Slot.{Slot}
use Rattle.ow_slots.specs.State.{state_memory}
use Rattle.ow_pool.specs.declared.candidates.Candidate.{Candidate}

abbrev pub is_closing : State → Bool
is_closing (Closing memory) = true
is_closing state = false

-- idle containers come first, by last use, then prewarmed ones; ties by number
abbrev pub is_before : Candidate → Candidate → Bool
is_before x y =
    if x.prewarmed then (y.prewarmed && nat_lt x.slot y.slot)
    else (y.prewarmed || (nat_lt x.last_used y.last_used || ((x.last_used == y.last_used) && nat_lt x.slot y.slot)))

-- an idle or a prewarmed container can be removed
abbrev pub candidate_in : ℕ → State → Option Candidate
candidate_in n (Idle key last_used) = Some (record { slot = n; memory = key.memory; prewarmed = false; last_used = last_used })
candidate_in n (Prewarmed kind memory) = Some (record { slot = n; memory = memory; prewarmed = true; last_used = 0 })
candidate_in n state = None

-- a candidate at its place
unfoldable pub put : Candidate → List Candidate → List Candidate
put x [] = x ∷ []
put x (y ∷ ys) = if is_before y x then y ∷ put x ys else x ∷ y ∷ ys

abbrev pub put_if : Option Candidate → List Candidate → List Candidate
put_if None ys = ys
put_if (Some x) ys = put x ys

-- the candidates among the slots that are numbered from n on, in order
abbrev pub candidates_from : ℕ → List Slot → List Candidate
candidates_from n [] = []
candidates_from n (s ∷ slots) = put_if (candidate_in n s.state) (candidates_from (suc n) slots)

abbrev pub has_slot : ℕ → Candidate → Bool
has_slot n c = c.slot == n

-- a slot is among these
abbrev pub is_among : List Candidate → ℕ → Bool
is_among cs n = list_any (has_slot n) cs

-- the memory that a slot holds, where it is neither closing nor in the set
abbrev pub share_outside : (ℕ → Bool) → ℕ → Slot → ℕ
share_outside set n s = if is_closing s.state || set n then 0 else state_memory s.state

-- the memory held outside a set, by slots that aren't closing; they are numbered from n on
abbrev pub outside : (ℕ → Bool) → ℕ → List Slot → ℕ
outside set n [] = 0
outside set n (s ∷ slots) = share_outside set n s + outside set (suc n) slots

-- the shortest prefix of a list that passes, among the prefixes longer than what is done
abbrev pub shortest : (List Candidate → Bool) → List Candidate → List Candidate → Option (List Candidate)
shortest passes done [] = None
shortest passes done (c ∷ left) = if passes (done ++ c ∷ []) then Some (done ++ c ∷ []) else shortest passes (done ++ c ∷ []) left

-- the numbers of the slots
abbrev pub numbers_of : Option (List Candidate) → Option (List ℕ)
numbers_of None = None
numbers_of (Some cs) = Some (map (λ c. c.slot) cs)

-- a slot is this candidate
abbrev pub IsCandidate : ℕ → Candidate → Slot → Type 0
IsCandidate n c s = candidate_in n s.state ≡ Some c

-- each comes before all that are removed later
abbrev pub AreInOrder : List Candidate → Type 0
AreInOrder [] = Unit {0}
AreInOrder (c ∷ cs) = AllByRecursion (λ d. is_before c d ≡ true) cs × AreInOrder cs

-- each slot whose container can be removed, and no other, in their order
pub record AreCandidates (slots : List Slot) (cs : List Candidate) : Type 0 where
  pub ordered : AreInOrder cs
  pub only : AllByRecursion (λ c. IsThere (IsCandidate c.slot c) (slice_get slots c.slot)) cs
  pub each : (n : ℕ) (x : Candidate) → IsThere (IsCandidate n x) (slice_get slots n) → is_among cs n ≡ true
