-- What changes of slots do to the memory held, and to facts that hold of each slot.
use Rattle.std.proofs.Common.{◌≡◌, ◌+◌, ◌≤◌, ℕ, zero, suc, Bool, true, false, cond, List, [], ◌∷◌, Some, refl, arith}
use Rattle.std.specs.List.{slice_get, AllByRecursion}
use Rattle.std.proofs.lemmas.List.Sums.{sum_by-cons}
use Rattle.ow_slots.specs.declared.states.Slot.{Slot}
use Rattle.ow_slots.specs.Slots.{change, change_first, memory_held}
use Rattle.ow_slots.specs.State.{state_memory, IsSized}

abbrev pub size : Slot → ℕ
size s = state_memory s.state

abbrev pub Sized : Slot → Type 0
Sized s = IsSized s.state

-- what a change of one slot does to the sum
pub held_change : (n : ℕ) (g : Slot → Slot) (slots : List Slot) (s : Slot) → slice_get slots n ≡ Some s → memory_held (change n g slots) + size s ≡ memory_held slots + size (g s)
unfolding change
held_change n g [] s e = cc
held_change zero g (x ∷ slots) s e =
    let same : x ≡ s = cc in
    let a = sum_by-cons size (g x) slots in let b = sum_by-cons size x slots in
    rw (← same) (omega (arith, a, b))
held_change (suc n) g (x ∷ slots) s e =
    let rest = held_change n g slots s e in
    let a = sum_by-cons size x (change n g slots) in let b = sum_by-cons size x slots in
    omega (arith, a, b, rest)

pub less_first : (p : Slot → Bool) (g : Slot → Slot) (slots : List Slot) → ((s : Slot) → p s ≡ true → size (g s) ≤ size s) → memory_held (change_first p g slots) ≤ memory_held slots
unfolding change_first
less_first p g [] less = omega arith
less_first p g (s ∷ slots) less = at (p s) refl (less_first p g slots less)
  where
    at : (b : Bool) → p s ≡ b → memory_held (change_first p g slots) ≤ memory_held slots → memory_held (cond b (g s ∷ slots) (s ∷ change_first p g slots)) ≤ memory_held (s ∷ slots)
    at true e rest = let h = less s e in let a = sum_by-cons size (g s) slots in let b = sum_by-cons size s slots in omega (arith, a, b, h)
    at false e rest = let a = sum_by-cons size s (change_first p g slots) in let b = sum_by-cons size s slots in omega (arith, a, b, rest)

pub less_change : (n : ℕ) (g : Slot → Slot) (slots : List Slot) → ((s : Slot) → size (g s) ≤ size s) → memory_held (change n g slots) ≤ memory_held slots
unfolding change
less_change n g [] less = omega arith
less_change zero g (s ∷ slots) less = let h = less s in let a = sum_by-cons size (g s) slots in let b = sum_by-cons size s slots in omega (arith, a, b, h)
less_change (suc n) g (s ∷ slots) less = let rest = less_change n g slots less in let a = sum_by-cons size s (change n g slots) in let b = sum_by-cons size s slots in omega (arith, a, b, rest)

-- a fact of each slot that a change keeps
pub all_change : (P : Slot → Type 0) (n : ℕ) (g : Slot → Slot) (slots : List Slot) → ((s : Slot) → P s → P (g s)) → AllByRecursion P slots → AllByRecursion P (change n g slots)
unfolding change
all_change P n g [] keeps all = tt
all_change P zero g (s ∷ slots) keeps all = (keeps s all.0, all.1)
all_change P (suc n) g (s ∷ slots) keeps all = (all.0, all_change P n g slots keeps all.1)

pub all_first : (P : Slot → Type 0) (p : Slot → Bool) (g : Slot → Slot) (slots : List Slot) → ((s : Slot) → P s → P (g s)) → AllByRecursion P slots → AllByRecursion P (change_first p g slots)
unfolding change_first
all_first P p g [] keeps all = tt
all_first P p g (s ∷ slots) keeps all = at (p s) (all_first P p g slots keeps all.1)
  where
    at : (b : Bool) → AllByRecursion P (change_first p g slots) → AllByRecursion P (cond b (g s ∷ slots) (s ∷ change_first p g slots))
    at true rest = (keeps s all.0, all.1)
    at false rest = (all.0, rest)
