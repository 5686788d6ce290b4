-- What the tests of the memories decide.
use Rattle.std.proofs.Common.{◌≡◌, ◌↔◌, ◌*◌, ◌≤◌, ◌<◌, ◌^◌, ℕ, Bool, true, false, cond, List, [], ◌∷◌, length, refl, sym, ◌∙◌, arith, IsTrue}
use Rattle.std.specs.Prelude.{nat_le}
use Rattle.std.specs.Bool.{Decides}
use Rattle.std.specs.List.{list_all, AllByRecursion}
use Rattle.std.proofs.lemmas.Bool.Decides.{nat_tests, Decides-and}
use Rattle.std.proofs.lemmas.List.Sums.{sum_by-cons}
use Rattle.ow_entity.specs.declared.bounds.TheConstants.{LEAST_MEMORY, MOST_MEMORY}
use Rattle.ow_traits.specs.declared.prewarms.Prewarm.{Prewarm}
use Rattle.ow_slots.specs.declared.states.State.{State}
use Rattle.ow_slots.specs.declared.states.State.TheVariants.{Vacant, Opening, Prewarmed, Busy, Idle, Closing}
use Rattle.ow_slots.specs.declared.states.Slot.{Slot}
use Rattle.ow_slots.specs.Slots.{memory_held}
use Rattle.ow_slots.specs.State.{IsMemory, IsSized, state_memory}
use Rattle.ow_traits.specs.Prewarms.{AreWantsSized}
use Rattle.ow_pool.specs.Rules.{IsWithinPool}
use Rattle.ow_pool.specs.Within.{is_memory, is_sized}
use Rattle.ow_pool.proofs.Sums.{Sized, size}

le_told : (a b : ℕ) → Decides (nat_le a b) (a ≤ b)
le_told a b = (λ e. grind (arith, nat_tests), λ le. grind (arith, nat_tests))

memory_decided : (m : ℕ) → Decides (is_memory m) (IsMemory m)
memory_decided m = Decides-and (nat_le LEAST_MEMORY m) (nat_le m MOST_MEMORY) (le_told LEAST_MEMORY m) (le_told m MOST_MEMORY)

state_decided : (s : State) → Decides (is_sized s) (IsSized s)
state_decided Vacant = (λ e. tt, λ h. refl)
state_decided (Opening r k m) = memory_decided m
state_decided (Prewarmed k m) = memory_decided m
state_decided (Busy w) = memory_decided w.key.memory
state_decided (Idle key last) = memory_decided key.memory
state_decided (Closing m) = memory_decided m

all_decided : {X : Type 0} (p : X → Bool) (P : X → Type 0) → ((x : X) → Decides (p x) (P x)) → (xs : List X) → Decides (list_all p xs) (AllByRecursion P xs)
all_decided p P each [] = (λ e. tt, λ h. refl)
all_decided p P each (x ∷ xs) = Decides-and (p x) (list_all p xs) (each x) (all_decided p P each xs)

through : {P : Type 0} (b r : Bool) → Decides b P → r ≡ b → IsTrue r ↔ P
through b r d e = (λ t. d.0 (sym e ∙ t), λ p. e ∙ d.1 p)

pub memory_told : (m : ℕ) (r : Bool) → r ≡ is_memory m → IsTrue r ↔ IsMemory m
memory_told m r e = through (is_memory m) r (memory_decided m) e

pub wants_told : (wants : List Prewarm) (r : Bool) → r ≡ list_all (λ w. is_memory w.memory) wants → IsTrue r ↔ AreWantsSized wants
wants_told wants r e = through _ r (all_decided (λ (w : Prewarm). is_memory w.memory) (λ (w : Prewarm). IsMemory w.memory) (λ w. memory_decided w.memory) wants) e

pub sized_told : (slots : List Slot) (r : Bool) → r ≡ list_all (λ s. is_sized s.state) slots → IsTrue r ↔ AllByRecursion Sized slots
sized_told slots r e = through _ r (all_decided (λ (s : Slot). is_sized s.state) Sized (λ s. state_decided s.state) slots) e

busy_small : (g : Bool) (m : ℕ) → IsMemory m → cond g 0 m ≤ 512
busy_small true m h = omega arith
busy_small false m h = h.1

state_small : (s : State) → IsSized s → state_memory s ≤ 512
state_small Vacant h = omega arith
state_small (Opening r k m) h = h.1
state_small (Prewarmed k m) h = h.1
state_small (Busy w) h = busy_small w.gone w.key.memory h
state_small (Idle key last) h = h.1
state_small (Closing m) h = h.1

held_small : (slots : List Slot) → AllByRecursion Sized slots → memory_held slots ≤ 512 * length slots
held_small [] all = omega arith
held_small (s ∷ slots) all =
    let here = state_small s.state all.0 in let rest = held_small slots all.1 in let sum = sum_by-cons size s slots in
    omega (arith, here, rest, sum)

-- the sum fits 64 bits
pub held_fits : (slots : List Slot) → AllByRecursion Sized slots → length slots < 2 ^ 32 → memory_held slots < 2 ^ 64
held_fits slots all few = let le = held_small slots all in omega (arith, le, few)

pub within_told : (slots : List Slot) (pool : ℕ) (r : Bool) → AllByRecursion Sized slots → r ≡ nat_le (memory_held slots) pool → IsTrue r ↔ IsWithinPool slots pool
within_told slots pool r all e = (
  λ t. record { within = (le_told (memory_held slots) pool).0 (sym e ∙ t); sized = all },
  λ w. e ∙ (le_told (memory_held slots) pool).1 w.within,
)

not_both : (r : Bool) → r ≡ true → r ≡ false → ⊥
not_both true t f = cc
not_both false t f = cc

pub unsized_told : (slots : List Slot) (pool : ℕ) (r : Bool) → r ≡ list_all (λ s. is_sized s.state) slots → r ≡ false → IsTrue false ↔ IsWithinPool slots pool
unsized_told slots pool r e f = (λ t. cc, λ w. absurd (not_both r ((sized_told slots r e).1 w.sized) f))
