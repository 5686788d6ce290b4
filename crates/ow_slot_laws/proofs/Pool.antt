-- Where each order is what the rules place, the slots stay within the pool.
use Rattle.std.proofs.Common.{◌≡◌, ℕ, zero, suc, List, [], ◌∷◌, Option, Some, None, replicate, refl, sym, ap, ◌∙◌, arith, subst}
use Rattle.std.specs.List.{AllByRecursion}
use Rattle.std.proofs.lemmas.List.Sums.{sum_by-cons}
use Rattle.ow_traits.specs.declared.prewarms.Prewarm.{Prewarm}
use Rattle.ow_slots.specs.declared.states.State.TheVariants.{Vacant}
use Rattle.ow_slots.specs.declared.states.Slot.{Slot}
use Rattle.ow_slots.specs.Slots.{memory_held, vacant_slot}
use Rattle.ow_slots.specs.State.{IsSized, state_memory, with_state}
use Rattle.ow_slots.proofs.KeyLaws.{key_told}
use Rattle.ow_pool.specs.declared.answers.Head.{Head}
use Rattle.ow_pool.specs.declared.answers.Place.{Place}
use Rattle.ow_pool.specs.declared.answers.Place.TheVariants as places
use Rattle.ow_pool.specs.Keeping.{IsCarriedOut}
use Rattle.ow_traits.specs.Prewarms.{AreWantsSized}
use Rattle.ow_pool.specs.Rules.{IsHeadSized, IsWithinPool, place_of}
use Rattle.ow_pool.proofs.EventLaws.{events_keep}
use Rattle.ow_pool.proofs.OrderLaws.{place_keeps}
use Rattle.ow_slot_laws.specs.Life.{Event, Life, Ran, Prewarming, Removed, Begun, Answered, Lost, Gone, Overran, Reopened, slots_of}
use Rattle.ow_slot_laws.specs.Fitting.{AreFit, ArePlaced, AreWithinPool, IsPlaced, changed, emptied}
use Rattle.ow_slot_laws.proofs.Changing.{begin, changes}

-- vacant slots are within every pool
pub none_held : (slots : List Slot) → memory_held (emptied slots) ≡ 0
none_held [] = refl
none_held (s ∷ slots) =
    let rest = none_held slots in
    let sum = sum_by-cons (λ (x : Slot). state_memory x.state) (with_state (λ state. Vacant) s) (emptied slots) in
    omega (arith, rest, sum)

pub all_vacant : (slots : List Slot) → AllByRecursion (λ (s : Slot). IsSized s.state) (emptied slots)
all_vacant [] = tt
all_vacant (s ∷ slots) = (tt, all_vacant slots)

emptied_within : (slots : List Slot) (pool : ℕ) → IsWithinPool (emptied slots) pool
emptied_within slots pool = let none = none_held slots in record { within = omega (arith, none); sized = all_vacant slots }

emptied_vacant : (n : ℕ) → emptied (replicate n vacant_slot) ≡ replicate n vacant_slot
emptied_vacant zero = refl
emptied_vacant (suc n) = ap (λ slots. vacant_slot ∷ slots) (emptied_vacant n)

begin_within : (n pool : ℕ) → IsWithinPool (slots_of [] n) pool
begin_within n pool =
    let same = emptied_vacant n in
    subst (λ (slots : List Slot). IsWithinPool slots pool) (same ∙ sym (begin n)) (emptied_within (replicate n vacant_slot) pool)

-- what the rules place can be carried out, and stays within the pool
carried : (slots : List Slot) (head : Option Head) (wants : List Prewarm) (pool : ℕ) (place : Place) → IsWithinPool slots pool → IsHeadSized head → AreWantsSized wants
    → place_of slots head wants pool ≡ place → IsCarriedOut slots head pool place
carried slots head wants pool place keeps sized wanted e =
    subst (IsCarriedOut slots head pool) e (place_keeps (λ a b. (key_told a b).0) slots head wants pool keeps sized wanted)

pub event_keeps : (event : Event) (slots : List Slot) (wants : List Prewarm) (pool : ℕ) → AreWantsSized wants → IsPlaced event slots wants pool → IsWithinPool slots pool
    → IsWithinPool (changed event slots) pool
event_keeps (Ran slot run key start at) slots wants pool wanted is keeps =
    (carried slots (Some (record { key = key })) wants pool (places.Run slot start) keeps is.sized wanted is.placed).kept run at
event_keeps (Prewarming slot run kind memory) slots wants pool wanted is keeps =
    (carried slots None wants pool (places.Prewarm slot kind memory) keeps tt wanted is).kept run
event_keeps (Removed ns) slots wants pool wanted is keeps =
    (carried slots (Some is.head) wants pool (places.Remove ns) keeps is.sized wanted is.placed).kept
event_keeps (Begun run at) slots wants pool wanted is keeps = events_keep.begun run at slots pool keeps
event_keeps (Answered run alive at) slots wants pool wanted is keeps = events_keep.answered run alive at slots pool keeps
event_keeps (Lost run) slots wants pool wanted is keeps = events_keep.lost run slots pool keeps
event_keeps (Gone slot generation) slots wants pool wanted is keeps = events_keep.gone slot generation slots pool keeps
event_keeps (Overran run at) slots wants pool wanted is keeps = events_keep.overran run at slots pool keeps
event_keeps Reopened slots wants pool wanted is keeps = emptied_within slots pool

now_within : (L : Life) (n pool : ℕ) → AreWithinPool L n pool → IsWithinPool (slots_of L n) pool
now_within [] n pool all = all
now_within (event ∷ L) n pool all = all.0

-- and so whatever happens
pub kept : (L : Life) (n : ℕ) (wants : List Prewarm) (pool : ℕ) → AreWantsSized wants → AreFit L n → ArePlaced L n wants pool → AreWithinPool L n pool
kept [] n wants pool wanted fit placed = begin_within n pool
kept (event ∷ L) n wants pool wanted fit placed =
    let before = kept L n wants pool wanted fit.1 placed.1 in
    let after = event_keeps event (slots_of L n) wants pool wanted placed.0 (now_within L n pool before) in
    (subst (λ (slots : List Slot). IsWithinPool slots pool) (sym (changes event L n fit)) after, before)
