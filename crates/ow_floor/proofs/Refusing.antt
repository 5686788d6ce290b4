-- What is refused leaves the slots.
use Rattle.std.proofs.Common.{◌≡◌, ℕ, zero, suc, Bool, true, false, cond, List, [], ◌∷◌, Option, Some, None, refl, sym, ap, ◌∙◌, subst}
use Rattle.std.specs.List.{slice_get}
use Rattle.std.specs.Prelude.{OnErr, Result, Ok, Err}
use Rattle.ow_slots.specs.declared.refusal.SlotRefusal.{SlotRefusal}
use Rattle.ow_slots.specs.declared.refusal.SlotRefusal.TheVariants as refusals
use Rattle.ow_slots.specs.declared.states.State.{State}
use Rattle.ow_slots.specs.declared.states.Slot.{Slot}
use Rattle.ow_slots.specs.Slots.{change, change_first, first_with, gone_answer, has, run_answer}
use Rattle.ow_slots.specs.State.{after_gone, goes}
use Rattle.ow_pool.proofs.OrderLaws.{none_changed}
use Rattle.ow_floor.proofs.Firsts.{update_none}

pub kept_first : {X : Type 0} (p : State → Bool) (f : Slot → Slot) (g : Slot → X) (run : ℕ) (slots later : List Slot) (r : Result X SlotRefusal) → r ≡ run_answer run g (first_with p slots)
    → later ≡ change_first (has p) f slots → OnErr r (later ≡ slots)
kept_first {X = X} p f g run slots later r is made = subst (λ q. OnErr q (later ≡ slots)) (sym is) (by_found (first_with p slots) refl)
  where
    by_found : (o : Option Slot) → first_with p slots ≡ o → OnErr (run_answer run g o) (later ≡ slots)
    by_found None e = made ∙ update_none (has p) f slots e
    by_found (Some s) e = tt

change_same : (n : ℕ) (f : Slot → Slot) (s : Slot) (slots : List Slot) → slice_get slots n ≡ Some s → f s ≡ s → change n f slots ≡ slots
unfolding change
change_same n f s [] e same = cc
change_same zero f s (x ∷ slots) e same = let here : x ≡ s = cc in ap (λ y. y ∷ slots) (ap f here ∙ (same ∙ sym here))
change_same (suc n) f s (x ∷ slots) e same = ap (λ xs. x ∷ xs) (change_same n f s slots e same)

pub kept_gone : (slot generation : ℕ) (slots later : List Slot) (r : Result (Unit {0}) SlotRefusal) → r ≡ gone_answer slot generation (slice_get slots slot)
    → later ≡ change slot (after_gone generation) slots → OnErr r (later ≡ slots)
kept_gone slot generation slots later r is made = subst (λ (q : Result (Unit {0}) SlotRefusal). OnErr q (later ≡ slots)) (sym is) (by_found (slice_get slots slot) refl)
  where
    answer : Bool → Slot → Result (Unit {0}) SlotRefusal
    answer b s = cond b (Ok tt) (Err (refusals.NoSlot slot s.generation))

    by_test : (s : Slot) (b : Bool) → goes generation s ≡ b → slice_get slots slot ≡ Some s → OnErr (answer b s) (later ≡ slots)
    by_test s true t e = tt
    by_test s false t e = made ∙ change_same slot (after_gone generation) s slots e (rw t refl)

    by_found : (o : Option Slot) → slice_get slots slot ≡ o → OnErr (gone_answer slot generation o) (later ≡ slots)
    by_found None e = made ∙ none_changed slot (after_gone generation) slots e
    by_found (Some s) e = by_test s (goes generation s) refl e
