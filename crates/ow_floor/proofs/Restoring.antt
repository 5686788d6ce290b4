-- Undoing a change of slots gives the slots before it.
use Rattle.std.proofs.Common.{◌≡◌, ◌≤◌, ◌++◌, ℕ, zero, suc, Bool, true, false, List, [], ◌∷◌, Option, Some, None, length, refl, sym, ap, ◌∙◌}
use Rattle.std.specs.List.{position, slice_get}
use Rattle.ow_slots.specs.declared.states.Slot.{Slot}
use Rattle.std.proofs.Math.ListN.{set}
use Rattle.ow_slots.specs.Slots.{IsPlace, change, change_first}
use Rattle.ow_slots.proofs.Changes.{change_past, change_set, place_of}
use Rattle.ow_floor.specs.declared.kept_slots.SlotStep.{SlotStep}
use Rattle.ow_floor.specs.declared.kept_slots.SlotStep.TheVariants.{Was, All}
use Rattle.ow_floor.specs.Undoable.{all_noted, noted_slot, past, restore, restored, run_noted, slot_noted}
use Rattle.ow_pool.proofs.OrderLaws.{none_changed}

pub restored_push : (ss : List SlotStep) (s : SlotStep) (slots : List Slot) → restored (ss ++ s ∷ []) slots ≡ restored ss (restore s slots)
restored_push [] s slots = refl
restored_push (t ∷ ts) s slots = ap (restore t) (restored_push ts s slots)

-- a changed slot that is put back
put_back : (n : ℕ) (f : Slot → Slot) (s : Slot) (slots : List Slot) → slice_get slots n ≡ Some s → change n (λ x. s) (change n f slots) ≡ slots
unfolding change
put_back n f s [] e = cc
put_back zero f s (x ∷ slots) e = let same : x ≡ s = cc in ap (λ y. y ∷ slots) (sym same)
put_back (suc n) f s (x ∷ slots) e = ap (λ ys. x ∷ ys) (put_back n f s slots e)

noted_by : (o : Option Slot) (n : ℕ) (f : Slot → Slot) (ss : List SlotStep) (slots : List Slot) → slice_get slots n ≡ o → restored (noted_slot n o ss) (change n f slots) ≡ restored ss slots
noted_by None n f ss slots e = ap (restored ss) (none_changed n f slots e)
noted_by (Some s) n f ss slots e = restored_push ss (Was n s) (change n f slots) ∙ ap (restored ss) (put_back n f s slots e)

-- what was before stays
pub past_noted : (held : Bool) (n : ℕ) (f : Slot → Slot) (ss : List SlotStep) (slots : List Slot) → past held (restored (slot_noted held n slots ss) (change n f slots)) ≡ past held (restored ss slots)
past_noted true n f ss slots = ap Some (noted_by (slice_get slots n) n f ss slots refl)
past_noted false n f ss slots = refl

pub past_all : (held : Bool) (ss : List SlotStep) (slots vacant : List Slot) → past held (restored (all_noted held slots ss) vacant) ≡ past held (restored ss slots)
past_all true ss slots vacant = ap Some (restored_push ss (All slots) vacant)
past_all false ss slots vacant = refl

-- a change of the first that passes is one at its place
pub first_at : (p : Slot → Bool) (f : Slot → Slot) (slots : List Slot) (n : ℕ) → position p slots ≡ Some n → change_first p f slots ≡ change n f slots
first_at p f slots n e = by_place (place_of p slots (Some n) (sym e))
  where
    by_place : IsPlace p slots n → change_first p f slots ≡ change n f slots
    by_place place = sym (place.changed f) ∙ (ap (λ x. set slots n (f x)) (sym (place.here place.item)) ∙ sym (change_set n f slots place.item place.within))

pub first_none : (p : Slot → Bool) (f : Slot → Slot) (slots : List Slot) → position p slots ≡ None → change_first p f slots ≡ slots
first_none p f slots e = (place_of p slots None (sym e)).1 f

-- nothing is there to put back
pub none_back : (n : ℕ) (s : Slot) (slots : List Slot) → length slots ≤ n → change n (λ x. s) slots ≡ slots
none_back n s slots le = change_past n (λ x. s) slots le

-- one step less to undo
pub restored_less : (ss ts : List SlotStep) (s : SlotStep) (slots later start : List Slot) → ss ≡ ts ++ s ∷ [] → restored ss slots ≡ start → later ≡ restore s slots → restored ts later ≡ start
restored_less ss ts s slots later start e before is = ap (restored ts) is ∙ (sym (restored_push ts s slots) ∙ (ap (λ zs. restored zs slots) (sym e) ∙ before))

-- what was before stays where the first that passes is changed, and its slot was kept where there is one
pub past_first : (held : Bool) (p : Slot → Bool) (f : Slot → Slot) (ss : List SlotStep) (slots : List Slot)
    → past held (restored (run_noted held (position p slots) slots ss) (change_first p f slots)) ≡ past held (restored ss slots)
past_first held p f ss slots = by_place (position p slots) refl
  where
    by_place : (n : Option ℕ) → position p slots ≡ n → past held (restored (run_noted held n slots ss) (change_first p f slots)) ≡ past held (restored ss slots)
    by_place None e = ap (λ xs. past held (restored ss xs)) (first_none p f slots e)
    by_place (Some n) e = ap (λ xs. past held (restored (slot_noted held n slots ss) xs)) (first_at p f slots n e) ∙ past_noted held n f ss slots
