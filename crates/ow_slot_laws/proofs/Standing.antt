-- What holds of the list of slots, and of the runs that they have.
use Rattle.std.proofs.Common.{◌≡◌, ◌≤◌, ℕ, zero, suc, true, Some, sum_by, refl, sym, subst}
use Rattle.std.specs.List.{slice_get}
use Rattle.std.proofs.lemmas.List.Sums.{sum_by-cons}
use Rattle.ow_slots.specs.declared.states.Slot.{Slot}
use Rattle.ow_slots.specs.Slots.{IsThere}
use Rattle.ow_slots.specs.State.{holds, runs, state_memory}
use Rattle.ow_slot_laws.specs.Life.{Life, run_count, share_of, slot_of, slots_of, state_of, table}
use Rattle.ow_slot_laws.specs.Fitting.{AreFit}
use Rattle.ow_slot_laws.specs.Laws.{HasRun, RunsStand, SlotsStand, StandsAt}
use Rattle.ow_slot_laws.proofs.Recording.{recorded_found}
use Rattle.ow_slot_laws.proofs.Running.{busy_right}
use Rattle.ow_slot_laws.proofs.Runs.{counted, held, one_run, runs_holds}
use Rattle.ow_slot_laws.proofs.States.{memory_right}
use Rattle.ow_slot_laws.proofs.Tables.{length-table, there_in}

-- a sum over a table
sum_table : (h : Slot → ℕ) (f : ℕ → Slot) (g : ℕ → ℕ) (k n : ℕ) → ((j : ℕ) → h (f j) ≡ g j) → sum_by h (table f k n) ≡ sum_by (λ m. m) (table g k n)
unfolding table
sum_table h f g k zero same = refl
sum_table h f g k (suc n) same =
    let rest = sum_table h f g (suc k) n same in
    rw (sum_by-cons h (f k) (table f (suc k) n), sum_by-cons (λ (m : ℕ). m) (g k) (table g (suc k) n), same k, rest) refl

-- the slot of a number that is there
pub slot_there : (L : Life) (n i : ℕ) (s : Slot) → slice_get (slots_of L n) i ≡ Some s → slot_of L i ≡ s
slot_there L n i s e =
    let there : IsThere (λ (x : Slot). x ≡ s) (slice_get (slots_of L n) i) = subst (IsThere (λ (x : Slot). x ≡ s)) (sym e) refl in
    there_in (λ (x : Slot). x ≡ s) (slot_of L) n i there

pub slots_stand : (L : Life) (n : ℕ) → AreFit L n → SlotsStand L n
slots_stand L n fit = record {
  count = length-table (slot_of L) 0 n;
  here = slot_there L n;
  memory = memory_right L n fit;
  held = sum_table (λ (s : Slot). state_memory s.state) (slot_of L) (share_of L) 0 n (memory_right L n fit);
}

pub runs_stand : (L : Life) (n : ℕ) → AreFit L n → RunsStand L n
runs_stand L n fit = record {
  alone = one;
  ordered = drawn;
  busy = busy_right L n fit;
  recorded = λ run s. recorded_found (runs run) L n run s (runs_holds run) fit;
  recorded_held = λ run s. recorded_found (holds run) L n run s (λ x h. h) fit;
}
  where
    at : (run i : ℕ) → StandsAt L n run i → holds run (state_of L i) ≡ true
    at run i h = there_in (HasRun run) (slot_of L) n i h

    one : (run i j : ℕ) → StandsAt L n run i → StandsAt L n run j → i ≡ j
    one run i j hi hj = one_run (holds run) run L n fit (λ s h. h) i j (at run i hi) (at run j hj)

    drawn : (run i : ℕ) → StandsAt L n run i → run ≤ run_count L
    drawn run i h = counted L n run i fit (held L run i (at run i h))
