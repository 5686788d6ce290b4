-- A slot is busy with each run that was ordered and hasn't ended, and with no other.
use Rattle.std.proofs.Common.{◌≡◌, ◌==◌, ◌&&◌, ◌||◌, ℕ, zero, suc, Bool, true, false, cond, not, List, [], ◌∷◌, Option, Some, None, refl, sym, ap, ◌∙◌, subst}
use Rattle.std.specs.Prelude.{is_none}
use Rattle.std.specs.List.{list_any, slice_get}
use Rattle.std.proofs.lemmas.Bool.{eqb-true}
use Rattle.ow_slots.specs.declared.keys.Key.{Key}
use Rattle.ow_slots.specs.declared.keys.Start.{Start}
use Rattle.ow_slots.specs.declared.keys.Start.TheVariants as starts
use Rattle.ow_slots.specs.declared.states.State.{State}
use Rattle.ow_slots.specs.declared.states.State.TheVariants.{Vacant, Opening, Prewarmed, Busy, Idle, Closing}
use Rattle.ow_slots.specs.declared.states.Slot.{Slot}
use Rattle.ow_slots.specs.Slots.{IsThere, change, change_first, has}
use Rattle.ow_slots.specs.State.{IsVacant, StartFits, after_gone, answered_state, assigned, awaits, begun_state, gone_state, goes, holds, is_idle, is_prewarmed, is_vacant, lost_state, opened, overrun_state, removed_state, runs, with_state}
use Rattle.ow_pool.specs.Keeping.{removed}
use Rattle.ow_slot_laws.specs.Life.{Event, Life, Ran, Prewarming, Removed, Begun, Answered, Lost, Gone, Overran, Reopened, is_running, slot_of, slots_of, state_of, table}
use Rattle.ow_slot_laws.specs.Fitting.{AreFit, IsAny, emptied}
use Rattle.ow_slot_laws.proofs.Changing.{changes, some_slot}
use Rattle.ow_slot_laws.proofs.Runs.{runs_holds}
use Rattle.ow_slot_laws.proofs.States.{state_answered, state_lost, when}

-- some slot is busy with the run
abbrev is_busy : ℕ → List Slot → Bool
is_busy run slots = list_any (has (runs run)) slots

-- a change of one slot
any_change : (p : Slot → Bool) (g : Slot → Slot) (n : ℕ) (slots : List Slot) (s : Slot) → slice_get slots n ≡ Some s → p s ≡ false
    → list_any p (change n g slots) ≡ (p (g s) || list_any p slots)
unfolding change
any_change p g n [] s e quiet = cc
any_change p g zero (x ∷ slots) s e quiet =
    let same : x ≡ s = cc in
    rw (same, quiet) refl
any_change p g (suc n) (x ∷ slots) s e quiet = rw (any_change p g n slots s e quiet) (turned (p x) (p (g s)) (list_any p slots))
  where
    turned : (a b c : Bool) → (a || (b || c)) ≡ (b || (a || c))
    turned true true c = refl
    turned true false c = refl
    turned false b c = refl

same_change : (p : Slot → Bool) (g : Slot → Slot) → ((s : Slot) → p (g s) ≡ p s) → (n : ℕ) (slots : List Slot) → list_any p (change n g slots) ≡ list_any p slots
unfolding change
same_change p g same n [] = refl
same_change p g same zero (s ∷ slots) = rw (same s) refl
same_change p g same (suc n) (s ∷ slots) = rw (same_change p g same n slots) refl

same_first : (p q : Slot → Bool) (g : Slot → Slot) → ((s : Slot) → q s ≡ true → p (g s) ≡ p s) → (slots : List Slot) → list_any p (change_first q g slots) ≡ list_any p slots
unfolding change_first
same_first p q g same [] = refl
same_first p q g same (s ∷ slots) = by_test (q s) refl (same_first p q g same slots)
  where
    by_test : (b : Bool) → q s ≡ b → list_any p (change_first q g slots) ≡ list_any p slots
        → list_any p (cond b (g s ∷ slots) (s ∷ change_first q g slots)) ≡ list_any p (s ∷ slots)
    by_test true e rest = rw (same s e) refl
    by_test false e rest = rw rest refl

none_table : (p : Slot → Bool) (f : ℕ → Slot) (k n : ℕ) → ((j : ℕ) → p (f j) ≡ false) → list_any p (table f k n) ≡ false
unfolding table
none_table p f k zero quiet = refl
none_table p f k (suc n) quiet = rw (quiet k, none_table p f (suc k) n quiet) refl

none_emptied : (run : ℕ) (slots : List Slot) → is_busy run (emptied slots) ≡ false
none_emptied run [] = refl
none_emptied run (s ∷ slots) = none_emptied run slots

-- what no event but an order, an answer and a loss makes of it
pub begun_same : (run at : ℕ) (s : State) → runs run (begun_state at s) ≡ runs run s
begun_same run at Vacant = refl
begun_same run at (Opening r kind memory) = refl
begun_same run at (Prewarmed kind memory) = refl
begun_same run at (Busy w) = refl
begun_same run at (Idle key last) = refl
begun_same run at (Closing memory) = refl

pub overrun_same : (run at : ℕ) (s : State) → runs run (overrun_state at s) ≡ runs run s
overrun_same run at Vacant = refl
overrun_same run at (Opening r kind memory) = refl
overrun_same run at (Prewarmed kind memory) = refl
overrun_same run at (Busy w) = refl
overrun_same run at (Idle key last) = refl
overrun_same run at (Closing memory) = refl

pub removed_same : (run : ℕ) (s : State) → runs run (removed_state s) ≡ runs run s
removed_same run Vacant = refl
removed_same run (Opening r kind memory) = refl
removed_same run (Prewarmed kind memory) = refl
removed_same run (Busy w) = refl
removed_same run (Idle key last) = refl
removed_same run (Closing memory) = refl

gone_same : (run : ℕ) (s : State) → runs run (gone_state s) ≡ runs run s
gone_same run Vacant = refl
gone_same run (Opening r kind memory) = refl
gone_same run (Prewarmed kind memory) = refl
gone_same run (Busy w) = refl
gone_same run (Idle key last) = refl
gone_same run (Closing memory) = refl

pub after_gone_same : (run generation : ℕ) (s : Slot) → runs run (after_gone generation s).state ≡ runs run s.state
after_gone_same run generation s = by_test (goes generation s)
  where
    by_test : (b : Bool) → runs run (cond b (with_state gone_state s) s).state ≡ runs run s.state
    by_test true = gone_same run s.state
    by_test false = refl

removed_all_same : (run : ℕ) (ns : List ℕ) (slots : List Slot) → is_busy run (removed ns slots) ≡ is_busy run slots
removed_all_same run [] slots = refl
removed_all_same run (n ∷ ns) slots =
    removed_all_same run ns (change n (with_state removed_state) slots)
    ∙ same_change (has (runs run)) (with_state removed_state) (λ s. removed_same run s.state) n slots

-- no run is in a slot in which another starts
idle_free : (run : ℕ) (s : State) → is_idle s ≡ true → runs run s ≡ false
idle_free run Vacant h = refl
idle_free run (Opening r kind memory) h = refl
idle_free run (Prewarmed kind memory) h = refl
idle_free run (Busy w) h = cc
idle_free run (Idle key last) h = refl
idle_free run (Closing memory) h = refl

prewarmed_free : (run : ℕ) (s : State) → is_prewarmed s ≡ true → runs run s ≡ false
prewarmed_free run Vacant h = refl
prewarmed_free run (Opening r kind memory) h = refl
prewarmed_free run (Prewarmed kind memory) h = refl
prewarmed_free run (Busy w) h = cc
prewarmed_free run (Idle key last) h = refl
prewarmed_free run (Closing memory) h = refl

pub vacant_free : (run : ℕ) (s : State) → is_vacant s ≡ true → runs run s ≡ false
vacant_free run Vacant h = refl
vacant_free run (Opening r kind memory) h = refl
vacant_free run (Prewarmed kind memory) h = refl
vacant_free run (Busy w) h = cc
vacant_free run (Idle key last) h = refl
vacant_free run (Closing memory) h = refl

pub start_free : (start : Start) (run : ℕ) (s : Slot) → StartFits start s → runs run s.state ≡ false
start_free starts.Warm run s fits = idle_free run s.state fits
start_free starts.Prewarmed run s fits = prewarmed_free run s.state fits
start_free starts.Cold run s fits = vacant_free run s.state fits.0

-- a change of a slot that had no run
placed : (P : Slot → Type 0) (run n : ℕ) (g : Slot → Slot) (slots : List Slot) (b : Bool) → ((s : Slot) → P s → runs run s.state ≡ false) → ((s : Slot) → runs run (g s).state ≡ b)
    → IsThere P (slice_get slots n) → is_busy run (change n g slots) ≡ (b || is_busy run slots)
placed P run n g slots b free new there = by_found (slice_get slots n) refl there
  where
    by_found : (found : Option Slot) → slice_get slots n ≡ found → IsThere P found → is_busy run (change n g slots) ≡ (b || is_busy run slots)
    by_found None e h = absurd h
    by_found (Some s) e h = any_change (has (runs run)) g n slots s e (free s h) ∙ ap (λ (x : Bool). x || is_busy run slots) (new s)

-- a state that had another run
other : (w r run : ℕ) → (r == run) ≡ false → (w == r) ≡ true → (w == run) ≡ false
other w r run apart e = subst (λ (k : ℕ). (k == run) ≡ false) (sym (eqb-true w r e)) apart

answered_busy : (run at : ℕ) (key : Key) (g c : Bool) (m : ℕ) → runs run (cond g Vacant (cond c (Idle key at) (Closing m))) ≡ false
answered_busy run at key true c m = refl
answered_busy run at key false true m = refl
answered_busy run at key false false m = refl

answered_free : (run r : ℕ) (alive : Bool) (at : ℕ) (s : State) → runs r s ≡ true → runs run (answered_state alive at s) ≡ false
answered_free run r alive at Vacant h = cc
answered_free run r alive at (Opening q kind memory) h = cc
answered_free run r alive at (Prewarmed kind memory) h = cc
answered_free run r alive at (Busy w) h = answered_busy run at w.key w.gone (alive && is_none w.recorded) w.key.memory
answered_free run r alive at (Idle key last) h = cc
answered_free run r alive at (Closing memory) h = cc

lost_busy : (run : ℕ) (g : Bool) (m : ℕ) → runs run (cond g Vacant (Closing m)) ≡ false
lost_busy run true m = refl
lost_busy run false m = refl

lost_free : (run r : ℕ) (s : State) → holds r s ≡ true → runs run (lost_state s) ≡ false
lost_free run r Vacant h = cc
lost_free run r (Opening q kind memory) h = refl
lost_free run r (Prewarmed kind memory) h = cc
lost_free run r (Busy w) h = lost_busy run w.gone w.key.memory
lost_free run r (Idle key last) h = cc
lost_free run r (Closing memory) h = cc

other_free : (run r : ℕ) (s : State) → (r == run) ≡ false → holds r s ≡ true → runs run s ≡ false
other_free run r Vacant apart h = refl
other_free run r (Opening q kind memory) apart h = refl
other_free run r (Prewarmed kind memory) apart h = refl
other_free run r (Busy w) apart h = other w.run r run apart h
other_free run r (Idle key last) apart h = refl
other_free run r (Closing memory) apart h = refl

-- the end of a run, by which no slot is busy with it, and another run stays
ended : (p : State → Bool) (f : State → State) (event : Event) (L : Life) (size run r : ℕ) → ((s : State) → p s ≡ true → holds r s ≡ true)
    → ((k : ℕ) (s : State) → p s ≡ true → runs k (f s) ≡ false) → ((s : State) → runs r s ≡ true → p s ≡ true)
    → ((n : ℕ) → state_of (event ∷ L) n ≡ when p f (state_of L n))
    → slots_of (event ∷ L) size ≡ change_first (has p) (with_state f) (slots_of L size)
    → is_busy run (slots_of (event ∷ L) size) ≡ (not (r == run) && is_busy run (slots_of L size))
ended p f event L size run r has_it free passes states made = by_run (r == run) refl
  where
    each : (s : State) (b : Bool) → p s ≡ b → runs r (cond b (f s) s) ≡ false
    each s true e = free r s e
    each s false e = unheld (runs r s) refl
      where
        unheld : (b : Bool) → runs r s ≡ b → b ≡ false
        unheld true h = let t : p s ≡ true = passes s h in cc
        unheld false h = refl

    gone_now : (j : ℕ) → runs r (state_of (event ∷ L) j) ≡ false
    gone_now j = ap (runs r) (states j) ∙ each (state_of L j) (p (state_of L j)) refl

    by_run : (b : Bool) → (r == run) ≡ b → is_busy run (slots_of (event ∷ L) size) ≡ (not b && is_busy run (slots_of L size))
    by_run true e =
        subst (λ (k : ℕ). is_busy k (slots_of (event ∷ L) size) ≡ false) (eqb-true r run e)
        (none_table (has (runs r)) (slot_of (event ∷ L)) 0 size gone_now)
    by_run false e =
        ap (is_busy run) made
        ∙ same_first (has (runs run)) (has p) (with_state f) (λ s h. free run s.state h ∙ sym (other_free run r s.state e (has_it s.state h))) (slots_of L size)

pub busy_right : (L : Life) (size : ℕ) → AreFit L size → (run : ℕ) → is_busy run (slots_of L size) ≡ is_running run L
busy_right [] size fit run = none_table (has (runs run)) (slot_of []) 0 size (λ j. refl)
busy_right (event ∷ L) size fit run = by_event event fit (busy_right L size fit.1 run)
  where
    by_event : (event : Event) → AreFit (event ∷ L) size → is_busy run (slots_of L size) ≡ is_running run L → is_busy run (slots_of (event ∷ L) size) ≡ is_running run (event ∷ L)
    by_event (Ran slot r key start at) fit rest =
        ap (is_busy run) (changes (Ran slot r key start at) L size fit)
        ∙ placed (StartFits start) run slot (assigned r key start at) (slots_of L size) (r == run) (start_free start run) (λ s. refl) fit.0.fits
        ∙ ap (λ (x : Bool). (r == run) || x) rest
    by_event (Prewarming slot r kind memory) fit rest =
        ap (is_busy run) (changes (Prewarming slot r kind memory) L size fit)
        ∙ placed IsVacant run slot (opened r kind memory) (slots_of L size) false (λ s v. vacant_free run s.state v.0) (λ s. refl) fit.0.fits
        ∙ rest
    by_event (Removed ns) fit rest = ap (is_busy run) (changes (Removed ns) L size fit) ∙ removed_all_same run ns (slots_of L size) ∙ rest
    by_event (Begun r at) fit rest =
        ap (is_busy run) (changes (Begun r at) L size fit)
        ∙ same_first (has (runs run)) (has (awaits r)) (with_state (begun_state at)) (λ s h. begun_same run at s.state) (slots_of L size)
        ∙ rest
    by_event (Answered r alive at) fit rest =
        ended (runs r) (answered_state alive at) (Answered r alive at) L size run r (runs_holds r) (λ k s h. answered_free k r alive at s h) (λ s h. h)
        (state_answered L size r alive at fit.1 (some_slot (runs r) IsAny L size fit.0)) (changes (Answered r alive at) L size fit)
        ∙ ap (λ (x : Bool). not (r == run) && x) rest
    by_event (Lost r) fit rest =
        ended (holds r) lost_state (Lost r) L size run r (λ s h. h) (λ k s h. lost_free k r s h) (runs_holds r)
        (state_lost L size r fit.1 (some_slot (holds r) IsAny L size fit.0)) (changes (Lost r) L size fit)
        ∙ ap (λ (x : Bool). not (r == run) && x) rest
    by_event (Gone slot generation) fit rest =
        ap (is_busy run) (changes (Gone slot generation) L size fit)
        ∙ same_change (has (runs run)) (after_gone generation) (after_gone_same run generation) slot (slots_of L size)
        ∙ rest
    by_event (Overran r at) fit rest =
        ap (is_busy run) (changes (Overran r at) L size fit)
        ∙ same_first (has (runs run)) (has (runs r)) (with_state (overrun_state at)) (λ s h. overrun_same run at s.state) (slots_of L size)
        ∙ rest
    by_event Reopened fit rest = ap (is_busy run) (changes Reopened L size fit) ∙ none_emptied run (slots_of L size)
