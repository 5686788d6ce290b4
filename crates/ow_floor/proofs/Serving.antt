-- What events of slots do to the slots that are busy with a run, to the slots that hold a run, and to the memory that slots hold.
use Rattle.std.proofs.Common.{◌≡◌, ◌==◌, ◌+◌, ◌≤◌, ◌&&◌, ℕ, zero, suc, Bool, true, false, cond, List, [], ◌∷◌, Option, Some, None, refl, ap, ◌∙◌, arith}
use Rattle.std.specs.List.{find, slice_get}
use Rattle.std.specs.Prelude.{is_none}
use Rattle.std.proofs.lemmas.Bool.{eqb-true}
use Rattle.ow_traits.specs.declared.replies.Kind.{Kind}
use Rattle.ow_slots.specs.declared.keys.Key.{Key}
use Rattle.ow_slots.specs.declared.keys.Start.{Start}
use Rattle.ow_slots.specs.declared.states.State.{State}
use Rattle.ow_slots.specs.declared.states.State.TheVariants.{Vacant, Opening, Prewarmed, Busy, Idle, Closing}
use Rattle.ow_slots.specs.declared.states.Slot.{Slot}
use Rattle.ow_slots.specs.Slots.{IsThere, change, change_first, first_with, has, memory_held}
use Rattle.ow_slots.specs.State.{IsVacant, StartFits, after_gone, answered_state, assigned, begun_state, holds, lost_state, opened, overrun_state, removed_state, runs, with_state}
use Rattle.ow_pool.specs.Keeping.{removed}
use Rattle.ow_pool.specs.Rules.{IsWithinPool}
use Rattle.ow_pool.proofs.EventLaws.{answered_lessens, begun_lessens, events_keep, gone_at, lost_lessens, overrun_lessens}
use Rattle.ow_pool.proofs.OrderLaws.{removed_keeps}
use Rattle.ow_pool.proofs.Sums.{less_change, less_first}
use Rattle.ow_slot_laws.specs.Life.{Event, Ran, Prewarming, Removed, Begun, Answered, Lost, Gone, Overran, Reopened}
use Rattle.ow_slot_laws.specs.Fitting.{changed, emptied}
use Rattle.ow_slot_laws.proofs.Pool.{all_vacant, none_held}
use Rattle.ow_slot_laws.proofs.Running.{after_gone_same, begun_same, overrun_same, removed_same, start_free, vacant_free}
use Rattle.ow_floor.specs.Laws.{tally}
use Rattle.ow_floor.proofs.Firsts.{tally_updated}
use Rattle.ow_floor.proofs.Placing.{held_removed}
use Rattle.ow_floor.proofs.Tallies.{one_if}

-- ---- tallies under changes

pub tally_change : (p : Slot → Bool) (n : ℕ) (g : Slot → Slot) (slots : List Slot) (s : Slot) → slice_get slots n ≡ Some s
    → tally p (change n g slots) + one_if (p s) ≡ tally p slots + one_if (p (g s))
unfolding change
tally_change p n g [] s e = cc
tally_change p zero g (x ∷ slots) s e = let same : x ≡ s = cc in rw (← same) (omega arith)
tally_change p (suc n) g (x ∷ slots) s e = let rest = tally_change p n g slots s e in omega (arith, rest)

pub tally_first : (p q : Slot → Bool) (g : Slot → Slot) (slots : List Slot) (s : Slot) → find q slots ≡ Some s
    → tally p (change_first q g slots) + one_if (p s) ≡ tally p slots + one_if (p (g s))
unfolding change_first
tally_first p q g [] s e = cc
tally_first p q g (x ∷ slots) s e = at (q x) refl (tally_first p q g slots s)
  where
    at : (b : Bool) → q x ≡ b → (find q slots ≡ Some s → tally p (change_first q g slots) + one_if (p s) ≡ tally p slots + one_if (p (g s)))
        → tally p (change_first q g (x ∷ slots)) + one_if (p s) ≡ tally p (x ∷ slots) + one_if (p (g s))
    at true t rest =
        let h : Some x ≡ Some s = rw t at e in
        let same : x ≡ s = cc in
        rw t (rw (← same) (omega arith))
    at false t rest = let more = rest (rw t at e) in rw t (omega (arith, more))

pub tally_same : (p : Slot → Bool) (n : ℕ) (g : Slot → Slot) (slots : List Slot) → ((s : Slot) → p (g s) ≡ p s) → tally p (change n g slots) ≡ tally p slots
unfolding change
tally_same p n g [] same = refl
tally_same p zero g (x ∷ slots) same = rw (same x) refl
tally_same p (suc n) g (x ∷ slots) same = ap (λ k. one_if (p x) + k) (tally_same p n g slots same)

-- fewer pass a narrower test
pub tally_sub : (p q : Slot → Bool) (slots : List Slot) → ((x : Slot) → q x ≡ true → p x ≡ true) → tally q slots ≤ tally p slots
tally_sub p q [] sub = omega arith
tally_sub p q (x ∷ slots) sub = at (q x) (p x) (sub x) (tally_sub p q slots sub)
  where
    at : (b c : Bool) → (b ≡ true → c ≡ true) → tally q slots ≤ tally p slots → one_if b + tally q slots ≤ one_if c + tally p slots
    at true true h le = omega (arith, le)
    at true false h le = let k = h refl in cc
    at false true h le = omega (arith, le)
    at false false h le = omega (arith, le)

-- and where one that passes the wider test fails it, fewer still
pub tally_less : (p q : Slot → Bool) (slots : List Slot) (s : Slot) → ((x : Slot) → q x ≡ true → p x ≡ true) → find p slots ≡ Some s → q s ≡ false → tally q slots + 1 ≤ tally p slots
tally_less p q [] s sub e fails = cc
tally_less p q (x ∷ slots) s sub e fails = at (p x) (q x) refl refl (λ found. tally_less p q slots s sub found fails)
  where
    at : (b c : Bool) → p x ≡ b → q x ≡ c → (find p slots ≡ Some s → tally q slots + 1 ≤ tally p slots) → tally q (x ∷ slots) + 1 ≤ tally p (x ∷ slots)
    at true c t u rest =
        let h : Some x ≡ Some s = rw t at e in
        let same : x ≡ s = cc in
        let none : q x ≡ false = rw same fails in
        let le = tally_sub p q slots sub in
        rw (t, none) (omega (arith, le))
    at false true t u rest = let k = sub x u in cc
    at false false t u rest = let more = rest (rw t at e) in rw (t, u) (omega (arith, more))

-- ---- states that are busy with a run

abbrev pub busies : ℕ → List Slot → ℕ
busies run slots = tally (has (runs run)) slots

lost_apart : (run : ℕ) (s : State) → runs run (lost_state s) ≡ false
lost_apart run Vacant = refl
lost_apart run (Opening r k m) = refl
lost_apart run (Prewarmed k m) = refl
lost_apart run (Busy w) = at w.gone
  where
    at : (b : Bool) → runs run (cond b Vacant (Closing w.key.memory)) ≡ false
    at true = refl
    at false = refl
lost_apart run (Idle key last) = refl
lost_apart run (Closing m) = refl

answered_apart : (run : ℕ) (alive : Bool) (moment : ℕ) (s : State) → runs run (answered_state alive moment s) ≡ false
answered_apart run alive moment Vacant = refl
answered_apart run alive moment (Opening r k m) = refl
answered_apart run alive moment (Prewarmed k m) = refl
answered_apart run alive moment (Busy w) = at w.gone (alive && is_none w.recorded)
  where
    at : (b c : Bool) → runs run (cond b Vacant (cond c (Idle w.key moment) (Closing w.key.memory))) ≡ false
    at true c = refl
    at false true = refl
    at false false = refl
answered_apart run alive moment (Idle key last) = refl
answered_apart run alive moment (Closing m) = refl

-- a state that is busy with one run is busy with another where that is the same
busy_one : (run m : ℕ) (s : State) → runs run s ≡ true → runs m s ≡ (run == m)
busy_one run m Vacant e = cc
busy_one run m (Opening r k memory) e = cc
busy_one run m (Prewarmed k memory) e = cc
busy_one run m (Busy w) e = ap (λ n. n == m) (eqb-true w.run run e)
busy_one run m (Idle key last) e = cc
busy_one run m (Closing memory) e = cc

-- ---- how many slots are busy with a run, after each event

pub busies_ran : (m slot run : ℕ) (key : Key) (start : Start) (at : ℕ) (slots : List Slot) → IsThere (StartFits start) (slice_get slots slot)
    → busies m (change slot (assigned run key start at) slots) ≡ busies m slots + one_if (run == m)
busies_ran m slot run key start at slots fits = found (slice_get slots slot) refl fits
  where
    found : (o : Option Slot) → slice_get slots slot ≡ o → IsThere (StartFits start) o → busies m (change slot (assigned run key start at) slots) ≡ busies m slots + one_if (run == m)
    found None e h = absurd h
    found (Some s) e h =
        let sum = tally_change (has (runs m)) slot (assigned run key start at) slots s e in
        let none = start_free start m s h in
        let before : one_if (runs m s.state) ≡ 0 = rw none refl in
        omega (arith, sum, before)

pub busies_prewarming : (m slot run : ℕ) (kind : Kind) (memory : ℕ) (slots : List Slot) → IsThere IsVacant (slice_get slots slot) → busies m (change slot (opened run kind memory) slots) ≡ busies m slots
busies_prewarming m slot run kind memory slots fits = found (slice_get slots slot) refl fits
  where
    found : (o : Option Slot) → slice_get slots slot ≡ o → IsThere IsVacant o → busies m (change slot (opened run kind memory) slots) ≡ busies m slots
    found None e h = absurd h
    found (Some s) e h =
        let sum = tally_change (has (runs m)) slot (opened run kind memory) slots s e in
        let none = vacant_free m s.state h.0 in
        let before : one_if (runs m s.state) ≡ 0 = rw none refl in
        omega (arith, sum, before)

pub busies_removed : (m : ℕ) (ns : List ℕ) (slots : List Slot) → busies m (removed ns slots) ≡ busies m slots
busies_removed m [] slots = refl
busies_removed m (n ∷ ns) slots = busies_removed m ns _ ∙ tally_same (has (runs m)) n (with_state removed_state) slots (λ s. removed_same m s.state)

pub busies_begun : (m : ℕ) (p : State → Bool) (at : ℕ) (slots : List Slot) → busies m (change_first (has p) (with_state (begun_state at)) slots) ≡ busies m slots
busies_begun m p at slots = tally_updated (has p) (has (runs m)) (with_state (begun_state at)) slots (λ s. begun_same m at s.state)

pub busies_overran : (m run at : ℕ) (slots : List Slot) → busies m (change_first (has (runs run)) (with_state (overrun_state at)) slots) ≡ busies m slots
busies_overran m run at slots = tally_updated (has (runs run)) (has (runs m)) (with_state (overrun_state at)) slots (λ s. overrun_same m at s.state)

pub busies_gone : (m slot generation : ℕ) (slots : List Slot) → busies m (change slot (after_gone generation) slots) ≡ busies m slots
busies_gone m slot generation slots = tally_same (has (runs m)) slot (after_gone generation) slots (λ s. after_gone_same m generation s)

pub busies_answered : (m run : ℕ) (alive : Bool) (moment : ℕ) (slots : List Slot) (s : Slot) → first_with (runs run) slots ≡ Some s → runs run s.state ≡ true
    → busies m (change_first (has (runs run)) (with_state (answered_state alive moment)) slots) + one_if (run == m) ≡ busies m slots
busies_answered m run alive moment slots s e busy =
    let sum = tally_first (has (runs m)) (has (runs run)) (with_state (answered_state alive moment)) slots s e in
    let before : one_if (runs m s.state) ≡ one_if (run == m) = ap (λ b. one_if b) (busy_one run m s.state busy) in
    let after : one_if (runs m (answered_state alive moment s.state)) ≡ 0 = ap (λ b. one_if b) (answered_apart m alive moment s.state) in
    omega (arith, sum, before, after)

pub busies_lost : (m run : ℕ) (slots : List Slot) (s : Slot) → first_with (holds run) slots ≡ Some s
    → busies m (change_first (has (holds run)) (with_state lost_state) slots) + one_if (runs m s.state) ≡ busies m slots
busies_lost m run slots s e =
    let sum = tally_first (has (runs m)) (has (holds run)) (with_state lost_state) slots s e in
    let after : one_if (runs m (lost_state s.state)) ≡ 0 = ap (λ b. one_if b) (lost_apart m s.state) in
    omega (arith, sum, after)

pub busy_found : (m run : ℕ) (s : State) → runs run s ≡ true → one_if (runs m s) ≡ one_if (run == m)
busy_found m run s e = ap (λ b. one_if b) (busy_one run m s e)

-- a run that is only held by an opening slot is that of no busy one
opening_other : (run m : ℕ) (s : State) → holds run s ≡ true → runs run s ≡ false → runs m s ≡ false
opening_other run m Vacant h e = refl
opening_other run m (Opening r k memory) h e = refl
opening_other run m (Prewarmed k memory) h e = refl
opening_other run m (Busy w) h e = cc
opening_other run m (Idle key last) h e = refl
opening_other run m (Closing memory) h e = refl

pub opening_apart : (run m : ℕ) (s : State) → holds run s ≡ true → runs run s ≡ false → one_if (runs m s) ≡ 0
opening_apart run m s h e = ap (λ b. one_if b) (opening_other run m s h e)

pub busies_emptied : (m : ℕ) (slots : List Slot) → busies m (emptied slots) ≡ 0
busies_emptied m [] = refl
busies_emptied m (s ∷ slots) = let rest = busies_emptied m slots in omega (arith, rest)

-- ---- what slots hold, after each event that is no order

abbrev pub is_order : Event → Bool
is_order (Ran slot run key start at) = true
is_order (Prewarming slot run kind memory) = true
is_order event = false

pub held_less : (e : Event) (slots : List Slot) → is_order e ≡ false → memory_held (changed e slots) ≤ memory_held slots
held_less (Ran slot run key start at) slots plain = cc
held_less (Prewarming slot run kind memory) slots plain = cc
held_less (Removed ns) slots plain = let same = held_removed ns slots in omega (arith, same)
held_less (Begun run at) slots plain = less_first _ (with_state (begun_state at)) slots (λ s h. (begun_lessens at).less s.state)
held_less (Answered run alive at) slots plain = less_first _ (with_state (answered_state alive at)) slots (λ s h. (answered_lessens alive at).less s.state)
held_less (Lost run) slots plain = less_first _ (with_state lost_state) slots (λ s h. lost_lessens.less s.state)
held_less (Gone slot generation) slots plain = less_change slot (after_gone generation) slots (gone_at generation)
held_less (Overran run at) slots plain = less_first _ (with_state (overrun_state at)) slots (λ s h. (overrun_lessens at).less s.state)
held_less Reopened slots plain = let none = none_held slots in omega (arith, none)

pub within_kept : (e : Event) (slots : List Slot) (pool : ℕ) → is_order e ≡ false → IsWithinPool slots pool → IsWithinPool (changed e slots) pool
within_kept (Ran slot run key start at) slots pool plain within = cc
within_kept (Prewarming slot run kind memory) slots pool plain within = cc
within_kept (Removed ns) slots pool plain within = removed_keeps ns slots pool within
within_kept (Begun run at) slots pool plain within = events_keep.begun run at slots pool within
within_kept (Answered run alive at) slots pool plain within = events_keep.answered run alive at slots pool within
within_kept (Lost run) slots pool plain within = events_keep.lost run slots pool within
within_kept (Gone slot generation) slots pool plain within = events_keep.gone slot generation slots pool within
within_kept (Overran run at) slots pool plain within = events_keep.overran run at slots pool within
within_kept Reopened slots pool plain within = record { within = let none = none_held slots in omega (arith, none); sized = all_vacant slots }
