-- What each event leaves to come.
use Rattle.std.proofs.Common.{◌≡◌, ◌+◌, ◌≤◌, ◌==◌, ◌&&◌, ℕ, zero, suc, Bool, true, false, cond, not, List, [], ◌∷◌, Option, Some, None, refl, arith}
use Rattle.std.specs.Prelude.{is_none}
use Rattle.std.specs.List.{find, slice_get}
use Rattle.std.proofs.lemmas.List.Sums.{sum_by-cons}
use Rattle.std.proofs.lemmas.Bool.{and_parts}
use Rattle.ow_slots.specs.declared.keys.Key.{Key}
use Rattle.ow_slots.specs.declared.states.State.{State}
use Rattle.ow_slots.specs.declared.states.State.TheVariants.{Vacant, Opening, Prewarmed, Busy, Idle, Closing}
use Rattle.ow_slots.specs.declared.states.Slot.{Slot}
use Rattle.ow_slots.specs.declared.states.Work.{Work}
use Rattle.ow_slots.specs.Slots.{IsThere, change, change_first, first_with, has}
use Rattle.ow_slots.specs.State.{after_gone, answered_state, assigned, awaits, begun_state, gone_state, goes, holds, is_warm, lost_state, opened, overrun_state, removed_state, runs, takes_gone, with_state, work_of}
use Rattle.ow_pool.specs.Keeping.{removed}
use Rattle.ow_slot_laws.specs.Life.{Event, Ran, Prewarming, Removed, Begun, Answered, Lost, Gone, Overran, Reopened}
use Rattle.ow_slot_laws.specs.Fitting.{Goes, IsAny, IsFit, changed, emptied}
use Rattle.ow_slot_laws.specs.Owed.{fall_of, may_begin, owed, owed_by, rise_of}

abbrev pub owed_of : Slot → ℕ
owed_of s = owed_by s.state

-- what a change of one slot does to the sum
sum_change : (n : ℕ) (g : Slot → Slot) (slots : List Slot) (s : Slot) → slice_get slots n ≡ Some s → owed (change n g slots) + owed_of s ≡ owed slots + owed_of (g s)
unfolding change
sum_change n g [] s e = cc
sum_change zero g (x ∷ slots) s e =
    let same : x ≡ s = cc in
    let a = sum_by-cons owed_of (g x) slots in let b = sum_by-cons owed_of x slots in
    rw (← same) (omega (arith, a, b))
sum_change (suc n) g (x ∷ slots) s e =
    let rest = sum_change n g slots s e in
    let a = sum_by-cons owed_of x (change n g slots) in let b = sum_by-cons owed_of x slots in
    omega (arith, a, b, rest)

-- a slot that passes, and what the change of the first that does makes of the sum
record Firsts (p : Slot → Bool) (g : Slot → Slot) (slots : List Slot) (s : Slot) : Type 0 where
  passes : p s ≡ true
  sum : owed (change_first p g slots) + owed_of s ≡ owed slots + owed_of (g s)

sum_first : (p : Slot → Bool) (g : Slot → Slot) (slots : List Slot) (s : Slot) → find p slots ≡ Some s → Firsts p g slots s
unfolding change_first
sum_first p g [] s e = cc
sum_first p g (x ∷ slots) s e = by_test (p x) refl e (sum_first p g slots s)
  where
    by_test : (b : Bool) → p x ≡ b → cond b (Some x) (find p slots) ≡ Some s → (find p slots ≡ Some s → Firsts p g slots s)
        → Firsts p g (x ∷ slots) s
    by_test true t found rest =
        let same : x ≡ s = cc in
        let a = sum_by-cons owed_of (g x) slots in let b = sum_by-cons owed_of x slots in
        record { passes = rw (← same) t; sum = rw (t, ← same) (omega (arith, a, b)) }
    by_test false t found rest =
        let more = rest found in let sum = more.sum in
        let a = sum_by-cons owed_of x (change_first p g slots) in let b = sum_by-cons owed_of x slots in
        record { passes = more.passes; sum = rw t (omega (arith, a, b, sum)) }

-- where the first slot that passes is changed so that it owes less, all owe less
less_first : (p : State → Bool) (f : State → State) (P : Slot → Type 0) (slots : List Slot) → ((s : State) → p s ≡ true → owed_by (f s) + 1 ≤ owed_by s)
    → IsThere P (first_with p slots) → owed (change_first (has p) (with_state f) slots) + 1 ≤ owed slots
less_first p f P slots lowers there = by_found (first_with p slots) refl there
  where
    by_found : (found : Option Slot) → first_with p slots ≡ found → IsThere P found → owed (change_first (has p) (with_state f) slots) + 1 ≤ owed slots
    by_found None e h = absurd h
    by_found (Some s) e h =
        let first = sum_first (has p) (with_state f) slots s e in
        let sum : owed (change_first (has p) (with_state f) slots) + owed_by s.state ≡ owed slots + owed_by (f s.state) = first.sum in
        let le = lowers s.state first.passes in
        omega (arith, sum, le)

-- the same of a change at a number
less_at : (g : Slot → Slot) (P : Slot → Type 0) (n : ℕ) (slots : List Slot) → ((s : Slot) → P s → owed_of (g s) + 1 ≤ owed_of s)
    → IsThere P (slice_get slots n) → owed (change n g slots) + 1 ≤ owed slots
less_at g P n slots bounds there = by_found (slice_get slots n) refl there
  where
    by_found : (found : Option Slot) → slice_get slots n ≡ found → IsThere P found → owed (change n g slots) + 1 ≤ owed slots
    by_found None e h = absurd h
    by_found (Some s) e h =
        let sum = sum_change n g slots s e in
        let le = bounds s h in
        omega (arith, sum, le)

may_begin_at_most : (b : Bool) → cond b 1 0 ≤ 1
may_begin_at_most true = omega arith
may_begin_at_most false = omega arith

owed_at_most : (w : Work) → owed_by (Busy w) ≤ 3
owed_at_most w =
    let a = may_begin_at_most (may_begin w) in
    let b = gone_at_most w.gone in
    omega (arith, a, b)
  where
    gone_at_most : (b : Bool) → cond b 0 1 ≤ 1
    gone_at_most true = omega arith
    gone_at_most false = omega arith

begun_busy : (w x : Bool) (b : Option ℕ) (at g : ℕ) → (not w && (is_none b && x)) ≡ true
    → 1 + cond (not w && is_none (Some at)) 1 0 + g + 1 ≤ 1 + cond (not w && is_none b) 1 0 + g
begun_busy true x b at g h = cc
begun_busy false x None at g h = omega arith
begun_busy false x (Some t) at g h = cc

begun_less : (run at : ℕ) (s : State) → awaits run s ≡ true → owed_by (begun_state at s) + 1 ≤ owed_by s
begun_less run at Vacant h = cc
begun_less run at (Opening r kind memory) h = omega arith
begun_less run at (Prewarmed kind memory) h = cc
begun_less run at (Busy w) h = begun_busy (is_warm w.start) _ w.begun at (cond w.gone 0 1) h
begun_less run at (Idle key last) h = cc
begun_less run at (Closing memory) h = cc

answered_busy : (g c : Bool) (key : Key) (at m : ℕ) → owed_by (cond g Vacant (cond c (Idle key at) (Closing key.memory))) + 1 ≤ 1 + m + cond g 0 1
answered_busy true c key at m = omega arith
answered_busy false true key at m = omega arith
answered_busy false false key at m = omega arith

answered_less : (run : ℕ) (alive : Bool) (at : ℕ) (s : State) → runs run s ≡ true → owed_by (answered_state alive at s) + 1 ≤ owed_by s
answered_less run alive at Vacant h = cc
answered_less run alive at (Opening r kind memory) h = cc
answered_less run alive at (Prewarmed kind memory) h = cc
answered_less run alive at (Busy w) h = answered_busy w.gone (alive && is_none w.recorded) w.key at (cond (may_begin w) 1 0)
answered_less run alive at (Idle key last) h = cc
answered_less run alive at (Closing memory) h = cc

lost_busy : (g : Bool) (memory m : ℕ) → owed_by (cond g Vacant (Closing memory)) + 1 ≤ 1 + m + cond g 0 1
lost_busy true memory m = omega arith
lost_busy false memory m = omega arith

lost_less : (run : ℕ) (s : State) → holds run s ≡ true → owed_by (lost_state s) + 1 ≤ owed_by s
lost_less run Vacant h = cc
lost_less run (Opening r kind memory) h = omega arith
lost_less run (Prewarmed kind memory) h = cc
lost_less run (Busy w) h = lost_busy w.gone w.key.memory (cond (may_begin w) 1 0)
lost_less run (Idle key last) h = cc
lost_less run (Closing memory) h = cc

overrun_less : (run at : ℕ) (s : State) → runs run s ≡ true → owed_by (overrun_state at s) ≤ owed_by s
overrun_less run at Vacant h = cc
overrun_less run at (Opening r kind memory) h = cc
overrun_less run at (Prewarmed kind memory) h = cc
overrun_less run at (Busy w) h = omega arith
overrun_less run at (Idle key last) h = cc
overrun_less run at (Closing memory) h = cc

gone_busy : (g : Bool) (m : ℕ) → not g ≡ true → 1 + m + cond true 0 1 + 1 ≤ 1 + m + cond g 0 1
gone_busy true m h = cc
gone_busy false m h = omega arith

gone_less : (s : State) → takes_gone s ≡ true → owed_by (gone_state s) + 1 ≤ owed_by s
gone_less Vacant h = cc
gone_less (Opening r kind memory) h = cc
gone_less (Prewarmed kind memory) h = omega arith
gone_less (Busy w) h = gone_busy w.gone (cond (may_begin w) 1 0) h
gone_less (Idle key last) h = omega arith
gone_less (Closing memory) h = omega arith

gone_at : (generation : ℕ) (s : Slot) → goes generation s ≡ true → owed_of (after_gone generation s) + 1 ≤ owed_of s
gone_at generation s h =
    let le = gone_less s.state (and_parts (s.generation == generation) (takes_gone s.state) h).1 in
    rw h (omega (arith, le))

removed_less : (s : State) → owed_by (removed_state s) ≤ owed_by s
removed_less Vacant = omega arith
removed_less (Opening r kind memory) = omega arith
removed_less (Prewarmed kind memory) = omega arith
removed_less (Busy w) = omega arith
removed_less (Idle key last) = omega arith
removed_less (Closing memory) = omega arith

-- a change of whatever slot is at a number
change_at_most : (g : Slot → Slot) (more : ℕ) → ((s : Slot) → owed_of (g s) ≤ owed_of s + more) → (n : ℕ) (slots : List Slot) → owed (change n g slots) ≤ owed slots + more
unfolding change
change_at_most g more bounds n [] = omega arith
change_at_most g more bounds zero (s ∷ slots) =
    let le = bounds s in
    let a = sum_by-cons owed_of (g s) slots in let b = sum_by-cons owed_of s slots in
    omega (arith, a, b, le)
change_at_most g more bounds (suc n) (s ∷ slots) =
    let rest = change_at_most g more bounds n slots in
    let a = sum_by-cons owed_of s (change n g slots) in let b = sum_by-cons owed_of s slots in
    omega (arith, a, b, rest)

-- a change of the first that passes, where one does
first_at_most : (p : State → Bool) (f : State → State) → ((s : State) → p s ≡ true → owed_by (f s) ≤ owed_by s) → (slots : List Slot)
    → owed (change_first (has p) (with_state f) slots) ≤ owed slots
unfolding change_first
first_at_most p f lowers [] = omega arith
first_at_most p f lowers (s ∷ slots) = by_test (p s.state) refl (first_at_most p f lowers slots)
  where
    by_test : (b : Bool) → p s.state ≡ b → owed (change_first (has p) (with_state f) slots) ≤ owed slots
        → owed (cond b (with_state f s ∷ slots) (s ∷ change_first (has p) (with_state f) slots)) ≤ owed (s ∷ slots)
    by_test true e rest =
        let le = lowers s.state e in
        let a = sum_by-cons owed_of (with_state f s) slots in let b = sum_by-cons owed_of s slots in
        omega (arith, a, b, le)
    by_test false e rest =
        let a = sum_by-cons owed_of s (change_first (has p) (with_state f) slots) in let b = sum_by-cons owed_of s slots in
        omega (arith, a, b, rest)

gone_at_most : (generation : ℕ) (s : Slot) → owed_of (after_gone generation s) ≤ owed_of s + 0
gone_at_most generation s = by_test (goes generation s) refl
  where
    by_test : (b : Bool) → goes generation s ≡ b → owed_of (cond b (with_state gone_state s) s) ≤ owed_of s + 0
    by_test true e = let le = gone_less s.state (and_parts (s.generation == generation) (takes_gone s.state) e).1 in omega (arith, le)
    by_test false e = omega arith

all_removed : (ns : List ℕ) (slots : List Slot) → owed (removed ns slots) ≤ owed slots
all_removed [] slots = omega arith
all_removed (n ∷ ns) slots =
    let rest = all_removed ns (change n (with_state removed_state) slots) in
    let one = change_at_most (with_state removed_state) 0 (λ s. let le = removed_less s.state in omega (arith, le)) n slots in
    omega (arith, rest, one)

none_owed : (slots : List Slot) → owed (emptied slots) ≡ 0
none_owed [] = refl
none_owed (s ∷ slots) =
    let rest = none_owed slots in
    let sum = sum_by-cons owed_of (with_state (λ state. Vacant) s) (emptied slots) in
    omega (arith, rest, sum)

weaker : (a b : ℕ) → a + 1 ≤ b → a ≤ b
weaker a b le = omega arith

exact : (a b : ℕ) → a ≤ b → a ≤ b + 0
exact a b le = omega arith

pub rises : (event : Event) (slots : List Slot) → owed (changed event slots) ≤ owed slots + rise_of event
rises (Ran slot run key start at) slots =
    change_at_most (assigned run key start at) 3 (λ s. let most = owed_at_most (work_of run key start at) in omega (arith, most)) slot slots
rises (Prewarming slot run kind memory) slots = change_at_most (opened run kind memory) 3 (λ s. omega arith) slot slots
rises (Removed ns) slots = exact _ _ (all_removed ns slots)
rises (Begun run at) slots = exact _ _ (first_at_most (awaits run) (begun_state at) (λ s h. weaker _ _ (begun_less run at s h)) slots)
rises (Answered run alive at) slots = exact _ _ (first_at_most (runs run) (answered_state alive at) (λ s h. weaker _ _ (answered_less run alive at s h)) slots)
rises (Lost run) slots = exact _ _ (first_at_most (holds run) lost_state (λ s h. weaker _ _ (lost_less run s h)) slots)
rises (Gone slot generation) slots = change_at_most (after_gone generation) 0 (gone_at_most generation) slot slots
rises (Overran run at) slots = exact _ _ (first_at_most (runs run) (overrun_state at) (overrun_less run at) slots)
rises Reopened slots = let none = none_owed slots in omega (arith, none)

as_fall : (a b : ℕ) → a + 1 ≤ b → a + 1 ≤ b + 0
as_fall a b le = omega arith

as_rise : (a b : ℕ) → a ≤ b → a + 0 ≤ b
as_rise a b le = omega arith

pub falls : (event : Event) (slots : List Slot) (count : ℕ) → IsFit event slots count → owed (changed event slots) + fall_of event ≤ owed slots + rise_of event
falls (Ran slot run key start at) slots count fit = as_rise _ _ (rises (Ran slot run key start at) slots)
falls (Prewarming slot run kind memory) slots count fit = as_rise _ _ (rises (Prewarming slot run kind memory) slots)
falls (Removed ns) slots count fit = as_rise _ _ (rises (Removed ns) slots)
falls (Begun run at) slots count fit = as_fall _ _ (less_first (awaits run) (begun_state at) IsAny slots (begun_less run at) fit)
falls (Answered run alive at) slots count fit = as_fall _ _ (less_first (runs run) (answered_state alive at) IsAny slots (answered_less run alive at) fit)
falls (Lost run) slots count fit = as_fall _ _ (less_first (holds run) lost_state IsAny slots (lost_less run) fit)
falls (Gone slot generation) slots count fit = as_fall _ _ (less_at (after_gone generation) (Goes generation) slot slots (gone_at generation) fit)
falls (Overran run at) slots count fit = as_rise _ _ (rises (Overran run at) slots)
falls Reopened slots count fit = as_rise _ _ (rises Reopened slots)
