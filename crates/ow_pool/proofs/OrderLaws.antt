-- Each order of the rules can be carried out, and keeps the pool.
use Rattle.std.proofs.Common.{◌≡◌, ◌==◌, ◌+◌, ◌-◌, ◌≤◌, ◌++◌, ℕ, zero, suc, Bool, true, false, cond, List, [], ◌∷◌, Option, Some, None, map, get_or, refl, ap, arith, subst}
use Rattle.std.specs.Prelude.{nat_le, nat_lt, fold, max}
use Rattle.std.specs.List.{find, slice_get, position, AllByRecursion}
use Rattle.std.proofs.lemmas.Bool.Decides.{nat_tests}
use Rattle.std.proofs.lemmas.List.Quantifiers.{position-Some}
use Rattle.std.proofs.lemmas.Option.{slice_get-get_or}
use Rattle.std.proofs.lemmas.Bool.{and_parts, eqb-true}
use Rattle.ow_traits.specs.declared.prewarms.Prewarm.{Prewarm}
use Rattle.ow_traits.specs.declared.replies.Kind.{Kind}
use Rattle.ow_traits.specs.declared.replies.Kind.TheVariants as kinds
use Rattle.ow_slots.specs.declared.keys.Key.{Key}
use Rattle.ow_slots.specs.declared.keys.Start.{Start}
use Rattle.ow_slots.specs.declared.keys.Start.TheVariants as starts
use Rattle.ow_slots.specs.declared.states.TheConstants.{GREATEST_GENERATION}
use Rattle.ow_slots.specs.declared.states.State.{State}
use Rattle.ow_slots.specs.declared.states.State.TheVariants.{Vacant, Opening, Prewarmed, Busy, Idle, Closing}
use Rattle.ow_slots.specs.declared.states.Slot.{Slot}
use Rattle.ow_slots.specs.Key.{kind_of, same_key, same_kind}
use Rattle.ow_slots.specs.Slots.{IsThere, change, memory_held, vacant_slot}
use Rattle.ow_slots.specs.State.{CanGo, IsMemory, IsVacant, StartFits, assigned, can_open, is_idle, is_prewarmed, is_vacant, opened, removed_state, state_memory, with_state}
use Rattle.ow_pool.specs.declared.answers.Head.{Head}
use Rattle.ow_pool.specs.declared.answers.Place.{Place}
use Rattle.ow_pool.specs.declared.answers.Place.TheVariants as places
use Rattle.ow_pool.specs.declared.answers.Unplaced.TheVariants.{NoRoom}
use Rattle.ow_pool.specs.declared.candidates.Candidate.{Candidate}
use Rattle.ow_pool.specs.Candidates.{put_if, candidate_in, candidates_from, is_among, shortest, numbers_of}
use Rattle.ow_pool.specs.Keeping.{CanAllGo, IsCarriedOut, IsFor, removed}
use Rattle.ow_traits.specs.Prewarms.{AreWantsSized}
use Rattle.ow_pool.specs.Rules.{IsHeadSized, IsWithinPool, fresh, is_ready, is_used_at, is_wanted, last_uses, makes_room, place_of, placed, prewarm_or_wait, prewarmed, removal, remove_or_wait, run_or, warmest}
use Rattle.ow_pool.proofs.EventLaws.{removed_size, removed_sized}
use Rattle.ow_pool.proofs.Room.{Distinct, all_put, distinct, first_false}
use Rattle.ow_pool.proofs.Sums.{Sized, all_change, held_change, size}

kind_eq : (a b : Kind) → same_kind a b ≡ true → a ≡ b
kind_eq kinds.Plain kinds.Plain e = refl
kind_eq kinds.Plain kinds.Program e = cc
kind_eq kinds.Program kinds.Plain e = cc
kind_eq kinds.Program kinds.Program e = refl

pub le_of : (a b : ℕ) → nat_le a b ≡ true → a ≤ b
le_of a b e = grind (arith, nat_tests)

-- the slot at a position passes
pub record At (p : Slot → Bool) (slots : List Slot) (n : ℕ) : Type 0 where
  pub slot : Slot
  pub there : slice_get slots n ≡ Some slot
  pub passes : p slot ≡ true

pub at_position : (p : Slot → Bool) (slots : List Slot) (n : ℕ) → position p slots ≡ Some n → At p slots n
at_position p slots n e =
    let h = position-Some p slots n vacant_slot e in
    record { slot = get_or slots n vacant_slot; there = slice_get-get_or slots n vacant_slot h.0; passes = h.1 }

-- keys that pass `same_key` are equal
abbrev pub KeysTell : Type 0
KeysTell = (a b : Key) → same_key a b ≡ true → a ≡ b

pub warm_fits : KeysTell → (key : Key) (at : ℕ) (s : State) → is_used_at key at s ≡ true → (is_idle s ≡ true) × IsFor starts.Warm key s
warm_fits tell key at Vacant e = cc
warm_fits tell key at (Opening r k m) e = cc
warm_fits tell key at (Prewarmed k m) e = cc
warm_fits tell key at (Busy w) e = cc
warm_fits tell key at (Idle own last) e = (refl, tell own key (and_parts (same_key own key) (last == at) e).0)
warm_fits tell key at (Closing m) e = cc

pub warm_size : (key : Key) (s : State) → IsFor starts.Warm key s → state_memory s ≡ key.memory
warm_size key Vacant fits = absurd fits
warm_size key (Opening r k m) fits = absurd fits
warm_size key (Prewarmed k m) fits = absurd fits
warm_size key (Busy w) fits = absurd fits
warm_size key (Idle own last) fits = ap (λ (k : Key). k.memory) fits
warm_size key (Closing m) fits = absurd fits

pub ready_fits : (key : Key) (s : State) → is_ready (kind_of key.exec) key.memory s ≡ true → (is_prewarmed s ≡ true) × IsFor starts.Prewarmed key s
ready_fits key Vacant e = cc
ready_fits key (Opening r k m) e = cc
ready_fits key (Prewarmed k m) e =
    let h = and_parts (same_kind k (kind_of key.exec)) (m == key.memory) e in
    (refl, (kind_eq k (kind_of key.exec) h.0, eqb-true m key.memory h.1))
ready_fits key (Busy w) e = cc
ready_fits key (Idle own last) e = cc
ready_fits key (Closing m) e = cc

pub ready_size : (key : Key) (s : State) → IsFor starts.Prewarmed key s → state_memory s ≡ key.memory
ready_size key Vacant fits = absurd fits
ready_size key (Opening r k m) fits = absurd fits
ready_size key (Prewarmed k m) fits = fits.1
ready_size key (Busy w) fits = absurd fits
ready_size key (Idle own last) fits = absurd fits
ready_size key (Closing m) fits = absurd fits

pub open_fits : (s : Slot) → can_open s ≡ true → IsVacant s
open_fits s e =
    let h = and_parts (is_vacant s.state) (nat_lt s.generation GREATEST_GENERATION) e in
    (h.0, let small = h.1 in grind (arith, nat_tests))

run_keeps : (start : Start) (slots : List Slot) (head : Head) (pool n : ℕ) (s : Slot) → IsWithinPool slots pool → IsMemory head.key.memory → slice_get slots n ≡ Some s
    → StartFits start s → IsFor start head.key s.state → memory_held slots + head.key.memory ≤ pool + size s → IsCarriedOut slots (Some head) pool (places.Run n start)
run_keeps start slots head pool n s keeps sized there fits own le = record {
  fits = rw there fits;
  own = rw there own;
  kept = λ run at.
      let sum = held_change n (assigned run head.key start at) slots s there in
      record {
        within = omega (arith, sum, le);
        sized = all_change Sized n (assigned run head.key start at) slots (λ x h. sized) keeps.sized;
      };
}

-- the first three rules
warm_keeps : KeysTell → (slots : List Slot) (head : Head) (pool : ℕ) (other : Place) → IsWithinPool slots pool → IsMemory head.key.memory → IsCarriedOut slots (Some head) pool other
    → (w : Option ℕ) → warmest head.key slots ≡ w → IsCarriedOut slots (Some head) pool (run_or starts.Warm w other)
warm_keeps tell slots head pool other keeps sized rest None e = rest
warm_keeps tell slots head pool other keeps sized rest (Some n) e =
    let last = fold max 0 (last_uses head.key slots) in
    let here = at_position (λ s. is_used_at head.key last s.state) slots n e in
    let found = warm_fits tell head.key last here.slot.state here.passes in
    let same = warm_size head.key here.slot.state found.1 in
    run_keeps starts.Warm slots head pool n here.slot keeps sized here.there found.0 found.1 (let le = keeps.within in omega (arith, same, le))

ready_keeps : (slots : List Slot) (head : Head) (pool : ℕ) (other : Place) → IsWithinPool slots pool → IsMemory head.key.memory → IsCarriedOut slots (Some head) pool other
    → (w : Option ℕ) → prewarmed head.key slots ≡ w → IsCarriedOut slots (Some head) pool (run_or starts.Prewarmed w other)
ready_keeps slots head pool other keeps sized rest None e = rest
ready_keeps slots head pool other keeps sized rest (Some n) e =
    let here = at_position (λ s. is_ready (kind_of head.key.exec) head.key.memory s.state) slots n e in
    let found = ready_fits head.key here.slot.state here.passes in
    let same = ready_size head.key here.slot.state found.1 in
    run_keeps starts.Prewarmed slots head pool n here.slot keeps sized here.there found.0 found.1 (let le = keeps.within in omega (arith, same, le))

fresh_keeps : (slots : List Slot) (head : Head) (pool : ℕ) (other : Place) → IsWithinPool slots pool → IsMemory head.key.memory → IsCarriedOut slots (Some head) pool other
    → (b : Bool) → nat_le (memory_held slots + head.key.memory) pool ≡ b → (w : Option ℕ) → cond b (position can_open slots) None ≡ w
    → IsCarriedOut slots (Some head) pool (run_or starts.Cold w other)
fresh_keeps slots head pool other keeps sized rest b eb None e = rest
fresh_keeps slots head pool other keeps sized rest false eb (Some n) e = cc
fresh_keeps slots head pool other keeps sized rest true eb (Some n) e =
    let here = at_position can_open slots n e in
    let le = le_of (memory_held slots + head.key.memory) pool eb in
    run_keeps starts.Cold slots head pool n here.slot keeps sized here.there (open_fits here.slot here.passes) tt (omega (arith, le))

-- where there is no slot, none is changed
pub none_changed : (n : ℕ) (f : Slot → Slot) (slots : List Slot) → slice_get slots n ≡ None → change n f slots ≡ slots
unfolding change
none_changed n f [] e = refl
none_changed zero f (s ∷ slots) e = cc
none_changed (suc n) f (s ∷ slots) e = ap (λ xs. s ∷ xs) (none_changed n f slots e)

-- a removal leaves what is held
pub remove_one : (n : ℕ) (slots : List Slot) → memory_held (change n (with_state removed_state) slots) ≡ memory_held slots
remove_one n slots = at (slice_get slots n) refl
  where
    at : (found : Option Slot) → slice_get slots n ≡ found → memory_held (change n (with_state removed_state) slots) ≡ memory_held slots
    at None e = ap memory_held (none_changed n (with_state removed_state) slots e)
    at (Some s) e = let sum = held_change n (with_state removed_state) slots s e in let same : size (with_state removed_state s) ≡ size s = removed_size s.state in omega (arith, sum, same)

pub removed_keeps : (ns : List ℕ) (slots : List Slot) (pool : ℕ) → IsWithinPool slots pool → IsWithinPool (removed ns slots) pool
removed_keeps [] slots pool keeps = keeps
removed_keeps (n ∷ ns) slots pool keeps =
    let same = remove_one n slots in let le = keeps.within in
    removed_keeps ns (change n (with_state removed_state) slots) pool (record {
      within = omega (arith, same, le);
      sized = all_change Sized n (with_state removed_state) slots (λ s. removed_sized s.state) keeps.sized;
    })

-- candidates can go
abbrev pub Goable : ℕ → List Slot → Candidate → Type 0
Goable k slots c = (k ≤ c.slot) × IsThere CanGo (slice_get slots (c.slot - k))

lift_go : (k : ℕ) (s : Slot) (slots : List Slot) (cs : List Candidate) → AllByRecursion (Goable (suc k) slots) cs → AllByRecursion (Goable k (s ∷ slots)) cs
lift_go k s slots [] all = tt
lift_go k s slots (c ∷ cs) all =
    let le = all.0.0 in
    let e : suc (c.slot - suc k) ≡ c.slot - k = omega arith in
    ((omega arith, subst (λ (i : ℕ). IsThere CanGo (slice_get (s ∷ slots) i)) e all.0.1), lift_go k s slots cs all.1)

put_go : (k : ℕ) (s : Slot) (slots : List Slot) (state : State) → s.state ≡ state → (cs : List Candidate) → AllByRecursion (Goable k (s ∷ slots)) cs
    → AllByRecursion (Goable k (s ∷ slots)) (put_if (candidate_in k state) cs)
put_go k s slots Vacant e cs all = all
put_go k s slots (Opening r kind m) e cs all = all
put_go k s slots (Prewarmed kind m) e cs all =
    let none : k - k ≡ 0 = omega arith in
    all_put (Goable k (s ∷ slots)) (record { slot = k; memory = m; prewarmed = true; last_used = 0 }) cs (omega arith, rw (none, e) refl) all
put_go k s slots (Busy w) e cs all = all
put_go k s slots (Idle key last) e cs all =
    let none : k - k ≡ 0 = omega arith in
    all_put (Goable k (s ∷ slots)) (record { slot = k; memory = key.memory; prewarmed = false; last_used = last }) cs (omega arith, rw (none, e) refl) all
put_go k s slots (Closing m) e cs all = all

pub can_go : (k : ℕ) (slots : List Slot) → AllByRecursion (Goable k slots) (candidates_from k slots)
can_go k [] = tt
can_go k (s ∷ slots) = put_go k s slots s.state refl (candidates_from (suc k) slots) (lift_go k s slots (candidates_from (suc k) slots) (can_go (suc k) slots))

-- what is found is a beginning of the list
pub record Beginning (front all : List Candidate) : Type 0 where
  pub rest : List Candidate
  pub joined : front ++ rest ≡ all

abbrev pub IfBeginning : List Candidate → Option (List Candidate) → Type 0
IfBeginning all None = Unit {0}
IfBeginning all (Some front) = Beginning front all

moved : (done : List Candidate) (c : Candidate) (left : List Candidate) → (done ++ c ∷ []) ++ left ≡ done ++ c ∷ left
moved [] c left = refl
moved (d ∷ done) c left = ap (λ xs. d ∷ xs) (moved done c left)

pub shortest_begins : (passes : List Candidate → Bool) (done left : List Candidate) → IfBeginning (done ++ left) (shortest passes done left)
shortest_begins passes done [] = tt
shortest_begins passes done (c ∷ left) = at (passes (done ++ c ∷ []))
    (subst (λ (all : List Candidate). IfBeginning all (shortest passes (done ++ c ∷ []) left)) (moved done c left) (shortest_begins passes (done ++ c ∷ []) left))
  where
    at : (b : Bool) → IfBeginning (done ++ c ∷ left) (shortest passes (done ++ c ∷ []) left) → IfBeginning (done ++ c ∷ left) (cond b (Some (done ++ c ∷ [])) (shortest passes (done ++ c ∷ []) left))
    at true rest = record { rest = left; joined = moved done c left }
    at false rest = rest

pub all_front : (P : Candidate → Type 0) (front rest : List Candidate) → AllByRecursion P (front ++ rest) → AllByRecursion P front
all_front P [] rest all = tt
all_front P (c ∷ front) rest all = (all.0, all_front P front rest all.1)

front_apart : (front rest : List Candidate) (n : ℕ) → is_among (front ++ rest) n ≡ false → is_among front n ≡ false
front_apart [] rest n e = refl
front_apart (c ∷ front) rest n e =
    let h = first_false (c.slot == n) (is_among (front ++ rest) n) e in
    rw (h.0, front_apart front rest n h.1) refl

pub distinct_front : (front rest : List Candidate) → Distinct (front ++ rest) → Distinct front
distinct_front [] rest d = tt
distinct_front (c ∷ front) rest d = (front_apart front rest c.slot d.0, distinct_front front rest d.1)

-- one after the other
next_apart : (m n : ℕ) → (suc m == suc n) ≡ false → (m == n) ≡ false
next_apart m n e = grind (arith, nat_tests)

get_other : (n m : ℕ) (f : Slot → Slot) (slots : List Slot) → (m == n) ≡ false → slice_get (change n f slots) m ≡ slice_get slots m
unfolding change
get_other n m f [] e = refl
get_other zero zero f (s ∷ slots) e = cc
get_other zero (suc m) f (s ∷ slots) e = refl
get_other (suc n) zero f (s ∷ slots) e = refl
get_other (suc n) (suc m) f (s ∷ slots) e = get_other n m f slots (next_apart m n e)

abbrev pub GoesNow : List Slot → Candidate → Type 0
GoesNow slots c = IsThere CanGo (slice_get slots c.slot)

others_go : (n : ℕ) (slots : List Slot) (cs : List Candidate) → is_among cs n ≡ false → AllByRecursion (GoesNow slots) cs
    → AllByRecursion (GoesNow (change n (with_state removed_state) slots)) cs
others_go n slots [] apart all = tt
others_go n slots (c ∷ cs) apart all =
    let h = first_false (c.slot == n) (is_among cs n) apart in
    (rw (get_other n c.slot (with_state removed_state) slots h.0) all.0, others_go n slots cs h.1 all.1)

pub all_go : (slots : List Slot) (cs : List Candidate) → AllByRecursion (GoesNow slots) cs → Distinct cs → CanAllGo (map (λ (c : Candidate). c.slot) cs) slots
all_go slots [] all d = tt
all_go slots (c ∷ cs) all d = (all.0, all_go (change c.slot (with_state removed_state) slots) cs (others_go c.slot slots cs d.0 all.1) d.1)

pub now_go : (slots : List Slot) (cs : List Candidate) → AllByRecursion (Goable 0 slots) cs → AllByRecursion (GoesNow slots) cs
now_go slots [] all = tt
now_go slots (c ∷ cs) all =
    let e : c.slot - 0 ≡ c.slot = omega arith in
    (subst (λ (i : ℕ). IsThere CanGo (slice_get slots i)) e all.0.1, now_go slots cs all.1)

removal_keeps : (slots : List Slot) (head : Head) (pool : ℕ) → IsWithinPool slots pool → IsCarriedOut slots (Some head) pool (removal slots head.key.memory pool)
removal_keeps slots head pool keeps = at_once (makes_room slots head.key.memory pool []) (by_found (shortest passes [] cs) (shortest_begins passes [] cs))
  where
    passes : List Candidate → Bool
    passes = makes_room slots head.key.memory pool

    cs : List Candidate
    cs = candidates_from 0 slots

    by_found : (found : Option (List Candidate)) → IfBeginning cs found → IsCarriedOut slots (Some head) pool (remove_or_wait (numbers_of found))
    by_found None begins = tt
    by_found (Some front) begins =
        let all : AllByRecursion (Goable 0 slots) (front ++ begins.rest) = rw begins.joined (can_go 0 slots) in
        let apart : Distinct (front ++ begins.rest) = rw begins.joined (distinct 0 slots) in
        record {
          fits = all_go slots front (now_go slots front (all_front (Goable 0 slots) front begins.rest all)) (distinct_front front begins.rest apart);
          kept = removed_keeps (map (λ (c : Candidate). c.slot) front) slots pool keeps;
        }

    at_once : (b : Bool) → IsCarriedOut slots (Some head) pool (remove_or_wait (numbers_of (shortest (makes_room slots head.key.memory pool) [] (candidates_from 0 slots))))
        → IsCarriedOut slots (Some head) pool (cond b (places.Nothing NoRoom) (remove_or_wait (numbers_of (shortest (makes_room slots head.key.memory pool) [] (candidates_from 0 slots)))))
    at_once true rest = tt
    at_once false rest = rest

placed_keeps : KeysTell → (slots : List Slot) (head : Head) (pool : ℕ) → IsWithinPool slots pool → IsMemory head.key.memory → IsCarriedOut slots (Some head) pool (placed slots head.key pool)
placed_keeps tell slots head pool keeps sized =
    let fourth = removal_keeps slots head pool keeps in
    let third = fresh_keeps slots head pool (removal slots head.key.memory pool) keeps sized fourth (nat_le (memory_held slots + head.key.memory) pool) refl (fresh head.key slots pool) refl in
    let second = ready_keeps slots head pool _ keeps sized third (prewarmed head.key slots) refl in
    warm_keeps tell slots head pool _ keeps sized second (warmest head.key slots) refl

-- the fifth rule
record Wanted (slots : List Slot) (pool : ℕ) (w : Prewarm) : Type 0 where
  room : memory_held slots + w.memory ≤ pool
  sized : IsMemory w.memory

wanted_fits : (slots : List Slot) (pool : ℕ) (w : Prewarm) (wants : List Prewarm) → AreWantsSized wants → find (is_wanted slots pool) wants ≡ Some w → Wanted slots pool w
wanted_fits slots pool w [] sized e = cc
wanted_fits slots pool w (x ∷ wants) sized e = at (is_wanted slots pool x) refl e (wanted_fits slots pool w wants sized.1)
  where
    at : (b : Bool) → is_wanted slots pool x ≡ b → cond b (Some x) (find (is_wanted slots pool) wants) ≡ Some w
        → (find (is_wanted slots pool) wants ≡ Some w → Wanted slots pool w) → Wanted slots pool w
    at true t found rest =
        let same : x ≡ w = cc in
        let here : Wanted slots pool x = record { room = le_of (memory_held slots + x.memory) pool (and_parts _ (nat_le (memory_held slots + x.memory) pool) t).1; sized = sized.0 } in
        subst (λ (y : Prewarm). Wanted slots pool y) same here
    at false t found rest = rest found

prewarm_keeps : (slots : List Slot) (pool : ℕ) (wants : List Prewarm) → IsWithinPool slots pool → AreWantsSized wants → (n : Option ℕ) (w : Option Prewarm)
    → position can_open slots ≡ n → find (is_wanted slots pool) wants ≡ w → IsCarriedOut slots None pool (prewarm_or_wait n w)
prewarm_keeps slots pool wants keeps sized None None en ew = tt
prewarm_keeps slots pool wants keeps sized None (Some w) en ew = tt
prewarm_keeps slots pool wants keeps sized (Some n) None en ew = tt
prewarm_keeps slots pool wants keeps sized (Some n) (Some w) en ew =
    let here = at_position can_open slots n en in
    let want = wanted_fits slots pool w wants sized ew in
    let le = want.room in
    record {
      fits = rw here.there (open_fits here.slot here.passes);
      kept = λ run.
          let sum = held_change n (opened run w.kind w.memory) slots here.slot here.there in
          record {
            within = omega (arith, sum, le);
            sized = all_change Sized n (opened run w.kind w.memory) slots (λ s h. want.sized) keeps.sized;
          };
    }

-- each order can be carried out, and keeps the pool
pub place_keeps : KeysTell → (slots : List Slot) (head : Option Head) (wants : List Prewarm) (pool : ℕ) → IsWithinPool slots pool → IsHeadSized head → AreWantsSized wants
    → IsCarriedOut slots head pool (place_of slots head wants pool)
place_keeps tell slots (Some head) wants pool keeps sized wanted = placed_keeps tell slots head pool keeps sized
place_keeps tell slots None wants pool keeps sized wanted = prewarm_keeps slots pool wants keeps wanted (position can_open slots) (find (is_wanted slots pool) wants) refl refl
