-- Each order of the rules fits the slots, and leaves what they hold within the pool, whatever memory the head has.
use Rattle.std.proofs.Common.{◌≡◌, ◌+◌, ◌≤◌, ◌++◌, ℕ, Bool, true, false, cond, List, [], ◌∷◌, Option, Some, None, map, refl, ◌∙◌, arith}
use Rattle.std.specs.Prelude.{nat_le, fold, max}
use Rattle.std.specs.List.{find, slice_get, position, AllByRecursion}
use Rattle.std.proofs.lemmas.Bool.{and_parts}
use Rattle.ow_traits.specs.declared.prewarms.Prewarm.{Prewarm}
use Rattle.ow_traits.specs.declared.replies.Kind.{Kind}
use Rattle.ow_slots.specs.declared.keys.Key.{Key}
use Rattle.ow_slots.specs.declared.keys.Start.{Start}
use Rattle.ow_slots.specs.declared.keys.Start.TheVariants as starts
use Rattle.ow_slots.specs.declared.states.Slot.{Slot}
use Rattle.ow_slots.specs.Key.{kind_of}
use Rattle.ow_slots.specs.Slots.{IsThere, change, memory_held}
use Rattle.ow_slots.specs.State.{IsVacant, StartFits, assigned, can_open, opened}
use Rattle.ow_pool.specs.declared.answers.Head.{Head}
use Rattle.ow_pool.specs.declared.answers.Place.{Place}
use Rattle.ow_pool.specs.declared.answers.Place.TheVariants as places
use Rattle.ow_pool.specs.declared.answers.Unplaced.TheVariants.{NoRoom}
use Rattle.ow_pool.specs.declared.candidates.Candidate.{Candidate}
use Rattle.ow_pool.specs.Candidates.{candidates_from, numbers_of, shortest}
use Rattle.ow_pool.specs.Keeping.{CanAllGo, IsFor, removed}
use Rattle.ow_pool.specs.Rules.{fresh, is_ready, is_used_at, is_wanted, last_uses, makes_room, place_of, placed, prewarm_or_wait, prewarmed, removal, remove_or_wait, run_or, warmest}
use Rattle.ow_pool.proofs.OrderLaws.{IfBeginning, Goable, KeysTell, all_front, all_go, at_position, can_go, distinct_front, le_of, now_go, open_fits, ready_fits, ready_size, remove_one, shortest_begins, warm_fits, warm_size}
use Rattle.ow_pool.proofs.Room.{Distinct, distinct}
use Rattle.ow_pool.proofs.Sums.{held_change, size}
use Rattle.ow_floor.proofs.Firsts.{find_passes}

pub record RunFits (slots : List Slot) (key : Key) (pool n : ℕ) (start : Start) : Type 0 where
  pub fits : IsThere (StartFits start) (slice_get slots n)
  pub own : IsThere (λ s. IsFor start key s.state) (slice_get slots n)
  pub kept : (run at : ℕ) → memory_held (change n (assigned run key start at) slots) ≤ pool

pub record RemovalFits (slots : List Slot) (pool : ℕ) (ns : List ℕ) : Type 0 where
  pub fits : CanAllGo ns slots
  pub kept : memory_held (removed ns slots) ≤ pool

pub record PrewarmFits (slots : List Slot) (pool n memory : ℕ) : Type 0 where
  pub fits : IsThere IsVacant (slice_get slots n)
  pub kept : (run : ℕ) (kind : Kind) → memory_held (change n (opened run kind memory) slots) ≤ pool

-- what is placed fits, and leaves what is held within the pool
abbrev pub PlaceFits : List Slot → Option Head → ℕ → Place → Type 0
PlaceFits slots (Some head) pool (places.Run n start) = RunFits slots head.key pool n start
PlaceFits slots None pool (places.Run n start) = ⊥
PlaceFits slots head pool (places.Remove ns) = RemovalFits slots pool ns
PlaceFits slots head pool (places.Prewarm n kind memory) = PrewarmFits slots pool n memory
PlaceFits slots head pool (places.Nothing reason) = Unit {0}

run_fits : (start : Start) (slots : List Slot) (head : Head) (pool n : ℕ) (s : Slot) → slice_get slots n ≡ Some s
    → StartFits start s → IsFor start head.key s.state → memory_held slots + head.key.memory ≤ pool + size s → PlaceFits slots (Some head) pool (places.Run n start)
run_fits start slots head pool n s there fits own le = record {
  fits = rw there fits;
  own = rw there own;
  kept = λ run at. let sum = held_change n (assigned run head.key start at) slots s there in omega (arith, sum, le);
}

warm_places : KeysTell → (slots : List Slot) (head : Head) (pool : ℕ) (other : Place) → memory_held slots ≤ pool → PlaceFits slots (Some head) pool other
    → (w : Option ℕ) → warmest head.key slots ≡ w → PlaceFits slots (Some head) pool (run_or starts.Warm w other)
warm_places tell slots head pool other within rest None e = rest
warm_places tell slots head pool other within rest (Some n) e =
    let last = fold max 0 (last_uses head.key slots) in
    let here = at_position (λ s. is_used_at head.key last s.state) slots n e in
    let found = warm_fits tell head.key last here.slot.state here.passes in
    let same = warm_size head.key here.slot.state found.1 in
    run_fits starts.Warm slots head pool n here.slot here.there found.0 found.1 (omega (arith, same, within))

ready_places : (slots : List Slot) (head : Head) (pool : ℕ) (other : Place) → memory_held slots ≤ pool → PlaceFits slots (Some head) pool other
    → (w : Option ℕ) → prewarmed head.key slots ≡ w → PlaceFits slots (Some head) pool (run_or starts.Prewarmed w other)
ready_places slots head pool other within rest None e = rest
ready_places slots head pool other within rest (Some n) e =
    let here = at_position (λ s. is_ready (kind_of head.key.exec) head.key.memory s.state) slots n e in
    let found = ready_fits head.key here.slot.state here.passes in
    let same = ready_size head.key here.slot.state found.1 in
    run_fits starts.Prewarmed slots head pool n here.slot here.there found.0 found.1 (omega (arith, same, within))

fresh_places : (slots : List Slot) (head : Head) (pool : ℕ) (other : Place) → PlaceFits slots (Some head) pool other
    → (b : Bool) → nat_le (memory_held slots + head.key.memory) pool ≡ b → (w : Option ℕ) → cond b (position can_open slots) None ≡ w
    → PlaceFits slots (Some head) pool (run_or starts.Cold w other)
fresh_places slots head pool other rest b eb None e = rest
fresh_places slots head pool other rest false eb (Some n) e = cc
fresh_places slots head pool other rest true eb (Some n) e =
    let here = at_position can_open slots n e in
    let le = le_of (memory_held slots + head.key.memory) pool eb in
    run_fits starts.Cold slots head pool n here.slot here.there (open_fits here.slot here.passes) tt (omega (arith, le))

-- a removal leaves what is held
pub held_removed : (ns : List ℕ) (slots : List Slot) → memory_held (removed ns slots) ≡ memory_held slots
held_removed [] slots = refl
held_removed (n ∷ ns) slots = held_removed ns _ ∙ remove_one n slots

removal_places : (slots : List Slot) (head : Head) (pool : ℕ) → memory_held slots ≤ pool → PlaceFits slots (Some head) pool (removal slots head.key.memory pool)
removal_places slots head pool within = at_once (makes_room slots head.key.memory pool []) (by_found (shortest passes [] cs) (shortest_begins passes [] cs))
  where
    passes : List Candidate → Bool
    passes = makes_room slots head.key.memory pool

    cs : List Candidate
    cs = candidates_from 0 slots

    by_found : (found : Option (List Candidate)) → IfBeginning cs found → PlaceFits slots (Some head) pool (remove_or_wait (numbers_of found))
    by_found None begins = tt
    by_found (Some front) begins =
        let all : AllByRecursion (Goable 0 slots) (front ++ begins.rest) = rw begins.joined (can_go 0 slots) in
        let apart : Distinct (front ++ begins.rest) = rw begins.joined (distinct 0 slots) in
        let same = held_removed (map (λ (c : Candidate). c.slot) front) slots in
        record {
          fits = all_go slots front (now_go slots front (all_front (Goable 0 slots) front begins.rest all)) (distinct_front front begins.rest apart);
          kept = omega (arith, same, within);
        }

    at_once : (b : Bool) → PlaceFits slots (Some head) pool (remove_or_wait (numbers_of (shortest (makes_room slots head.key.memory pool) [] (candidates_from 0 slots))))
        → PlaceFits slots (Some head) pool (cond b (places.Nothing NoRoom) (remove_or_wait (numbers_of (shortest (makes_room slots head.key.memory pool) [] (candidates_from 0 slots)))))
    at_once true rest = tt
    at_once false rest = rest

placed_fits : KeysTell → (slots : List Slot) (head : Head) (pool : ℕ) → memory_held slots ≤ pool → PlaceFits slots (Some head) pool (placed slots head.key pool)
placed_fits tell slots head pool within =
    let fourth = removal_places slots head pool within in
    let third = fresh_places slots head pool (removal slots head.key.memory pool) fourth (nat_le (memory_held slots + head.key.memory) pool) refl (fresh head.key slots pool) refl in
    let second = ready_places slots head pool _ within third (prewarmed head.key slots) refl in
    warm_places tell slots head pool _ within second (warmest head.key slots) refl

wanted_room : (slots : List Slot) (pool : ℕ) (w : Prewarm) (wants : List Prewarm) → find (is_wanted slots pool) wants ≡ Some w → memory_held slots + w.memory ≤ pool
wanted_room slots pool w wants e =
    let passes = find_passes (is_wanted slots pool) w wants e in
    le_of (memory_held slots + w.memory) pool (and_parts _ (nat_le (memory_held slots + w.memory) pool) passes).1

prewarm_places : (slots : List Slot) (pool : ℕ) (wants : List Prewarm) → (n : Option ℕ) (w : Option Prewarm)
    → position can_open slots ≡ n → find (is_wanted slots pool) wants ≡ w → PlaceFits slots None pool (prewarm_or_wait n w)
prewarm_places slots pool wants None None en ew = tt
prewarm_places slots pool wants None (Some w) en ew = tt
prewarm_places slots pool wants (Some n) None en ew = tt
prewarm_places slots pool wants (Some n) (Some w) en ew =
    let here = at_position can_open slots n en in
    let room = wanted_room slots pool w wants ew in
    record {
      fits = rw here.there (open_fits here.slot here.passes);
      kept = λ run kind. let sum = held_change n (opened run kind w.memory) slots here.slot here.there in omega (arith, sum, room);
    }

-- whatever is placed fits
pub place_fits : KeysTell → (slots : List Slot) (head : Option Head) (wants : List Prewarm) (pool : ℕ) → memory_held slots ≤ pool → PlaceFits slots head pool (place_of slots head wants pool)
place_fits tell slots (Some head) wants pool within = placed_fits tell slots head pool within
place_fits tell slots None wants pool within = prewarm_places slots pool wants (position can_open slots) (find (is_wanted slots pool) wants) refl refl
