-- The five rules by which a slot is chosen.
use Rattle.std.specs.Prelude.{◌==◌, ◌+◌, ◌≤◌, ◌&&◌, ◌||◌, ℕ, Bool, true, false, List, [], ◌∷◌, Option, Some, None, if◌then◌else◌, nat_lt, nat_le, position, find, fold, max, count_by}
use Rattle.std.specs.List.{list_any, filter_map, AllByRecursion}
use Rattle.ow_traits.specs.declared.prewarms.Prewarm.{Prewarm}
use Rattle.ow_traits.specs.declared.replies.Kind.{Kind}
use Rattle.ow_slots.specs.declared.keys.Key.{Key}
use Rattle.ow_slots.specs.declared.keys.Start.{Start}
use Rattle.ow_slots.specs.declared.keys.Start.TheVariants as starts
use Rattle.ow_slots.specs.declared.states.State.{State}
use Rattle.ow_slots.specs.declared.states.State.TheVariants.{Opening, Prewarmed, Idle}
use Rattle.ow_slots.specs.declared.states.Slot.{Slot}
use Rattle.ow_slots.specs.Key.{kind_of, same_key, same_kind}
use Rattle.ow_slots.specs.Slots.{memory_held}
use Rattle.ow_slots.specs.State.{IsMemory, IsSized, can_open, state_memory}
use Rattle.ow_pool.specs.declared.candidates.Candidate.{Candidate}
use Rattle.ow_pool.specs.declared.answers.Head.{Head}
use Rattle.ow_pool.specs.declared.answers.Place.{Place}
use Rattle.ow_pool.specs.declared.answers.Place.TheVariants as places
use Rattle.ow_pool.specs.declared.answers.Unplaced.TheVariants.{Empty, NoRoom}
use Rattle.ow_pool.specs.Candidates.{is_closing, is_among, outside, shortest, candidates_from, numbers_of}

-- the last use of an idle container with this key
abbrev pub last_in : Key → State → Option ℕ
last_in key (Idle own last_used) = if same_key own key then Some last_used else None
last_in key state = None

abbrev pub last_uses : Key → List Slot → List ℕ
last_uses key slots = filter_map (λ s. last_in key s.state) slots

abbrev pub is_used_at : Key → ℕ → State → Bool
is_used_at key at (Idle own last_used) = same_key own key && (last_used == at)
is_used_at key at state = false

-- the first rule: of the idle slots with this key the most recently used, the lowest of these
abbrev pub warmest : Key → List Slot → Option ℕ
warmest key slots = position (λ s. is_used_at key (fold max 0 (last_uses key slots)) s.state) slots

abbrev pub is_ready : Kind → ℕ → State → Bool
is_ready kind memory (Prewarmed k m) = same_kind k kind && (m == memory)
is_ready kind memory state = false

-- the second rule: the lowest prewarmed slot of the kind and memory
abbrev pub prewarmed : Key → List Slot → Option ℕ
prewarmed key slots = position (λ s. is_ready (kind_of key.exec) key.memory s.state) slots

-- the third rule: the lowest vacant slot, where the pool has the memory
abbrev pub fresh : Key → List Slot → ℕ → Option ℕ
fresh key slots pool = if nat_le (memory_held slots + key.memory) pool then position can_open slots else None

abbrev pub has_any : List Candidate → Bool
has_any [] = false
has_any (c ∷ cs) = true

-- the closing slots and these make room: what all others hold and the memory are at most the pool, and some slot is
-- vacant or among them
abbrev pub makes_room : List Slot → ℕ → ℕ → List Candidate → Bool
makes_room slots memory pool set =
    nat_le (outside (is_among set) 0 slots + memory) pool
    && (list_any can_open slots || (list_any (λ s. is_closing s.state) slots || has_any set))

abbrev pub remove_or_wait : Option (List ℕ) → Place
remove_or_wait None = places.Nothing NoRoom
remove_or_wait (Some slots) = places.Remove slots

-- the fourth rule: nothing where the closing slots make room; else the shortest beginning of the candidates that makes
-- room together with them is removed
abbrev pub removal : List Slot → ℕ → ℕ → Place
removal slots memory pool =
    if makes_room slots memory pool [] then places.Nothing NoRoom
    else remove_or_wait (numbers_of (shortest (makes_room slots memory pool) [] (candidates_from 0 slots)))

abbrev pub is_kept_for : Kind → ℕ → State → Bool
is_kept_for kind memory (Prewarmed k m) = same_kind k kind && (m == memory)
is_kept_for kind memory (Opening run k m) = same_kind k kind && (m == memory)
is_kept_for kind memory state = false

-- fewer slots than wanted are prewarmed or opening, and the pool has the memory
abbrev pub is_wanted : List Slot → ℕ → Prewarm → Bool
is_wanted slots pool w =
    nat_lt (count_by (λ s. is_kept_for w.kind w.memory s.state) slots) w.count
    && nat_le (memory_held slots + w.memory) pool

abbrev pub prewarm_or_wait : Option ℕ → Option Prewarm → Place
prewarm_or_wait (Some slot) (Some w) = places.Prewarm slot w.kind w.memory
prewarm_or_wait slot want = places.Nothing Empty

-- the fifth rule: the first that is wanted, in the lowest vacant slot
abbrev pub prewarming : List Slot → List Prewarm → ℕ → Place
prewarming slots wants pool = prewarm_or_wait (position can_open slots) (find (is_wanted slots pool) wants)

abbrev pub run_or : Start → Option ℕ → Place → Place
run_or start (Some slot) other = places.Run slot start
run_or start None other = other

-- the rules for a head, one after the other
abbrev pub placed : List Slot → Key → ℕ → Place
placed slots key pool =
    run_or starts.Warm (warmest key slots)
    (run_or starts.Prewarmed (prewarmed key slots)
    (run_or starts.Cold (fresh key slots pool) (removal slots key.memory pool)))

-- with a head the first four rules, without one the fifth
abbrev pub place_of : List Slot → Option Head → List Prewarm → ℕ → Place
place_of slots (Some head) wants pool = placed slots head.key pool
place_of slots None wants pool = prewarming slots wants pool

-- the memory held is at most the pool, and each container has the memory of some action
pub record IsWithinPool (slots : List Slot) (pool : ℕ) : Type 0 where
  pub within : memory_held slots ≤ pool
  pub sized : AllByRecursion (λ s. IsSized s.state) slots

-- the memory of the head is that of some action
abbrev pub IsHeadSized : Option Head → Type 0
IsHeadSized None = Unit {0}
IsHeadSized (Some head) = IsMemory head.key.memory

-- what a slot holds that isn't closing, for private clauses
abbrev pub kept_share : Slot → ℕ
kept_share s = if is_closing s.state then 0 else state_memory s.state
