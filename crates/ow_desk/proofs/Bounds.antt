-- Each order of a legal book names slots of the greatest pool, with generations that a board takes.
use Rattle.std.proofs.Common.{arith, ◌≡◌, ◌∙◌, ◌==◌, ◌+◌, ◌++◌, ◌<◌, ◌≤◌, ℕ, zero, suc, Bool, true, false, cond, List, [], ◌∷◌, Option, Some, None, length, refl, sym, ap, subst}
use Rattle.std.specs.Prelude.{◌||◌, ◌&&◌, map}
use Rattle.std.specs.List.{AllByRecursion, find, slice_get}
use Rattle.std.proofs.lemmas.Bool.{eqb-true}
use Rattle.ow_slots.specs.declared.keys.Start.{Start}
use Rattle.ow_slots.specs.declared.keys.Start.TheVariants as starts
use Rattle.ow_slots.specs.declared.states.Slot.{Slot}
use Rattle.ow_slots.specs.declared.states.State.{State}
use Rattle.ow_slots.specs.declared.states.State.TheVariants.{Vacant, Opening, Prewarmed, Busy, Idle, Closing}
use Rattle.ow_slots.specs.State.{CanGo, IsVacant, StartFits, is_cold, is_idle, is_prewarmed, removed_state, with_state}
use Rattle.ow_slots.specs.Slots.{IsThere, change}
use Rattle.ow_pool.specs.declared.answers.Place.{Place}
use Rattle.ow_pool.specs.declared.answers.Place.TheVariants as places
use Rattle.ow_pool.specs.Keeping.{CanAllGo}
use Rattle.ow_slot_laws.specs.Life.{Event, Life, Ran, Prewarming, Removed, Begun, Answered, Lost, Gone, Overran, Reopened, generation_after as raised, generation_of, run_count, slot_of, slots_of}
use Rattle.ow_slot_laws.specs.Fitting.{AreFit, IsFit}
use Rattle.ow_slot_laws.specs.Laws.{SlotsStand}
use Rattle.ow_slot_laws.proofs.Standing.{slots_stand}
use Rattle.ow_floor.specs.declared.activations.Open.{Open}
use Rattle.ow_floor.specs.declared.answers.Order.{Order}
use Rattle.ow_floor.specs.Calls.{next_order, order_by, order_items, place_on}
use Rattle.ow_floor.specs.Growth.{AreRight, IsItemRight, grown}
use Rattle.ow_floor.specs.Trace as trace
use Rattle.ow_floor.specs.Trace.{Item, Trace, Accepted, Drained, Ended, Opened, Resumed, Swept, life, pool_after, pool_of, shown, slot_count, slots}
use Rattle.ow_floor.specs.View.{Shown, containers_of, generation_in, waits}
use Rattle.ow_tenant.specs.Table.{IsPoolSized, Table}
use Rattle.ow_tenant.specs.Tenants as tenants
use Rattle.ow_decide.specs.declared.events.Event.TheVariants as events
use Rattle.ow_decide.specs.declared.events.Told.TheVariants as told
use Rattle.ow_decide.proofs.SoundLaws.{decided_right}
use Rattle.ow_hall.specs.History.{History, answer, counted, decision, seen, sight}
use Rattle.ow_hall.proofs.Beginnings.{seen_sound}
use Rattle.ow_desk.specs.Fitting.{Fits, IsSlot}

abbrev greatest : ℕ
greatest = 1073741823

-- ---- slots

in_range : (P : Slot → Type 0) (xs : List Slot) (i : ℕ) → IsThere P (slice_get xs i) → i < length xs
in_range P [] i there = absurd there
in_range P (x ∷ xs) zero there = omega arith
in_range P (x ∷ xs) (suc i) there = let rest = in_range P xs i there in omega (arith, rest)

length_changed : (n : ℕ) (f : Slot → Slot) (xs : List Slot) → length (change n f xs) ≡ length xs
unfolding change
length_changed n f [] = refl
length_changed zero f (x ∷ xs) = refl
length_changed (suc n) f (x ∷ xs) = ap suc (length_changed n f xs)

-- ---- generations

at_slot : (P : Slot → Type 0) (L : Life) (n i : ℕ) (o : Option Slot) → slice_get (slots_of L n) i ≡ o → SlotsStand L n → IsThere P o → P (slot_of L i)
at_slot P L n i None is stand there = absurd there
at_slot P L n i (Some s) is stand there = subst P (sym (stand.here i s is)) there

here : (P : Slot → Type 0) (L : Life) (n i : ℕ) → SlotsStand L n → IsThere P (slice_get (slots_of L n) i) → P (slot_of L i)
here P L n i stand there = at_slot P L n i (slice_get (slots_of L n) i) refl stand there

-- one more in this slot, which is vacant, or none
raised_by : (L : Life) (n slot i : ℕ) (b : Bool) → (slot == i) ≡ b → SlotsStand L n → IsThere IsVacant (slice_get (slots_of L n) slot)
    → generation_of L i ≤ greatest → cond b (generation_of L i + 1) (generation_of L i) ≤ greatest
raised_by L n slot i true is stand vacant small =
    let free = here IsVacant L n slot stand vacant in
    let less : generation_of L i < greatest = subst (λ (m : ℕ). generation_of L m < greatest) (eqb-true slot i is) free.1 in
    omega (arith, less)
raised_by L n slot i false is stand vacant small = small

-- a start that isn't cold raises none
not_raised : (b : Bool) (g : ℕ) → cond (b && false) (g + 1) g ≡ g
not_raised true g = refl
not_raised false g = refl

raised_cold : (b : Bool) (g : ℕ) → cond (b && true) (g + 1) g ≡ cond b (g + 1) g
raised_cold true g = refl
raised_cold false g = refl

ran_small : (start : Start) (L : Life) (n slot i : ℕ) → SlotsStand L n → IsThere (StartFits start) (slice_get (slots_of L n) slot)
    → generation_of L i ≤ greatest → cond ((slot == i) && is_cold start) (generation_of L i + 1) (generation_of L i) ≤ greatest
ran_small starts.Warm L n slot i stand fits small = subst (λ (m : ℕ). m ≤ greatest) (sym (not_raised (slot == i) (generation_of L i))) small
ran_small starts.Prewarmed L n slot i stand fits small = subst (λ (m : ℕ). m ≤ greatest) (sym (not_raised (slot == i) (generation_of L i))) small
ran_small starts.Cold L n slot i stand fits small =
    subst (λ (m : ℕ). m ≤ greatest) (sym (raised_cold (slot == i) (generation_of L i))) (raised_by L n slot i (slot == i) refl stand fits small)

event_small : (e : Event) (L : Life) (n i : ℕ) → IsFit e (slots_of L n) (run_count L) → SlotsStand L n → generation_of L i ≤ greatest → raised e i (generation_of L i) ≤ greatest
event_small (Ran slot run key start at) L n i fit stand small = ran_small start L n slot i stand fit.fits small
event_small (Prewarming slot run kind memory) L n i fit stand small = raised_by L n slot i (slot == i) refl stand fit.fits small
event_small (Removed ns) L n i fit stand small = small
event_small (Begun run at) L n i fit stand small = small
event_small (Answered run alive at) L n i fit stand small = small
event_small (Lost run) L n i fit stand small = small
event_small (Gone slot generation) L n i fit stand small = small
event_small (Overran run at) L n i fit stand small = small
event_small Reopened L n i fit stand small = small

generation_small : (L : Life) (n i : ℕ) → AreFit L n → generation_of L i ≤ greatest
generation_small [] n i fit = omega arith
generation_small (e ∷ L) n i fit = event_small e L n i fit.0 (slots_stand L n fit.1) (generation_small L n i fit.1)

-- ---- bounded slots

record AreBounded (xs : List Slot) : Type 0 where
  few : length xs ≤ 512
  small : (i : ℕ) (s : Slot) → slice_get xs i ≡ Some s → s.generation ≤ greatest

bounded : (L : Life) (n : ℕ) → n ≤ 512 → AreFit L n → AreBounded (slots_of L n)
bounded L n few fit =
    let stand = slots_stand L n fit in
    record {
      few = subst (λ (m : ℕ). m ≤ 512) (sym stand.count) few;
      small = λ i s is. subst (λ (x : Slot). x.generation ≤ greatest) (stand.here i s is) (generation_small L n i fit);
    }

in_by : (o : Option Slot) (xs : List Slot) (i : ℕ) → slice_get xs i ≡ o → AreBounded xs → generation_in i xs ≤ greatest
in_by None xs i is b = rw is (omega arith)
in_by (Some s) xs i is b = rw is (b.small i s is)

in_small : (xs : List Slot) (i : ℕ) → AreBounded xs → generation_in i xs ≤ greatest
in_small xs i b = in_by (slice_get xs i) xs i refl b

vacant_by : (o : Option Slot) (xs : List Slot) (i : ℕ) → slice_get xs i ≡ o → IsThere IsVacant o → generation_in i xs < greatest
vacant_by None xs i is there = absurd there
vacant_by (Some s) xs i is there = rw is there.1

vacant_small : (xs : List Slot) (i : ℕ) → IsThere IsVacant (slice_get xs i) → generation_in i xs < greatest
vacant_small xs i there = vacant_by (slice_get xs i) xs i refl there

-- ---- orders

run_small : (start : Start) (xs : List Slot) (i : ℕ) → AreBounded xs → IsThere (StartFits start) (slice_get xs i) → generation_in i xs + cond (is_cold start) 1 0 ≤ greatest
run_small starts.Warm xs i b fits = let small = in_small xs i b in omega (arith, small)
run_small starts.Prewarmed xs i b fits = let small = in_small xs i b in omega (arith, small)
run_small starts.Cold xs i b fits = let less = vacant_small xs i fits in omega (arith, less)

slot_of_start : (xs : List Slot) (i : ℕ) (start : Start) → AreBounded xs → IsThere (StartFits start) (slice_get xs i) → i < 512
slot_of_start xs i start b fits = let less = in_range (StartFits start) xs i fits in let few = b.few in omega (arith, less, few)

removed_fit : (ns : List ℕ) (now xs : List Slot) → length now ≡ length xs → AreBounded xs → CanAllGo ns now → AllByRecursion (λ c. IsSlot c.slot c.generation) (containers_of ns xs)
removed_fit [] now xs same b can = tt
removed_fit (n ∷ ns) now xs same b can =
    let less = in_range CanGo now n can.0 in
    let few = b.few in
    let small = in_small xs n b in
    ((omega (arith, less, few, same), omega (arith, small)), removed_fit ns (change n (with_state removed_state) now) xs (length_changed n (with_state removed_state) now ∙ same) b can.1)

-- how many containers could be removed
abbrev one_if : Bool → ℕ
one_if true = 1
one_if false = 0

abbrev goable : List Slot → ℕ
goable [] = 0
goable (s ∷ xs) = one_if (is_idle s.state || is_prewarmed s.state) + goable xs

one_most : (b : Bool) → one_if b ≤ 1
one_most true = omega arith
one_most false = omega arith

goable_few : (xs : List Slot) → goable xs ≤ length xs
goable_few [] = omega arith
goable_few (s ∷ xs) = let one = one_most (is_idle s.state || is_prewarmed s.state) in let rest = goable_few xs in omega (arith, one, rest)

removed_one : (state : State) → (is_idle state || is_prewarmed state) ≡ true
    → one_if (is_idle (removed_state state) || is_prewarmed (removed_state state)) + 1 ≤ one_if (is_idle state || is_prewarmed state)
removed_one Vacant can = cc
removed_one (Opening run kind memory) can = cc
removed_one (Prewarmed kind memory) can = omega arith
removed_one (Busy work) can = cc
removed_one (Idle key last_used) can = omega arith
removed_one (Closing memory) can = cc

goable_less : (n : ℕ) (xs : List Slot) → IsThere CanGo (slice_get xs n) → goable (change n (with_state removed_state) xs) + 1 ≤ goable xs
unfolding change
goable_less n [] there = absurd there
goable_less zero (x ∷ xs) there = let one = removed_one x.state there in omega (arith, one)
goable_less (suc n) (x ∷ xs) there = let rest = goable_less n xs there in omega (arith, rest)

all_goable : (ns : List ℕ) (xs : List Slot) → CanAllGo ns xs → length ns ≤ goable xs
all_goable [] xs can = omega arith
all_goable (n ∷ ns) xs can =
    let less = goable_less n xs can.0 in
    let rest = all_goable ns (change n (with_state removed_state) xs) can.1 in
    omega (arith, less, rest)

length_of : (ns : List ℕ) (xs : List Slot) → length (containers_of ns xs) ≡ length ns
length_of [] xs = refl
length_of (n ∷ ns) xs = ap suc (length_of ns xs)

removed_few : (ns : List ℕ) (xs : List Slot) → AreBounded xs → CanAllGo ns xs → length (containers_of ns xs) ≤ 512
removed_few ns xs b can =
    let some = all_goable ns xs can in
    let most = goable_few xs in
    let few = b.few in
    let same = length_of ns xs in
    omega (arith, some, most, few, same)

slots_back : (ns : List ℕ) (xs : List Slot) → map (λ c. c.slot) (containers_of ns xs) ≡ ns
slots_back [] xs = refl
slots_back (n ∷ ns) xs = ap (λ (ys : List ℕ). n ∷ ys) (slots_back ns xs)

order_fits : (p : Place) (o : Option Open) (v : Shown) (at : ℕ) → AreBounded v.slots → AreRight (order_items p o at v) v → Fits (order_by p o v)
order_fits (places.Run slot start) None v at b right = tt
order_fits (places.Run slot start) (Some o) v at b right =
    let fits = right.0.1.0.fits in
    let small = run_small start v.slots slot b fits in
    (slot_of_start v.slots slot start b fits, omega (arith, small))
order_fits (places.Prewarm slot kind memory) o v at b right =
    let fits = right.0.1.0.fits in
    let less = vacant_small v.slots slot fits in
    let range = in_range IsVacant v.slots slot fits in
    let few = b.few in
    (omega (arith, range, few), omega (arith, less))
order_fits (places.Remove ns) o v at b right =
    let can : CanAllGo ns v.slots = subst (λ (xs : List ℕ). CanAllGo xs v.slots) (slots_back ns v.slots) right.0.1.0 in
    (removed_fit ns v.slots v.slots refl b can, removed_few ns v.slots b can)
order_fits (places.Nothing reason) o v at b right = tt

-- ---- the pool

item_still : (item : Item) (v : Shown) (n : ℕ) → IsItemRight item v → pool_after item n ≡ n
item_still (Opened pool wants) v n right = absurd right
item_still (Resumed counts rs) v n right = refl
item_still (Accepted a) v n right = refl
item_still (trace.Ordered run key) v n right = refl
item_still (trace.Prewarming order at) v n right = refl
item_still (trace.Removed containers at) v n right = refl
item_still (trace.Begun run at) v n right = refl
item_still (trace.Answered run alive at) v n right = refl
item_still (trace.Lost run at) v n right = refl
item_still (trace.Gone slot generation at) v n right = refl
item_still (Ended e) v n right = refl
item_still (trace.Drawn id at) v n right = refl
item_still (trace.Fired r) v n right = refl
item_still (Swept at) v n right = refl
item_still (Drained at) v n right = refl
item_still (trace.Reopened at) v n right = refl
item_still (trace.Archived until at) v n right = refl

pool_still : (items : Trace) (T : Trace) → AreRight items (shown T) → pool_of (items ++ T) ≡ pool_of T
pool_still [] T right = refl
pool_still (item ∷ items) T right = item_still item (grown items (shown T)) (pool_of (items ++ T)) right.0.0 ∙ pool_still items T right.1

seen_pool : (t : Table) (B : History) → pool_of (seen t B).trace ≡ tenants.pool_of t
seen_pool t [] = refl
seen_pool t (e ∷ B) =
    let S = sight t (seen t B) (counted B) e.at in
    pool_still (decision t B e.at e.event).items (seen t B).trace (decided_right S e.event (seen_sound t B)) ∙ seen_pool t B

pool_by : (o : Option ℕ) (t : Table) → t.pool ≡ o → IsPoolSized o → slot_count (tenants.pool_of t) ≤ 512
pool_by None t is sized = rw is (omega arith)
pool_by (Some m) t is sized = let most = sized.1 in rw is (omega (arith, most))

-- ---- the book

pub orders_fit : (t : Table) (B : History) (at : ℕ) → IsPoolSized t.pool → Fits (next_order (seen t B).trace)
orders_fit t B at sized =
    let T = (seen t B).trace in
    let sound = seen_sound t B in
    let few : slot_count (pool_of T) ≤ 512 = subst (λ (m : ℕ). slot_count m ≤ 512) (sym (seen_pool t B)) (pool_by t.pool t refl sized) in
    let S = sight t (seen t B) (counted B) at in
    order_fits (place_on (shown T)) (find waits (shown T).open_items) (shown T) at (bounded (life T) (slot_count (pool_of T)) few sound.slotted.fit) (decided_right S events.Next sound)

-- what is ordered is the order of the trace
pub ordered : (t : Table) (B : History) (at : ℕ) (o : Order) → told.Next o ≡ answer t B at events.Next → o ≡ next_order (seen t B).trace
ordered t B at o is = cc is
