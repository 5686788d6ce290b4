-- The slots after an event are those before it, which it has changed.
use Rattle.std.proofs.Common.{◌≡◌, ◌==◌, ◌+◌, ◌&&◌, ◌||◌, ℕ, zero, suc, Bool, true, false, cond, List, [], ◌∷◌, Option, Some, None, replicate, refl, sym, ap, ◌∙◌, arith, subst, add-zero}
use Rattle.std.specs.List.{slice_get, AllByRecursion}
use Rattle.std.proofs.lemmas.Bool.{and_parts, eqb-true}
use Rattle.ow_traits.specs.declared.replies.Kind.{Kind}
use Rattle.ow_slots.specs.declared.keys.Key.{Key}
use Rattle.ow_slots.specs.declared.keys.Start.{Start}
use Rattle.ow_slots.specs.declared.states.State.{State}
use Rattle.ow_slots.specs.declared.states.State.TheVariants.{Vacant, Opening, Prewarmed, Busy, Idle, Closing}
use Rattle.ow_slots.specs.declared.states.Slot.{Slot}
use Rattle.ow_slots.specs.Slots.{IsThere, change, change_first, first_with, has, vacant_slot}
use Rattle.ow_slots.specs.State.{CanGo, IsUnrecorded, after_gone, answered_state, assigned, awaits, begun_state, gone_state, goes, holds, is_cold, is_idle, is_prewarmed, lost_state, opened, overrun_state, removed_state, runs, state_memory, takes_gone, with_state, work_of}
use Rattle.ow_pool.specs.Keeping.{CanAllGo, removed}
use Rattle.ow_slot_laws.specs.Life.{Event, Life, Ran, Prewarming, Removed, Begun, Answered, Lost, Gone, Overran, Reopened, generation_of, is_among, is_held, memory_of, slot_of, slots_of, state_of, table}
use Rattle.ow_slot_laws.specs.Fitting.{AreFit, Goes, IsAny, changed}
use Rattle.ow_slot_laws.proofs.Runs.{SomeSlot, awaits_holds, one_run, runs_holds}
use Rattle.ow_slot_laws.proofs.States.{memory_right, state_answered, state_begun, state_gone, state_lost, state_overran, state_prewarming, state_ran, state_removed, when}
use Rattle.ow_slot_laws.proofs.Tables.{change_first_table, change_table, constant_table, equal_table, found_in, map_table, there_in}

-- every slot is vacant at first
pub begin : (n : ℕ) → slots_of [] n ≡ replicate n vacant_slot
begin n = constant_table vacant_slot 0 n

-- where a slot is found, some slot passes
pub some_slot : (p : State → Bool) (P : Slot → Type 0) (L : Life) (size : ℕ) → IsThere P (first_with p (slots_of L size)) → SomeSlot p L
some_slot p P L size there = by_found (first_with p (slots_of L size)) refl there
  where
    by_found : (found : Option Slot) → first_with p (slots_of L size) ≡ found → IsThere P found → SomeSlot p L
    by_found None e h = absurd h
    by_found (Some s) e h = let is = found_in (has p) (slot_of L) 0 size s e in record { slot = is.number; passes = is.passes }

lifted : (p : State → Bool) (f : State → State) (s : Slot) (g : ℕ) (state : State) → g ≡ s.generation → state ≡ when p f s.state
    → record { generation = g; state = state } ≡ cond (p s.state) (with_state f s) s
lifted p f s g state eg es = rw (eg, es) (by_test (p s.state))
  where
    by_test : (b : Bool) → record { generation = s.generation; state = cond b (f s.state) s.state } ≡ cond b (with_state f s) s
    by_test true = refl
    by_test false = refl

-- an event of a run changes the slot that has it
by_run : (p : State → Bool) (f : State → State) (r : ℕ) (event : Event) (L : Life) (size : ℕ) → AreFit L size → ((s : State) → p s ≡ true → holds r s ≡ true)
    → ((n : ℕ) → state_of (event ∷ L) n ≡ when p f (state_of L n)) → ((n : ℕ) → generation_of (event ∷ L) n ≡ generation_of L n)
    → slots_of (event ∷ L) size ≡ change_first (has p) (with_state f) (slots_of L size)
by_run p f r event L size fit has_it states generations =
    sym (change_first_table (has p) (with_state f) (slot_of L) (slot_of (event ∷ L)) 0 size
    (λ j. lifted p f (slot_of L j) (generation_of (event ∷ L) j) (state_of (event ∷ L) j) (generations j) (states j))
    (one_run p r L size fit has_it))

-- an event that names a slot changes that one
by_slot : (g : Slot → Slot) (slot : ℕ) (event : Event) (L : Life) (size : ℕ) → ((n : ℕ) → slot_of (event ∷ L) n ≡ cond (slot == n) (g (slot_of L n)) (slot_of L n))
    → slots_of (event ∷ L) size ≡ change slot g (slots_of L size)
by_slot g slot event L size each = sym (change_table (slot_of L) (slot_of (event ∷ L)) g slot slot 0 size (omega arith) each)

ran_each : (L : Life) (slot run : ℕ) (key : Key) (start : Start) (at n : ℕ)
    → slot_of (Ran slot run key start at ∷ L) n ≡ cond (slot == n) (assigned run key start at (slot_of L n)) (slot_of L n)
ran_each L slot run key start at n = rw (state_ran L slot run key start at n) (by_name (slot == n) (is_cold start))
  where
    by_name : (b c : Bool) → record { generation = cond (b && c) (generation_of L n + 1) (generation_of L n); state = cond b (Busy (work_of run key start at)) (state_of L n) }
        ≡ cond b (record { generation = generation_of L n + cond c 1 0; state = Busy (work_of run key start at) }) (slot_of L n)
    by_name true true = refl
    by_name true false = rw add-zero refl
    by_name false c = refl

prewarming_each : (L : Life) (slot run : ℕ) (kind : Kind) (memory n : ℕ)
    → slot_of (Prewarming slot run kind memory ∷ L) n ≡ cond (slot == n) (opened run kind memory (slot_of L n)) (slot_of L n)
prewarming_each L slot run kind memory n = rw (state_prewarming L slot run kind memory n) (by_name (slot == n))
  where
    by_name : (b : Bool) → record { generation = cond b (generation_of L n + 1) (generation_of L n); state = cond b (Opening run kind memory) (state_of L n) }
        ≡ cond b (opened run kind memory (slot_of L n)) (slot_of L n)
    by_name true = refl
    by_name false = refl

gone_each : (L : Life) (slot g : ℕ) → goes g (slot_of L slot) ≡ true → (n : ℕ) → slot_of (Gone slot g ∷ L) n ≡ cond (slot == n) (after_gone g (slot_of L n)) (slot_of L n)
gone_each L slot g it_goes n =
    rw (state_gone L slot g (and_parts (generation_of L slot == g) (takes_gone (state_of L slot)) it_goes).1 n) (by_name (slot == n) refl)
  where
    by_name : (b : Bool) → (slot == n) ≡ b → record { generation = generation_of L n; state = cond b (gone_state (state_of L n)) (state_of L n) } ≡ cond b (after_gone g (slot_of L n)) (slot_of L n)
    by_name true e =
        let here : goes g (slot_of L n) ≡ true = subst (λ (i : ℕ). goes g (slot_of L i) ≡ true) (eqb-true slot n e) it_goes in
        rw here refl
    by_name false e = refl

-- removals in turn
twice : (s : State) → removed_state (removed_state s) ≡ removed_state s
twice Vacant = refl
twice (Opening run kind memory) = refl
twice (Prewarmed kind memory) = refl
twice (Busy w) = refl
twice (Idle key last) = refl
twice (Closing memory) = refl

again : (s : Slot) → with_state removed_state (with_state removed_state s) ≡ with_state removed_state s
again s = let f : State → Slot = λ x. record { generation = s.generation; state = x } in ap f (twice s.state)

one_more : (s : Slot) (a b : Bool) → cond b (with_state removed_state (cond a (with_state removed_state s) s)) (cond a (with_state removed_state s) s) ≡ cond (a || b) (with_state removed_state s) s
one_more s true true = again s
one_more s true false = refl
one_more s false true = refl
one_more s false false = refl

removed_table : (ns : List ℕ) (f g : ℕ → Slot) (n : ℕ) → ((j : ℕ) → g j ≡ cond (is_among j ns) (with_state removed_state (f j)) (f j)) → removed ns (table f 0 n) ≡ table g 0 n
removed_table [] f g n each = equal_table f g 0 n (λ j. sym (each j))
removed_table (x ∷ ns) f g n each =
    let one : ℕ → Slot = λ j. cond (x == j) (with_state removed_state (f j)) (f j) in
    let first = change_table f one (with_state removed_state) x x 0 n (omega arith) (λ j. refl) in
    ap (removed ns) first ∙ removed_table ns one g n (λ j. each j ∙ sym (one_more (f j) (x == j) (is_among j ns)))

-- what can be removed after a removal could be removed before it
goes_before : (s : State) → (is_idle (removed_state s) || is_prewarmed (removed_state s)) ≡ true → (is_idle s || is_prewarmed s) ≡ true
goes_before Vacant h = h
goes_before (Opening run kind memory) h = h
goes_before (Prewarmed kind memory) h = refl
goes_before (Busy w) h = h
goes_before (Idle key last) h = refl
goes_before (Closing memory) h = h

there_before : (n m : ℕ) (slots : List Slot) → IsThere CanGo (slice_get (change n (with_state removed_state) slots) m) → IsThere CanGo (slice_get slots m)
unfolding change
there_before n m [] h = h
there_before zero zero (s ∷ slots) h = goes_before s.state h
there_before zero (suc m) (s ∷ slots) h = h
there_before (suc n) zero (s ∷ slots) h = h
there_before (suc n) (suc m) (s ∷ slots) h = there_before n m slots h

abbrev CanGoIn : List Slot → ℕ → Type 0
CanGoIn slots n = IsThere CanGo (slice_get slots n)

all_before : (n : ℕ) (slots : List Slot) (ns : List ℕ) → AllByRecursion (CanGoIn (change n (with_state removed_state) slots)) ns → AllByRecursion (CanGoIn slots) ns
all_before n slots [] all = tt
all_before n slots (m ∷ ns) all = (there_before n m slots all.0, all_before n slots ns all.1)

all_go : (ns : List ℕ) (slots : List Slot) → CanAllGo ns slots → AllByRecursion (CanGoIn slots) ns
all_go [] slots can = tt
all_go (n ∷ ns) slots can = (can.0, all_before n slots ns (all_go ns (change n (with_state removed_state) slots) can.1))

named : (P : ℕ → Type 0) (ns : List ℕ) (j : ℕ) → AllByRecursion P ns → is_among j ns ≡ true → P j
named P [] j all e = cc
named P (n ∷ ns) j all e = by_name (n == j) refl e (named P ns j all.1)
  where
    by_name : (b : Bool) → (n == j) ≡ b → (b || is_among j ns) ≡ true → (is_among j ns ≡ true → P j) → P j
    by_name true eb any rest = subst P (eqb-true n j eb) all.0
    by_name false eb any rest = rest any

-- what can be removed holds the memory of its slot
right_removed : (s : State) (m : ℕ) → (is_idle s || is_prewarmed s) ≡ true → state_memory s ≡ cond (is_held s) m 0 → Closing m ≡ removed_state s
right_removed Vacant m can e = cc
right_removed (Opening run kind memory) m can e = cc
right_removed (Prewarmed kind memory) m can e = ap (λ k. Closing k) (sym e)
right_removed (Busy w) m can e = cc
right_removed (Idle key last) m can e = ap (λ k. Closing k) (sym e)
right_removed (Closing memory) m can e = cc

removed_each : (L : Life) (size : ℕ) (ns : List ℕ) → AreFit L size → CanAllGo ns (slots_of L size) → (n : ℕ)
    → slot_of (Removed ns ∷ L) n ≡ cond (is_among n ns) (with_state removed_state (slot_of L n)) (slot_of L n)
removed_each L size ns fit can n = rw (state_removed L ns n) (by_name (is_among n ns) refl)
  where
    by_name : (b : Bool) → is_among n ns ≡ b
        → record { generation = generation_of L n; state = cond b (Closing (memory_of L n)) (state_of L n) } ≡ cond b (with_state removed_state (slot_of L n)) (slot_of L n)
    by_name true e =
        let there = named (CanGoIn (slots_of L size)) ns n (all_go ns (slots_of L size) can) e in
        let goes_now = there_in CanGo (slot_of L) size n there in
        let is = right_removed (state_of L n) (memory_of L n) goes_now (memory_right L size fit n) in
        let f : State → Slot = λ x. record { generation = generation_of L n; state = x } in
        ap f is
    by_name false e = refl

pub changes : (event : Event) (L : Life) (size : ℕ) → AreFit (event ∷ L) size → slots_of (event ∷ L) size ≡ changed event (slots_of L size)
changes (Ran slot run key start at) L size fit = by_slot (assigned run key start at) slot (Ran slot run key start at) L size (ran_each L slot run key start at)
changes (Prewarming slot run kind memory) L size fit =
    by_slot (opened run kind memory) slot (Prewarming slot run kind memory) L size (prewarming_each L slot run kind memory)
changes (Removed ns) L size fit = sym (removed_table ns (slot_of L) (slot_of (Removed ns ∷ L)) size (removed_each L size ns fit.1 fit.0))
changes (Begun run at) L size fit =
    by_run (awaits run) (begun_state at) run (Begun run at) L size fit.1 (awaits_holds run)
    (state_begun L size run at fit.1 (some_slot (awaits run) IsAny L size fit.0)) (λ n. refl)
changes (Answered run alive at) L size fit =
    by_run (runs run) (answered_state alive at) run (Answered run alive at) L size fit.1 (runs_holds run)
    (state_answered L size run alive at fit.1 (some_slot (runs run) IsAny L size fit.0)) (λ n. refl)
changes (Lost run) L size fit =
    by_run (holds run) lost_state run (Lost run) L size fit.1 (λ s h. h) (state_lost L size run fit.1 (some_slot (holds run) IsAny L size fit.0)) (λ n. refl)
changes (Gone slot g) L size fit = by_slot (after_gone g) slot (Gone slot g) L size (gone_each L slot g (there_in (Goes g) (slot_of L) size slot fit.0))
changes (Overran run at) L size fit =
    by_run (runs run) (overrun_state at) run (Overran run at) L size fit.1 (runs_holds run)
    (state_overran L size run at fit.1 (some_slot (runs run) IsUnrecorded L size fit.0)) (λ n. refl)
changes Reopened L size fit = sym (map_table (with_state (λ state. Vacant)) (slot_of L) (slot_of (Reopened ∷ L)) 0 size (λ j. refl))
