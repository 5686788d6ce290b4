-- Each run is in one slot, and the last order of a slot has its memory.
use Rattle.std.proofs.Common.{◌≡◌, ◌==◌, ◌+◌, ◌≤◌, ◌&&◌, ℕ, Bool, true, false, cond, [], ◌∷◌, Option, Some, None, refl, sym, ap, ◌∙◌, arith, subst}
use Rattle.std.specs.Prelude.{is_none, not}
use Rattle.std.proofs.lemmas.Bool.{eqb-true}
use Rattle.ow_traits.specs.declared.replies.Kind.{Kind}
use Rattle.ow_slots.specs.declared.keys.Key.{Key}
use Rattle.ow_slots.specs.declared.keys.Start.{Start}
use Rattle.ow_slots.specs.declared.keys.Start.TheVariants as starts
use Rattle.ow_slots.specs.declared.states.State.{State}
use Rattle.ow_slots.specs.declared.states.State.TheVariants.{Vacant, Opening, Prewarmed, Busy, Idle, Closing}
use Rattle.ow_slots.specs.declared.states.Slot.{Slot}
use Rattle.ow_slots.specs.State.{awaits, holds, is_cold, is_warm, runs}
use Rattle.ow_pool.specs.Keeping.{IsFor}
use Rattle.ow_slot_laws.specs.Life.{Life, Order, RunOrder, PrewarmOrder, Reply, Run, Prewarm, Remove, Ran, Prewarming, Removed, Begun, Answered, Lost, Gone, Overran, Reopened, begun_at, is_among, is_gone, is_lost, last_order, memory_of, overran_at, prewarm_order, prewarm_state, remove_state, reply_to, run_count, run_order, run_state, since, slot_of, slots_of, state_by, state_of}
use Rattle.ow_slot_laws.specs.Fitting.{AreFit, IsNextRun}
use Rattle.ow_slot_laws.proofs.Tables.{there_in}

-- whether an order is of this run
abbrev pub is_of : ℕ → Option Order → Bool
is_of r None = false
is_of r (Some (Run o)) = o.run == r
is_of r (Some (Prewarm o)) = o.run == r
is_of r (Some Remove) = false

counted_by : (x : Order) (r count : ℕ) (b : Bool) (last : Option Order) → (is_of r (Some x) ≡ true → r ≤ count + 1) → (is_of r last ≡ true → r ≤ count)
    → is_of r (cond b (Some x) last) ≡ true → r ≤ count + 1
counted_by x r count true last new old h = new h
counted_by x r count false last new old h = let le = old h in omega arith

dropped_by : (r count : ℕ) (b : Bool) (last : Option Order) → (is_of r last ≡ true → r ≤ count) → is_of r (cond b (Some Remove) last) ≡ true → r ≤ count
dropped_by r count true last old h = cc
dropped_by r count false last old h = old h

-- the number of a run that is the next
numbered : (run count r : ℕ) → run ≡ count + 1 → (run == r) ≡ true → r ≡ count + 1
numbered run count r next e = sym (eqb-true run r e) ∙ next

-- no order has a number that was not drawn
pub counted : (L : Life) (size r n : ℕ) → AreFit L size → is_of r (last_order L n) ≡ true → r ≤ run_count L
counted [] size r n fit h = cc
counted (Ran slot run key start at ∷ L) size r n fit h =
    counted_by (run_order run key start at) r (run_count L) (slot == n) (last_order L n)
    (λ e. let same = numbered run (run_count L) r fit.0.next e in omega (arith, same)) (counted L size r n fit.1) h
counted (Prewarming slot run kind memory ∷ L) size r n fit h =
    counted_by (prewarm_order run kind memory) r (run_count L) (slot == n) (last_order L n)
    (λ e. let same = numbered run (run_count L) r fit.0.next e in omega (arith, same)) (counted L size r n fit.1) h
counted (Removed slots ∷ L) size r n fit h = dropped_by r (run_count L) (is_among n slots) (last_order L n) (counted L size r n fit.1) h
counted (Begun run at ∷ L) size r n fit h = counted L size r n fit.1 h
counted (Answered run alive at ∷ L) size r n fit h = counted L size r n fit.1 h
counted (Lost run ∷ L) size r n fit h = counted L size r n fit.1 h
counted (Gone slot generation ∷ L) size r n fit h = counted L size r n fit.1 h
counted (Overran run at ∷ L) size r n fit h = counted L size r n fit.1 h
counted (Reopened ∷ L) size r n fit h = cc

alone_by : (x : Order) (slot r i j count : ℕ) (bi bj : Bool) (li lj : Option Order) → (slot == i) ≡ bi → (slot == j) ≡ bj
    → (is_of r (Some x) ≡ true → r ≡ count + 1) → (is_of r li ≡ true → r ≤ count) → (is_of r lj ≡ true → r ≤ count)
    → (is_of r li ≡ true → is_of r lj ≡ true → i ≡ j)
    → is_of r (cond bi (Some x) li) ≡ true → is_of r (cond bj (Some x) lj) ≡ true → i ≡ j
alone_by x slot r i j count true true li lj ei ej new oldi oldj rest hi hj = sym (eqb-true slot i ei) ∙ eqb-true slot j ej
alone_by x slot r i j count true false li lj ei ej new oldi oldj rest hi hj = let a = new hi in let b = oldj hj in absurd (omega arith)
alone_by x slot r i j count false true li lj ei ej new oldi oldj rest hi hj = let a = oldi hi in let b = new hj in absurd (omega arith)
alone_by x slot r i j count false false li lj ei ej new oldi oldj rest hi hj = rest hi hj

removed_by : (r i j : ℕ) (bi bj : Bool) (li lj : Option Order) → (is_of r li ≡ true → is_of r lj ≡ true → i ≡ j)
    → is_of r (cond bi (Some Remove) li) ≡ true → is_of r (cond bj (Some Remove) lj) ≡ true → i ≡ j
removed_by r i j true bj li lj rest hi hj = cc
removed_by r i j false true li lj rest hi hj = cc
removed_by r i j false false li lj rest hi hj = rest hi hj

-- two slots whose last orders are of one run are one
pub alone : (L : Life) (size r i j : ℕ) → AreFit L size → is_of r (last_order L i) ≡ true → is_of r (last_order L j) ≡ true → i ≡ j
alone [] size r i j fit hi hj = cc
alone (Ran slot run key start at ∷ L) size r i j fit hi hj =
    alone_by (run_order run key start at) slot r i j (run_count L) (slot == i) (slot == j) (last_order L i) (last_order L j) refl refl
    (numbered run (run_count L) r fit.0.next) (counted L size r i fit.1) (counted L size r j fit.1) (alone L size r i j fit.1) hi hj
alone (Prewarming slot run kind memory ∷ L) size r i j fit hi hj =
    alone_by (prewarm_order run kind memory) slot r i j (run_count L) (slot == i) (slot == j) (last_order L i) (last_order L j) refl refl
    (numbered run (run_count L) r fit.0.next) (counted L size r i fit.1) (counted L size r j fit.1) (alone L size r i j fit.1) hi hj
alone (Removed slots ∷ L) size r i j fit hi hj =
    removed_by r i j (is_among i slots) (is_among j slots) (last_order L i) (last_order L j) (alone L size r i j fit.1) hi hj
alone (Begun run at ∷ L) size r i j fit hi hj = alone L size r i j fit.1 hi hj
alone (Answered run alive at ∷ L) size r i j fit hi hj = alone L size r i j fit.1 hi hj
alone (Lost run ∷ L) size r i j fit hi hj = alone L size r i j fit.1 hi hj
alone (Gone slot generation ∷ L) size r i j fit hi hj = alone L size r i j fit.1 hi hj
alone (Overran run at ∷ L) size r i j fit hi hj = alone L size r i j fit.1 hi hj
alone (Reopened ∷ L) size r i j fit hi hj = cc

held_reply : (o : RunOrder) (r m at : ℕ) (b : Bool) → holds r (cond b (Idle o.key at) (Closing m)) ≡ true → (o.run == r) ≡ true
held_reply o r m at true h = cc
held_reply o r m at false h = cc

held_run : (o : RunOrder) (r m : ℕ) (g : Bool) (a : Option Reply) (l : Bool) (v t : Option ℕ) → holds r (run_state o m g a l v t) ≡ true → (o.run == r) ≡ true
held_run o r m true None false v t h = h
held_run o r m true None true v t h = cc
held_run o r m true (Some a) l v t h = cc
held_run o r m false None false v t h = h
held_run o r m false None true v t h = cc
held_run o r m false (Some a) l v t h = held_reply o r m a.at (a.alive && is_none v) h

held_prewarm : (o : PrewarmOrder) (r m : ℕ) (g l : Bool) (t : Option ℕ) → holds r (prewarm_state o m g l t) ≡ true → (o.run == r) ≡ true
held_prewarm o r m true l t h = cc
held_prewarm o r m false true t h = cc
held_prewarm o r m false false (Some at) h = cc
held_prewarm o r m false false None h = h

held_remove : (r m : ℕ) (g : Bool) → holds r (remove_state m g) ≡ true → is_of r (Some Remove) ≡ true
held_remove r m true h = cc
held_remove r m false h = cc

held_by : (r n m : ℕ) (later : Life) (last : Option Order) → holds r (state_by last n m later) ≡ true → is_of r last ≡ true
held_by r n m later None h = cc
held_by r n m later (Some (Run o)) h = held_run o r m (is_gone n later) (reply_to o.run later) (is_lost o.run later) (overran_at o.run later) (begun_at o.run later) h
held_by r n m later (Some (Prewarm o)) h = held_prewarm o r m (is_gone n later) (is_lost o.run later) (begun_at o.run later) h
held_by r n m later (Some Remove) h = held_remove r m (is_gone n later) h

-- a run that a slot has is that of its last order
pub held : (L : Life) (r n : ℕ) → holds r (state_of L n) ≡ true → is_of r (last_order L n) ≡ true
held L r n h = held_by r n (memory_of L n) (since L n) (last_order L n) h

pub runs_holds : (r : ℕ) (s : State) → runs r s ≡ true → holds r s ≡ true
runs_holds r Vacant h = cc
runs_holds r (Opening run kind memory) h = cc
runs_holds r (Prewarmed kind memory) h = cc
runs_holds r (Busy w) h = h
runs_holds r (Idle key last) h = cc
runs_holds r (Closing m) h = cc

awaits_busy : (b c d : Bool) → (b && (c && d)) ≡ true → d ≡ true
awaits_busy true true d h = h
awaits_busy true false d h = cc
awaits_busy false c d h = cc

pub awaits_holds : (r : ℕ) (s : State) → awaits r s ≡ true → holds r s ≡ true
awaits_holds r Vacant h = cc
awaits_holds r (Opening run kind memory) h = h
awaits_holds r (Prewarmed kind memory) h = cc
awaits_holds r (Busy w) h = awaits_busy (not (is_warm w.start)) (is_none w.begun) (w.run == r) h
awaits_holds r (Idle key last) h = cc
awaits_holds r (Closing m) h = cc

-- two slots that have one run are one
pub one_run : (p : State → Bool) (r : ℕ) (L : Life) (size : ℕ) → AreFit L size → ((s : State) → p s ≡ true → holds r s ≡ true)
    → (i j : ℕ) → p (state_of L i) ≡ true → p (state_of L j) ≡ true → i ≡ j
one_run p r L size fit has_it i j hi hj = alone L size r i j fit (held L r i (has_it (state_of L i) hi)) (held L r j (has_it (state_of L j) hj))

-- some slot's state passes
pub record SomeSlot (p : State → Bool) (L : Life) : Type 0 where
  pub slot : ℕ
  pub passes : p (state_of L slot) ≡ true

-- where some slot's state passes, each slot whose last order is of the run does
pub only : (p : State → Bool) (L : Life) (size r : ℕ) → AreFit L size → ((s : State) → p s ≡ true → holds r s ≡ true) → SomeSlot p L
    → (n : ℕ) → is_of r (last_order L n) ≡ true → p (state_of L n) ≡ true
only p L size r fit has_it some n h =
    let same : some.slot ≡ n = alone L size r some.slot n fit (held L r some.slot (has_it (state_of L some.slot) some.passes)) h in
    subst (λ (i : ℕ). p (state_of L i) ≡ true) same some.passes

-- the memory of the last order is that of the slot
abbrev pub Coheres : Option Order → ℕ → Type 0
Coheres None m = Unit {0}
Coheres (Some (Run o)) m = o.key.memory ≡ m
Coheres (Some (Prewarm o)) m = o.memory ≡ m
Coheres (Some Remove) m = Unit {0}

warm_reply : (o : RunOrder) (key : Key) (m at : ℕ) (b : Bool) → IsFor starts.Warm key (cond b (Idle o.key at) (Closing m)) → o.key ≡ key
warm_reply o key m at true own = own
warm_reply o key m at false own = absurd own

warm_run : (o : RunOrder) (key : Key) (m : ℕ) (g : Bool) (a : Option Reply) (l : Bool) (v t : Option ℕ) → IsFor starts.Warm key (run_state o m g a l v t) → o.key ≡ key
warm_run o key m true None false v t own = absurd own
warm_run o key m true None true v t own = absurd own
warm_run o key m true (Some a) l v t own = absurd own
warm_run o key m false None false v t own = absurd own
warm_run o key m false None true v t own = absurd own
warm_run o key m false (Some a) l v t own = warm_reply o key m a.at (a.alive && is_none v) own

warm_prewarm : (o : PrewarmOrder) (key : Key) (m : ℕ) (g l : Bool) (t : Option ℕ) → IsFor starts.Warm key (prewarm_state o m g l t) → ⊥
warm_prewarm o key m true l t own = own
warm_prewarm o key m false true t own = own
warm_prewarm o key m false false (Some at) own = own
warm_prewarm o key m false false None own = own

warm_remove : (key : Key) (m : ℕ) (g : Bool) → IsFor starts.Warm key (remove_state m g) → ⊥
warm_remove key m true own = own
warm_remove key m false own = own

warm_by : (key : Key) (n m : ℕ) (later : Life) (last : Option Order) → Coheres last m → IsFor starts.Warm key (state_by last n m later) → key.memory ≡ m
warm_by key n m later None is own = absurd own
warm_by key n m later (Some (Run o)) is own =
    let same : o.key ≡ key = warm_run o key m (is_gone n later) (reply_to o.run later) (is_lost o.run later) (overran_at o.run later) (begun_at o.run later) own in
    sym (ap (λ (k : Key). k.memory) same) ∙ is
warm_by key n m later (Some (Prewarm o)) is own = absurd (warm_prewarm o key m (is_gone n later) (is_lost o.run later) (begun_at o.run later) own)
warm_by key n m later (Some Remove) is own = absurd (warm_remove key m (is_gone n later) own)

ahead_reply : (o : RunOrder) (key : Key) (m at : ℕ) (b : Bool) → IsFor starts.Prewarmed key (cond b (Idle o.key at) (Closing m)) → ⊥
ahead_reply o key m at true own = own
ahead_reply o key m at false own = own

ahead_run : (o : RunOrder) (key : Key) (m : ℕ) (g : Bool) (a : Option Reply) (l : Bool) (v t : Option ℕ) → IsFor starts.Prewarmed key (run_state o m g a l v t) → ⊥
ahead_run o key m true None false v t own = own
ahead_run o key m true None true v t own = own
ahead_run o key m true (Some a) l v t own = own
ahead_run o key m false None false v t own = own
ahead_run o key m false None true v t own = own
ahead_run o key m false (Some a) l v t own = ahead_reply o key m a.at (a.alive && is_none v) own

ahead_prewarm : (o : PrewarmOrder) (key : Key) (m : ℕ) (g l : Bool) (t : Option ℕ) → IsFor starts.Prewarmed key (prewarm_state o m g l t) → o.memory ≡ key.memory
ahead_prewarm o key m true l t own = absurd own
ahead_prewarm o key m false true t own = absurd own
ahead_prewarm o key m false false (Some at) own = own.1
ahead_prewarm o key m false false None own = absurd own

ahead_remove : (key : Key) (m : ℕ) (g : Bool) → IsFor starts.Prewarmed key (remove_state m g) → ⊥
ahead_remove key m true own = own
ahead_remove key m false own = own

ahead_by : (key : Key) (n m : ℕ) (later : Life) (last : Option Order) → Coheres last m → IsFor starts.Prewarmed key (state_by last n m later) → key.memory ≡ m
ahead_by key n m later None is own = absurd own
ahead_by key n m later (Some (Run o)) is own =
    absurd (ahead_run o key m (is_gone n later) (reply_to o.run later) (is_lost o.run later) (overran_at o.run later) (begun_at o.run later) own)
ahead_by key n m later (Some (Prewarm o)) is own = sym (ahead_prewarm o key m (is_gone n later) (is_lost o.run later) (begun_at o.run later) own) ∙ is
ahead_by key n m later (Some Remove) is own = absurd (ahead_remove key m (is_gone n later) own)

-- a start in a slot that it fits leaves the slot's memory right
started : (start : Start) (key : Key) (n m : ℕ) (later : Life) (last : Option Order) → Coheres last m → IsFor start key (state_by last n m later)
    → key.memory ≡ cond (is_cold start) key.memory m
started starts.Warm key n m later last is own = warm_by key n m later last is own
started starts.Prewarmed key n m later last is own = ahead_by key n m later last is own
started starts.Cold key n m later last is own = refl

coheres_run : (run : ℕ) (key : Key) (start : Start) (at m : ℕ) (last : Option Order) (b : Bool) → (b ≡ true → key.memory ≡ cond (is_cold start) key.memory m) → Coheres last m
    → Coheres (cond b (Some (run_order run key start at)) last) (cond (b && is_cold start) key.memory m)
coheres_run run key start at m last true new old = new refl
coheres_run run key start at m last false new old = old

coheres_prewarm : (run : ℕ) (kind : Kind) (memory m : ℕ) (last : Option Order) (b : Bool) → Coheres last m
    → Coheres (cond b (Some (prewarm_order run kind memory)) last) (cond b memory m)
coheres_prewarm run kind memory m last true old = refl
coheres_prewarm run kind memory m last false old = old

coheres_remove : (m : ℕ) (last : Option Order) (b : Bool) → Coheres last m → Coheres (cond b (Some Remove) last) m
coheres_remove m last true old = tt
coheres_remove m last false old = old

-- what a start finds in its slot
found_own : (L : Life) (size slot run : ℕ) (key : Key) (start : Start) → IsNextRun (slots_of L size) (run_count L) slot run key start → (n : ℕ) → (slot == n) ≡ true
    → IsFor start key (state_of L n)
found_own L size slot run key start fit n e =
    subst (λ (i : ℕ). IsFor start key (state_of L i)) (eqb-true slot n e) (there_in (λ (s : Slot). IsFor start key s.state) (slot_of L) size slot fit.own)

pub coherent : (L : Life) (size : ℕ) → AreFit L size → (n : ℕ) → Coheres (last_order L n) (memory_of L n)
coherent [] size fit n = tt
coherent (Ran slot run key start at ∷ L) size fit n =
    coheres_run run key start at (memory_of L n) (last_order L n) (slot == n)
    (λ e. started start key n (memory_of L n) (since L n) (last_order L n) (coherent L size fit.1 n) (found_own L size slot run key start fit.0 n e))
    (coherent L size fit.1 n)
coherent (Prewarming slot run kind memory ∷ L) size fit n = coheres_prewarm run kind memory (memory_of L n) (last_order L n) (slot == n) (coherent L size fit.1 n)
coherent (Removed slots ∷ L) size fit n = coheres_remove (memory_of L n) (last_order L n) (is_among n slots) (coherent L size fit.1 n)
coherent (Begun run at ∷ L) size fit n = coherent L size fit.1 n
coherent (Answered run alive at ∷ L) size fit n = coherent L size fit.1 n
coherent (Lost run ∷ L) size fit n = coherent L size fit.1 n
coherent (Gone slot generation ∷ L) size fit n = coherent L size fit.1 n
coherent (Overran run at ∷ L) size fit n = coherent L size fit.1 n
coherent (Reopened ∷ L) size fit n = tt
