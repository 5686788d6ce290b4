-- What is recorded as overrun of the runs that slots have.
use Rattle.std.proofs.Common.{◌≡◌, ◌==◌, ◌+◌, ◌≤◌, ◌<◌, ◌&&◌, ℕ, Bool, true, false, cond, [], ◌∷◌, Option, Some, None, refl, sym, ap, ◌∙◌, arith, subst}
use Rattle.std.specs.Prelude.{is_none}
use Rattle.std.proofs.lemmas.Bool.Decides.{nat_tests}
use Rattle.std.proofs.lemmas.Bool.{eqb-true}
use Rattle.ow_slots.specs.declared.states.State.TheVariants.{Idle, Closing}
use Rattle.ow_slots.specs.declared.states.Slot.{Slot}
use Rattle.ow_slots.specs.Slots.{first_with, has}
use Rattle.ow_slots.specs.declared.states.State.{State}
use Rattle.ow_slots.specs.State.{IsUnrecorded, holds, recorded_of, runs}
use Rattle.ow_slot_laws.specs.Life.{Event, Life, Order, RunOrder, PrewarmOrder, Reply, Run, Prewarm, Remove, Ran, Prewarming, Removed, Begun, Answered, Lost, Gone, Overran, Reopened, begun_at, is_among, is_gone, is_lost, last_order, memory_of, overran_after, overran_at, prewarm_order, prewarm_state, reply_to, run_count, run_order, run_state, since, slot_of, slots_of, state_by, state_of}
use Rattle.ow_slot_laws.specs.Fitting.{AreFit}
use Rattle.ow_slot_laws.proofs.Changing.{some_slot}
use Rattle.ow_slot_laws.proofs.Runs.{alone, counted, held, is_of, runs_holds}
use Rattle.ow_slot_laws.proofs.Tables.{found_in}

other_run : (r run count : ℕ) → run ≤ count → count < r → (r == run) ≡ false
other_run r run count le lt = grind (arith, nat_tests)

-- no run was recorded as overrun whose number was not drawn
unrecorded_before : (L : Life) (size r : ℕ) → AreFit L size → run_count L < r → overran_at r L ≡ None
unrecorded_before [] size r fit lt = refl
unrecorded_before (Ran slot run key start at ∷ L) size r fit lt = unrecorded_before L size r fit.1 (omega (arith, lt))
unrecorded_before (Prewarming slot run kind memory ∷ L) size r fit lt = unrecorded_before L size r fit.1 (omega (arith, lt))
unrecorded_before (Removed slots ∷ L) size r fit lt = unrecorded_before L size r fit.1 lt
unrecorded_before (Begun run at ∷ L) size r fit lt = unrecorded_before L size r fit.1 lt
unrecorded_before (Answered run alive at ∷ L) size r fit lt = unrecorded_before L size r fit.1 lt
unrecorded_before (Lost run ∷ L) size r fit lt = unrecorded_before L size r fit.1 lt
unrecorded_before (Gone slot generation ∷ L) size r fit lt = unrecorded_before L size r fit.1 lt
unrecorded_before (Overran run at ∷ L) size r fit lt =
    let some = some_slot (runs run) IsUnrecorded L size fit.0 in
    let drawn : run ≤ run_count L = counted L size run some.slot fit.1 (held L run some.slot (runs_holds run (state_of L some.slot) some.passes)) in
    let other : (r == run) ≡ false = other_run r run (run_count L) drawn lt in
    rw other (unrecorded_before L size r fit.1 lt)
unrecorded_before (Reopened ∷ L) size r fit lt = unrecorded_before L size r fit.1 lt

-- where an order is the last of its slot, all that was recorded of its run came after it
by_name : (x : Order) (r : ℕ) (b : Bool) (last : Option Order) (later all : Option ℕ) → (is_of r (Some x) ≡ true → all ≡ None) → (is_of r last ≡ true → later ≡ all)
    → is_of r (cond b (Some x) last) ≡ true → cond b None later ≡ all
by_name x r true last later all new old h = sym (new h)
by_name x r false last later all new old h = old h

-- what was recorded since an order that may be the last of a slot
since_order : (event : Event) (r : ℕ) (later : Life) (b : Bool) → overran_at r (event ∷ later) ≡ overran_at r later → overran_at r (cond b [] (event ∷ later)) ≡ cond b None (overran_at r later)
since_order event r later true same = refl
since_order event r later false same = same

-- the run that is the next was never recorded
next_unrecorded : (L : Life) (size run r : ℕ) → AreFit L size → run ≡ run_count L + 1 → (run == r) ≡ true → overran_at r L ≡ None
next_unrecorded L size run r fit next e =
    let same : run ≡ r = eqb-true run r e in
    unrecorded_before L size r fit (omega (arith, next, same))

recorded_since : (L : Life) (size r n : ℕ) → AreFit L size → is_of r (last_order L n) ≡ true → overran_at r (since L n) ≡ overran_at r L
recorded_since [] size r n fit h = refl
recorded_since (Ran slot run key start at ∷ L) size r n fit h =
    since_order (Ran slot run key start at) r (since L n) (slot == n) refl
    ∙ by_name (run_order run key start at) r (slot == n) (last_order L n) (overran_at r (since L n)) (overran_at r L)
    (next_unrecorded L size run r fit.1 fit.0.next) (recorded_since L size r n fit.1) h
recorded_since (Prewarming slot run kind memory ∷ L) size r n fit h =
    since_order (Prewarming slot run kind memory) r (since L n) (slot == n) refl
    ∙ by_name (prewarm_order run kind memory) r (slot == n) (last_order L n) (overran_at r (since L n)) (overran_at r L)
    (next_unrecorded L size run r fit.1 fit.0.next) (recorded_since L size r n fit.1) h
recorded_since (Removed slots ∷ L) size r n fit h =
    since_order (Removed slots) r (since L n) (is_among n slots) refl
    ∙ by_name Remove r (is_among n slots) (last_order L n) (overran_at r (since L n)) (overran_at r L) (λ e. cc) (recorded_since L size r n fit.1) h
recorded_since (Begun run at ∷ L) size r n fit h = recorded_since L size r n fit.1 h
recorded_since (Answered run alive at ∷ L) size r n fit h = recorded_since L size r n fit.1 h
recorded_since (Lost run ∷ L) size r n fit h = recorded_since L size r n fit.1 h
recorded_since (Gone slot generation ∷ L) size r n fit h = recorded_since L size r n fit.1 h
recorded_since (Overran run at ∷ L) size r n fit h = ap (overran_after (Overran run at) r) (recorded_since L size r n fit.1 h)
recorded_since (Reopened ∷ L) size r n fit h = cc

unrun_prewarm : (o : PrewarmOrder) (r m : ℕ) (g l : Bool) (t : Option ℕ) → runs r (prewarm_state o m g l t) ≡ true → ⊥
unrun_prewarm o r m true l t h = cc
unrun_prewarm o r m false true t h = cc
unrun_prewarm o r m false false (Some at) h = cc
unrun_prewarm o r m false false None h = cc

-- whether an order is of a container ahead that has this run
abbrev is_ahead_of : ℕ → Option Order → Bool
is_ahead_of r (Some (Prewarm o)) = o.run == r
is_ahead_of r last = false

ahead_of : (r : ℕ) (last : Option Order) → is_ahead_of r last ≡ true → is_of r last ≡ true
ahead_of r None h = cc
ahead_of r (Some (Run o)) h = cc
ahead_of r (Some (Prewarm o)) h = h
ahead_of r (Some Remove) h = cc

ahead_busy : (r n m : ℕ) (later : Life) (last : Option Order) → is_ahead_of r last ≡ true → runs r (state_by last n m later) ≡ true → ⊥
ahead_busy r n m later None of h = cc
ahead_busy r n m later (Some (Run o)) of h = cc
ahead_busy r n m later (Some (Prewarm o)) of h = unrun_prewarm o r m (is_gone n later) (is_lost o.run later) (begun_at o.run later) h
ahead_busy r n m later (Some Remove) of h = cc

by_other : (x : Order) (r : ℕ) (b : Bool) (last : Option Order) (all : Option ℕ) → (is_ahead_of r (Some x) ≡ true → all ≡ None) → (is_ahead_of r last ≡ true → all ≡ None)
    → is_ahead_of r (cond b (Some x) last) ≡ true → all ≡ None
by_other x r true last all new old h = new h
by_other x r false last all new old h = old h

not_again : (b : Bool) (at : ℕ) (old : Option ℕ) → (b ≡ true → ⊥) → old ≡ None → cond b (Some at) old ≡ None
not_again true at old never none = absurd (never refl)
not_again false at old never none = none

-- the run of a container ahead is never recorded as overrun
ahead_unrecorded : (L : Life) (size r n : ℕ) → AreFit L size → is_ahead_of r (last_order L n) ≡ true → overran_at r L ≡ None
ahead_unrecorded [] size r n fit h = refl
ahead_unrecorded (Ran slot run key start at ∷ L) size r n fit h =
    by_other (run_order run key start at) r (slot == n) (last_order L n) (overran_at r L) (λ e. cc) (ahead_unrecorded L size r n fit.1) h
ahead_unrecorded (Prewarming slot run kind memory ∷ L) size r n fit h =
    by_other (prewarm_order run kind memory) r (slot == n) (last_order L n) (overran_at r L) (next_unrecorded L size run r fit.1 fit.0.next) (ahead_unrecorded L size r n fit.1) h
ahead_unrecorded (Removed slots ∷ L) size r n fit h = by_other Remove r (is_among n slots) (last_order L n) (overran_at r L) (λ e. cc) (ahead_unrecorded L size r n fit.1) h
ahead_unrecorded (Begun run at ∷ L) size r n fit h = ahead_unrecorded L size r n fit.1 h
ahead_unrecorded (Answered run alive at ∷ L) size r n fit h = ahead_unrecorded L size r n fit.1 h
ahead_unrecorded (Lost run ∷ L) size r n fit h = ahead_unrecorded L size r n fit.1 h
ahead_unrecorded (Gone slot generation ∷ L) size r n fit h = ahead_unrecorded L size r n fit.1 h
ahead_unrecorded (Overran run at ∷ L) size r n fit h =
    let some = some_slot (runs run) IsUnrecorded L size fit.0 in
    not_again (r == run) at (overran_at r L)
    (λ e.
    let same : r ≡ run = eqb-true r run e in
    let passes : runs r (state_of L some.slot) ≡ true = subst (λ (k : ℕ). runs k (state_of L some.slot) ≡ true) (sym same) some.passes in
    let here : some.slot ≡ n = alone L size r some.slot n fit.1 (held L r some.slot (runs_holds r (state_of L some.slot) passes)) (ahead_of r (last_order L n) h) in
    ahead_busy r n (memory_of L n) (since L n) (last_order L n) h (subst (λ (i : ℕ). runs r (state_of L i) ≡ true) here passes))
    (ahead_unrecorded L size r n fit.1 h)
ahead_unrecorded (Reopened ∷ L) size r n fit h = cc

ahead_state : (o : PrewarmOrder) (m : ℕ) (g l : Bool) (t : Option ℕ) → recorded_of (prewarm_state o m g l t) ≡ None
ahead_state o m true l t = refl
ahead_state o m false true t = refl
ahead_state o m false false (Some at) = refl
ahead_state o m false false None = refl

recorded_reply : (o : RunOrder) (r m at : ℕ) (b : Bool) (v : Option ℕ) → holds r (cond b (Idle o.key at) (Closing m)) ≡ true → recorded_of (cond b (Idle o.key at) (Closing m)) ≡ v
recorded_reply o r m at true v h = cc
recorded_reply o r m at false v h = cc

recorded_run : (o : RunOrder) (r m : ℕ) (g : Bool) (a : Option Reply) (l : Bool) (v t : Option ℕ) → holds r (run_state o m g a l v t) ≡ true
    → recorded_of (run_state o m g a l v t) ≡ v
recorded_run o r m true None false v t h = refl
recorded_run o r m true None true v t h = cc
recorded_run o r m true (Some a) l v t h = cc
recorded_run o r m false None false v t h = refl
recorded_run o r m false None true v t h = cc
recorded_run o r m false (Some a) l v t h = recorded_reply o r m a.at (a.alive && is_none v) v h

recorded_by : (r n m : ℕ) (later : Life) (all : Option ℕ) (last : Option Order) → (is_of r last ≡ true → overran_at r later ≡ all) → (is_ahead_of r last ≡ true → all ≡ None)
    → is_of r last ≡ true → holds r (state_by last n m later) ≡ true → recorded_of (state_by last n m later) ≡ all
recorded_by r n m later all None same ahead of h = cc
recorded_by r n m later all (Some (Run o)) same ahead of h =
    recorded_run o r m (is_gone n later) (reply_to o.run later) (is_lost o.run later) (overran_at o.run later) (begun_at o.run later) h
    ∙ ap (λ k. overran_at k later) (eqb-true o.run r of)
    ∙ same of
recorded_by r n m later all (Some (Prewarm o)) same ahead of h = ahead_state o m (is_gone n later) (is_lost o.run later) (begun_at o.run later) ∙ sym (ahead of)
recorded_by r n m later all (Some Remove) same ahead of h = cc

-- a slot that has a run has recorded what was recorded of the run
recorded_right : (L : Life) (size r n : ℕ) → AreFit L size → holds r (state_of L n) ≡ true → recorded_of (state_of L n) ≡ overran_at r L
recorded_right L size r n fit h =
    recorded_by r n (memory_of L n) (since L n) (overran_at r L) (last_order L n) (recorded_since L size r n fit) (ahead_unrecorded L size r n fit) (held L r n h) h

pub recorded_found : (p : State → Bool) (L : Life) (size r : ℕ) (s : Slot) → ((x : State) → p x ≡ true → holds r x ≡ true) → AreFit L size
    → first_with p (slots_of L size) ≡ Some s → recorded_of s.state ≡ overran_at r L
recorded_found p L size r s has_it fit e =
    let is = found_in (has p) (slot_of L) 0 size s e in
    subst (λ (x : Slot). recorded_of x.state ≡ overran_at r L) is.is (recorded_right L size r is.number fit (has_it (state_of L is.number) is.passes))
