-- What each event makes of the state of a slot.
use Rattle.std.proofs.Common.{◌≡◌, ◌==◌, ◌&&◌, ℕ, Bool, true, false, cond, List, [], ◌∷◌, Option, Some, None, refl, subst}
use Rattle.std.specs.Prelude.{is_none}
use Rattle.std.proofs.lemmas.Bool.{eqb-true}
use Rattle.ow_traits.specs.declared.replies.Kind.{Kind}
use Rattle.ow_slots.specs.declared.keys.Key.{Key}
use Rattle.ow_slots.specs.declared.keys.Start.{Start}
use Rattle.ow_slots.specs.declared.states.State.{State}
use Rattle.ow_slots.specs.declared.states.State.TheVariants.{Vacant, Opening, Busy, Idle, Closing}
use Rattle.ow_slots.specs.State.{answered_state, awaits, begun_state, gone_state, holds, is_cold, is_warm, lost_state, overrun_state, runs, state_memory, takes_gone, work_of}
use Rattle.ow_slot_laws.specs.Life.{Event, Life, Order, RunOrder, PrewarmOrder, Reply, Run, Prewarm, Remove, Ran, Prewarming, Removed, Begun, Answered, Lost, Gone, Overran, begun_at, busy_state, is_among, is_gone, is_held, is_lost, last_order, memory_of, overran_at, prewarm_order, prewarm_state, remove_state, reply_to, run_order, run_state, since, state_by, state_of}
use Rattle.ow_slot_laws.specs.Fitting.{AreFit}
use Rattle.ow_slot_laws.proofs.Runs.{Coheres, SomeSlot, awaits_holds, coherent, is_of, only, runs_holds}

-- a state that passes is changed
abbrev pub when : (State → Bool) → (State → State) → State → State
when p f s = cond (p s) (f s) s

-- after an answer nothing passes
quiet : (p : State → Bool) (f : State → State) (i : State) (m : ℕ) (b : Bool) → p i ≡ false → p (Closing m) ≡ false → cond b i (Closing m) ≡ when p f (cond b i (Closing m))
quiet p f i m true a c = rw a refl
quiet p f i m false a c = rw c refl

never : (p : State → Bool) (i : State) (m : ℕ) (b : Bool) → p i ≡ false → p (Closing m) ≡ false → p (cond b i (Closing m)) ≡ true → ⊥
never p i m true a c h = cc
never p i m false a c h = cc

begun_busy : (o : RunOrder) (r at : ℕ) (b w g : Bool) (v t : Option ℕ) → (o.run == r) ≡ b → is_warm o.start ≡ w → (b ≡ true → awaits r (busy_state o g v t) ≡ true)
    → busy_state o g v (cond (o.run == r) (Some at) t) ≡ when (awaits r) (begun_state at) (busy_state o g v t)
begun_busy o r at true true g v t e k one = let h : false ≡ true = rw k at (one refl) in cc
begun_busy o r at true false g v None e k one = rw (e, k) refl
begun_busy o r at true false g v (Some x) e k one = let h : false ≡ true = rw k at (one refl) in cc
begun_busy o r at false true g v t e k one = rw (e, k) refl
begun_busy o r at false false g v None e k one = rw (e, k) refl
begun_busy o r at false false g v (Some x) e k one = rw (e, k) refl

begun_run : (o : RunOrder) (r at m : ℕ) (b g : Bool) (a : Option Reply) (l : Bool) (v t : Option ℕ) → (o.run == r) ≡ b → (b ≡ true → awaits r (run_state o m g a l v t) ≡ true)
    → run_state o m g a l v (cond (o.run == r) (Some at) t) ≡ when (awaits r) (begun_state at) (run_state o m g a l v t)
begun_run o r at m b true None false v t e one = begun_busy o r at b (is_warm o.start) true v t e refl one
begun_run o r at m b true None true v t e one = refl
begun_run o r at m b true (Some x) l v t e one = refl
begun_run o r at m b false None false v t e one = begun_busy o r at b (is_warm o.start) false v t e refl one
begun_run o r at m b false None true v t e one = refl
begun_run o r at m b false (Some x) l v t e one = quiet (awaits r) (begun_state at) (Idle o.key x.at) m (x.alive && is_none v) refl refl

begun_prewarm : (o : PrewarmOrder) (r at m : ℕ) (b g l : Bool) (t : Option ℕ) → (o.run == r) ≡ b
    → prewarm_state o m g l (cond b (Some at) t) ≡ when (awaits r) (begun_state at) (prewarm_state o m g l t)
begun_prewarm o r at m b true l t e = refl
begun_prewarm o r at m b false true t e = refl
begun_prewarm o r at m true false false None e = rw e refl
begun_prewarm o r at m false false false None e = rw e refl
begun_prewarm o r at m true false false (Some x) e = refl
begun_prewarm o r at m false false false (Some x) e = refl

still : (p : State → Bool) (f : State → State) (m : ℕ) (g : Bool) → p Vacant ≡ false → p (Closing m) ≡ false → remove_state m g ≡ when p f (remove_state m g)
still p f m true a c = rw a refl
still p f m false a c = rw c refl

begun_by : (r at n m : ℕ) (later : Life) (last : Option Order) → (is_of r last ≡ true → awaits r (state_by last n m later) ≡ true)
    → state_by last n m (Begun r at ∷ later) ≡ when (awaits r) (begun_state at) (state_by last n m later)
begun_by r at n m later None one = refl
begun_by r at n m later (Some (Run o)) one = begun_run o r at m (o.run == r) (is_gone n later) (reply_to o.run later) (is_lost o.run later) (overran_at o.run later) (begun_at o.run later) refl one
begun_by r at n m later (Some (Prewarm o)) one = begun_prewarm o r at m (o.run == r) (is_gone n later) (is_lost o.run later) (begun_at o.run later) refl
begun_by r at n m later (Some Remove) one = still (awaits r) (begun_state at) m (is_gone n later) refl refl

pub state_begun : (L : Life) (size r at : ℕ) → AreFit L size → SomeSlot (awaits r) L → (n : ℕ)
    → state_of (Begun r at ∷ L) n ≡ when (awaits r) (begun_state at) (state_of L n)
state_begun L size r at fit some n = begun_by r at n (memory_of L n) (since L n) (last_order L n) (only (awaits r) L size r fit (awaits_holds r) some n)

-- an answer
answered_run : (o : RunOrder) (r : ℕ) (reply : Reply) (m : ℕ) (b g : Bool) (a : Option Reply) (l : Bool) (v t : Option ℕ) → (o.run == r) ≡ b → o.key.memory ≡ m
    → (b ≡ true → runs r (run_state o m g a l v t) ≡ true)
    → run_state o m g (cond (o.run == r) (Some reply) a) l v t ≡ when (runs r) (answered_state reply.alive reply.at) (run_state o m g a l v t)
answered_run o r reply m true true None false v t e k one = rw e refl
answered_run o r reply m true true None true v t e k one = let h : false ≡ true = one refl in cc
answered_run o r reply m true true (Some x) l v t e k one = let h : false ≡ true = one refl in cc
answered_run o r reply m true false None false v t e k one = rw (e, k) refl
answered_run o r reply m true false None true v t e k one = let h : false ≡ true = one refl in cc
answered_run o r reply m true false (Some x) l v t e k one = absurd (never (runs r) (Idle o.key x.at) m (x.alive && is_none v) refl refl (one refl))
answered_run o r reply m false true None false v t e k one = rw e refl
answered_run o r reply m false true None true v t e k one = rw e refl
answered_run o r reply m false true (Some x) l v t e k one = rw e refl
answered_run o r reply m false false None false v t e k one = rw e refl
answered_run o r reply m false false None true v t e k one = rw e refl
answered_run o r reply m false false (Some x) l v t e k one = rw e (quiet (runs r) (answered_state reply.alive reply.at) (Idle o.key x.at) m (x.alive && is_none v) refl refl)

-- what names no busy state leaves one after a Prewarm order
unrun : (o : PrewarmOrder) (r m : ℕ) (f : State → State) (g l : Bool) (t : Option ℕ) → prewarm_state o m g l t ≡ when (runs r) f (prewarm_state o m g l t)
unrun o r m f true l t = refl
unrun o r m f false true t = refl
unrun o r m f false false None = refl
unrun o r m f false false (Some x) = refl

answered_by : (r : ℕ) (alive : Bool) (at n m : ℕ) (later : Life) (last : Option Order) → Coheres last m → (is_of r last ≡ true → runs r (state_by last n m later) ≡ true)
    → state_by last n m (Answered r alive at ∷ later) ≡ when (runs r) (answered_state alive at) (state_by last n m later)
answered_by r alive at n m later None is one = refl
answered_by r alive at n m later (Some (Run o)) is one =
    answered_run o r (record { alive = alive; at = at }) m (o.run == r) (is_gone n later) (reply_to o.run later) (is_lost o.run later) (overran_at o.run later) (begun_at o.run later) refl is one
answered_by r alive at n m later (Some (Prewarm o)) is one = unrun o r m (answered_state alive at) (is_gone n later) (is_lost o.run later) (begun_at o.run later)
answered_by r alive at n m later (Some Remove) is one = still (runs r) (answered_state alive at) m (is_gone n later) refl refl

pub state_answered : (L : Life) (size r : ℕ) (alive : Bool) (at : ℕ) → AreFit L size → SomeSlot (runs r) L → (n : ℕ)
    → state_of (Answered r alive at ∷ L) n ≡ when (runs r) (answered_state alive at) (state_of L n)
state_answered L size r alive at fit some n =
    answered_by r alive at n (memory_of L n) (since L n) (last_order L n) (coherent L size fit n) (only (runs r) L size r fit (runs_holds r) some n)

-- a loss
lost_run : (o : RunOrder) (r m : ℕ) (b g : Bool) (a : Option Reply) (l : Bool) (v t : Option ℕ) → (o.run == r) ≡ b → o.key.memory ≡ m
    → (b ≡ true → holds r (run_state o m g a l v t) ≡ true)
    → run_state o m g a (cond (o.run == r) true l) v t ≡ when (holds r) lost_state (run_state o m g a l v t)
lost_run o r m true true None false v t e k one = rw e refl
lost_run o r m true true None true v t e k one = let h : false ≡ true = one refl in cc
lost_run o r m true true (Some x) l v t e k one = let h : false ≡ true = one refl in cc
lost_run o r m true false None false v t e k one = rw (e, k) refl
lost_run o r m true false None true v t e k one = let h : false ≡ true = one refl in cc
lost_run o r m true false (Some x) l v t e k one = absurd (never (holds r) (Idle o.key x.at) m (x.alive && is_none v) refl refl (one refl))
lost_run o r m false true None false v t e k one = rw e refl
lost_run o r m false true None true v t e k one = rw e refl
lost_run o r m false true (Some x) l v t e k one = refl
lost_run o r m false false None false v t e k one = rw e refl
lost_run o r m false false None true v t e k one = rw e refl
lost_run o r m false false (Some x) l v t e k one = quiet (holds r) lost_state (Idle o.key x.at) m (x.alive && is_none v) refl refl

lost_prewarm : (o : PrewarmOrder) (r m : ℕ) (b g l : Bool) (t : Option ℕ) → (o.run == r) ≡ b → o.memory ≡ m
    → (b ≡ true → holds r (prewarm_state o m g l t) ≡ true)
    → prewarm_state o m g (cond (o.run == r) true l) t ≡ when (holds r) lost_state (prewarm_state o m g l t)
lost_prewarm o r m b true l t e k one = refl
lost_prewarm o r m true false true t e k one = let h : false ≡ true = one refl in cc
lost_prewarm o r m false false true t e k one = rw e refl
lost_prewarm o r m true false false (Some x) e k one = let h : false ≡ true = one refl in cc
lost_prewarm o r m false false false (Some x) e k one = rw e refl
lost_prewarm o r m true false false None e k one = rw (e, k) refl
lost_prewarm o r m false false false None e k one = rw e refl

lost_by : (r n m : ℕ) (later : Life) (last : Option Order) → Coheres last m → (is_of r last ≡ true → holds r (state_by last n m later) ≡ true)
    → state_by last n m (Lost r ∷ later) ≡ when (holds r) lost_state (state_by last n m later)
lost_by r n m later None is one = refl
lost_by r n m later (Some (Run o)) is one =
    lost_run o r m (o.run == r) (is_gone n later) (reply_to o.run later) (is_lost o.run later) (overran_at o.run later) (begun_at o.run later) refl is one
lost_by r n m later (Some (Prewarm o)) is one = lost_prewarm o r m (o.run == r) (is_gone n later) (is_lost o.run later) (begun_at o.run later) refl is one
lost_by r n m later (Some Remove) is one = still (holds r) lost_state m (is_gone n later) refl refl

pub state_lost : (L : Life) (size r : ℕ) → AreFit L size → SomeSlot (holds r) L → (n : ℕ) → state_of (Lost r ∷ L) n ≡ when (holds r) lost_state (state_of L n)
state_lost L size r fit some n = lost_by r n (memory_of L n) (since L n) (last_order L n) (coherent L size fit n) (only (holds r) L size r fit (λ s h. h) some n)

-- a sweep
overran_run : (o : RunOrder) (r at m : ℕ) (b g : Bool) (a : Option Reply) (l : Bool) (v t : Option ℕ) → (o.run == r) ≡ b
    → (b ≡ true → runs r (run_state o m g a l v t) ≡ true)
    → run_state o m g a l (cond (o.run == r) (Some at) v) t ≡ when (runs r) (overrun_state at) (run_state o m g a l v t)
overran_run o r at m true true None false v t e one = rw e refl
overran_run o r at m true true None true v t e one = refl
overran_run o r at m true true (Some x) l v t e one = refl
overran_run o r at m true false None false v t e one = rw e refl
overran_run o r at m true false None true v t e one = refl
overran_run o r at m true false (Some x) l v t e one = absurd (never (runs r) (Idle o.key x.at) m (x.alive && is_none v) refl refl (one refl))
overran_run o r at m false true None false v t e one = rw e refl
overran_run o r at m false true None true v t e one = refl
overran_run o r at m false true (Some x) l v t e one = refl
overran_run o r at m false false None false v t e one = rw e refl
overran_run o r at m false false None true v t e one = refl
overran_run o r at m false false (Some x) l v t e one = rw e (quiet (runs r) (overrun_state at) (Idle o.key x.at) m (x.alive && is_none v) refl refl)

overran_by : (r at n m : ℕ) (later : Life) (last : Option Order) → (is_of r last ≡ true → runs r (state_by last n m later) ≡ true)
    → state_by last n m (Overran r at ∷ later) ≡ when (runs r) (overrun_state at) (state_by last n m later)
overran_by r at n m later None one = refl
overran_by r at n m later (Some (Run o)) one =
    overran_run o r at m (o.run == r) (is_gone n later) (reply_to o.run later) (is_lost o.run later) (overran_at o.run later) (begun_at o.run later) refl one
overran_by r at n m later (Some (Prewarm o)) one = unrun o r m (overrun_state at) (is_gone n later) (is_lost o.run later) (begun_at o.run later)
overran_by r at n m later (Some Remove) one = still (runs r) (overrun_state at) m (is_gone n later) refl refl

pub state_overran : (L : Life) (size r at : ℕ) → AreFit L size → SomeSlot (runs r) L → (n : ℕ)
    → state_of (Overran r at ∷ L) n ≡ when (runs r) (overrun_state at) (state_of L n)
state_overran L size r at fit some n = overran_by r at n (memory_of L n) (since L n) (last_order L n) (only (runs r) L size r fit (runs_holds r) some n)

-- a container that is gone
both_vacant : (key : Key) (m at : ℕ) (b : Bool) → Vacant ≡ gone_state (cond b (Idle key at) (Closing m))
both_vacant key m at true = refl
both_vacant key m at false = refl

gone_run : (o : RunOrder) (m : ℕ) (b g : Bool) (a : Option Reply) (l : Bool) (v t : Option ℕ) → (b ≡ true → takes_gone (run_state o m g a l v t) ≡ true)
    → run_state o m (cond b true g) a l v t ≡ cond b (gone_state (run_state o m g a l v t)) (run_state o m g a l v t)
gone_run o m false g a l v t fits = refl
gone_run o m true true None false v t fits = refl
gone_run o m true true None true v t fits = refl
gone_run o m true true (Some x) l v t fits = refl
gone_run o m true false None false v t fits = refl
gone_run o m true false None true v t fits = refl
gone_run o m true false (Some x) l v t fits = both_vacant o.key m x.at (x.alive && is_none v)

gone_prewarm : (o : PrewarmOrder) (m : ℕ) (b g l : Bool) (t : Option ℕ) → (b ≡ true → takes_gone (prewarm_state o m g l t) ≡ true)
    → prewarm_state o m (cond b true g) l t ≡ cond b (gone_state (prewarm_state o m g l t)) (prewarm_state o m g l t)
gone_prewarm o m false g l t fits = refl
gone_prewarm o m true true l t fits = refl
gone_prewarm o m true false true t fits = refl
gone_prewarm o m true false false (Some x) fits = refl
gone_prewarm o m true false false None fits = refl

gone_remove : (m : ℕ) (b g : Bool) → remove_state m (cond b true g) ≡ cond b (gone_state (remove_state m g)) (remove_state m g)
gone_remove m false g = refl
gone_remove m true true = refl
gone_remove m true false = refl

gone_none : (b : Bool) → Vacant ≡ cond b (gone_state Vacant) Vacant
gone_none true = refl
gone_none false = refl

gone_by : (slot g n m : ℕ) (later : Life) (last : Option Order) → ((slot == n) ≡ true → takes_gone (state_by last n m later) ≡ true)
    → state_by last n m (Gone slot g ∷ later) ≡ cond (slot == n) (gone_state (state_by last n m later)) (state_by last n m later)
gone_by slot g n m later None fits = gone_none (slot == n)
gone_by slot g n m later (Some (Run o)) fits = gone_run o m (slot == n) (is_gone n later) (reply_to o.run later) (is_lost o.run later) (overran_at o.run later) (begun_at o.run later) fits
gone_by slot g n m later (Some (Prewarm o)) fits = gone_prewarm o m (slot == n) (is_gone n later) (is_lost o.run later) (begun_at o.run later) fits
gone_by slot g n m later (Some Remove) fits = gone_remove m (slot == n) (is_gone n later)

pub state_gone : (L : Life) (slot g : ℕ) → takes_gone (state_of L slot) ≡ true → (n : ℕ) → state_of (Gone slot g ∷ L) n ≡ cond (slot == n) (gone_state (state_of L n)) (state_of L n)
state_gone L slot g fits n =
    gone_by slot g n (memory_of L n) (since L n) (last_order L n) (λ e. subst (λ (i : ℕ). takes_gone (state_of L i) ≡ true) (eqb-true slot n e) fits)

-- an order that doesn't name the slot is no event of its container
record IsApart (event : Event) : Type 0 where
  gone : (n : ℕ) (L : Life) → is_gone n (event ∷ L) ≡ is_gone n L
  lost : (r : ℕ) (L : Life) → is_lost r (event ∷ L) ≡ is_lost r L
  reply : (r : ℕ) (L : Life) → reply_to r (event ∷ L) ≡ reply_to r L
  begun : (r : ℕ) (L : Life) → begun_at r (event ∷ L) ≡ begun_at r L
  overran : (r : ℕ) (L : Life) → overran_at r (event ∷ L) ≡ overran_at r L

later_apart : (event : Event) → IsApart event → (n m : ℕ) (later : Life) (last : Option Order) → state_by last n m (event ∷ later) ≡ state_by last n m later
later_apart event apart n m later None = refl
later_apart event apart n m later (Some (Run o)) = rw (apart.gone n later, apart.lost o.run later, apart.reply o.run later, apart.begun o.run later, apart.overran o.run later) refl
later_apart event apart n m later (Some (Prewarm o)) = rw (apart.gone n later, apart.lost o.run later, apart.begun o.run later) refl
later_apart event apart n m later (Some Remove) = rw (apart.gone n later) refl

ran_apart : (slot run : ℕ) (key : Key) (start : Start) (at : ℕ) → IsApart (Ran slot run key start at)
ran_apart slot run key start at = record { gone = λ n L. refl; lost = λ r L. refl; reply = λ r L. refl; begun = λ r L. refl; overran = λ r L. refl }

prewarming_apart : (slot run : ℕ) (kind : Kind) (memory : ℕ) → IsApart (Prewarming slot run kind memory)
prewarming_apart slot run kind memory = record { gone = λ n L. refl; lost = λ r L. refl; reply = λ r L. refl; begun = λ r L. refl; overran = λ r L. refl }

removed_apart : (slots : List ℕ) → IsApart (Removed slots)
removed_apart slots = record { gone = λ n L. refl; lost = λ r L. refl; reply = λ r L. refl; begun = λ r L. refl; overran = λ r L. refl }

-- orders
pub state_ran : (L : Life) (slot run : ℕ) (key : Key) (start : Start) (at n : ℕ)
    → state_of (Ran slot run key start at ∷ L) n ≡ cond (slot == n) (Busy (work_of run key start at)) (state_of L n)
state_ran L slot run key start at n = by_name (slot == n)
  where
    order : RunOrder
    order = record { run = run; key = key; start = start; at = at }

    begins : (b : Bool) → Busy (record { run = run; key = key; start = start; at = at; recorded = None; begun = cond b None None; gone = false }) ≡ Busy (work_of run key start at)
    begins true = refl
    begins false = refl

    by_name : (b : Bool) → state_by (cond b (Some (run_order run key start at)) (last_order L n)) n (cond (b && is_cold start) key.memory (memory_of L n)) (cond b [] (Ran slot run key start at ∷ since L n))
        ≡ cond b (Busy (work_of run key start at)) (state_of L n)
    by_name true = begins (is_warm start)
    by_name false = later_apart (Ran slot run key start at) (ran_apart slot run key start at) n (memory_of L n) (since L n) (last_order L n)

pub state_prewarming : (L : Life) (slot run : ℕ) (kind : Kind) (memory n : ℕ)
    → state_of (Prewarming slot run kind memory ∷ L) n ≡ cond (slot == n) (Opening run kind memory) (state_of L n)
state_prewarming L slot run kind memory n = by_name (slot == n)
  where
    by_name : (b : Bool) → state_by (cond b (Some (prewarm_order run kind memory)) (last_order L n)) n (cond b memory (memory_of L n)) (cond b [] (Prewarming slot run kind memory ∷ since L n))
        ≡ cond b (Opening run kind memory) (state_of L n)
    by_name true = refl
    by_name false = later_apart (Prewarming slot run kind memory) (prewarming_apart slot run kind memory) n (memory_of L n) (since L n) (last_order L n)

pub state_removed : (L : Life) (slots : List ℕ) (n : ℕ) → state_of (Removed slots ∷ L) n ≡ cond (is_among n slots) (Closing (memory_of L n)) (state_of L n)
state_removed L slots n = by_name (is_among n slots)
  where
    by_name : (b : Bool) → state_by (cond b (Some Remove) (last_order L n)) n (memory_of L n) (cond b [] (Removed slots ∷ since L n)) ≡ cond b (Closing (memory_of L n)) (state_of L n)
    by_name true = refl
    by_name false = later_apart (Removed slots) (removed_apart slots) n (memory_of L n) (since L n) (last_order L n)

right_reply : (key : Key) (m at : ℕ) (b : Bool) → key.memory ≡ m → state_memory (cond b (Idle key at) (Closing m)) ≡ cond (is_held (cond b (Idle key at) (Closing m))) m 0
right_reply key m at true e = e
right_reply key m at false e = refl

right_run : (o : RunOrder) (m : ℕ) (g : Bool) (a : Option Reply) (l : Bool) (v t : Option ℕ) → o.key.memory ≡ m
    → state_memory (run_state o m g a l v t) ≡ cond (is_held (run_state o m g a l v t)) m 0
right_run o m true None false v t e = refl
right_run o m true None true v t e = refl
right_run o m true (Some x) l v t e = refl
right_run o m false None false v t e = e
right_run o m false None true v t e = refl
right_run o m false (Some x) l v t e = right_reply o.key m x.at (x.alive && is_none v) e

right_prewarm : (o : PrewarmOrder) (m : ℕ) (g l : Bool) (t : Option ℕ) → o.memory ≡ m → state_memory (prewarm_state o m g l t) ≡ cond (is_held (prewarm_state o m g l t)) m 0
right_prewarm o m true l t e = refl
right_prewarm o m false true t e = refl
right_prewarm o m false false (Some x) e = e
right_prewarm o m false false None e = e

right_remove : (m : ℕ) (g : Bool) → state_memory (remove_state m g) ≡ cond (is_held (remove_state m g)) m 0
right_remove m true = refl
right_remove m false = refl

right_by : (n m : ℕ) (later : Life) (last : Option Order) → Coheres last m → state_memory (state_by last n m later) ≡ cond (is_held (state_by last n m later)) m 0
right_by n m later None is = refl
right_by n m later (Some (Run o)) is = right_run o m (is_gone n later) (reply_to o.run later) (is_lost o.run later) (overran_at o.run later) (begun_at o.run later) is
right_by n m later (Some (Prewarm o)) is = right_prewarm o m (is_gone n later) (is_lost o.run later) (begun_at o.run later) is
right_by n m later (Some Remove) is = right_remove m (is_gone n later)

-- a state holds the memory of its slot, or none
pub memory_right : (L : Life) (size : ℕ) → AreFit L size → (n : ℕ) → state_memory (state_of L n) ≡ cond (is_held (state_of L n)) (memory_of L n) 0
memory_right L size fit n = right_by n (memory_of L n) (since L n) (last_order L n) (coherent L size fit n)
