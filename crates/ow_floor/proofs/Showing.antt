-- What changes of the kept lists show.
use Rattle.std.proofs.Common.{◌≡◌, ◌≤◌, ◌+◌, ◌-◌, ◌++◌, ℕ, zero, suc, Bool, false, List, [], ◌∷◌, Option, Some, None, length, get_or, map, refl, sym, ap, ◌∙◌, arith, length-append, append-nil, subst}
use Rattle.std.specs.List.{find}
use Rattle.std.specs.Prelude.{slice_set}
use Rattle.std.proofs.lemmas.List.{length-set}
use Rattle.ow_records.specs.declared.ids.Id.{Id}
use Rattle.ow_records.specs.declared.activations.Activation.{Activation}
use Rattle.ow_slots.specs.declared.keys.Key.{Key}
use Rattle.ow_traits.specs.Prewarms.{AreWantsSized}
use Rattle.ow_pool.specs.Rules.{IsWithinPool}
use Rattle.ow_slot_laws.specs.Life as lives
use Rattle.ow_slot_laws.specs.Life.{Event}
use Rattle.ow_slot_laws.specs.Fitting.{changed}
use Rattle.ow_floor.specs.declared.activations.Open.{Open}
use Rattle.ow_floor.specs.declared.answers.Container.{Container}
use Rattle.ow_floor.specs.declared.answers.PrewarmOrder.{PrewarmOrder}
use Rattle.ow_records.specs.declared.record.Record.{Record}
use Rattle.ow_floor.specs.declared.activations.State.TheVariants.{Waiting, Running}
use Rattle.ow_floor.specs.declared.lists.Berth.{Berth}
use Rattle.ow_floor.specs.declared.lists.Spot.{Spot}
use Rattle.ow_floor.specs.declared.runs.Run.{Run}
use Rattle.ow_floor.specs.View.{begun, is_number, is_of, waits, with_state}
use Rattle.ow_floor.specs.Trace.{End, Accepted, Answered, Archived, Drained, Drawn, Ended, Fired, Opened, Ordered, Prewarming, Removed, Reopened, Resumed, Swept, overrun_of, slot_count}
use Rattle.ow_floor.specs.Growth.{grow}
use Rattle.ow_records.specs.declared.frames.Frame.{Frame}
use Rattle.ow_floor.specs.Ends.{IsRunBegun, IsRunLost, end_in}
use Rattle.ow_floor.specs.Frames.{frames_accepted, part_of}
use Rattle.ow_floor.specs.Store.{Store, IsCell, IsGood, IsSpot, accepted_in, answered_in, archived_in, at_moment, counted_in, drained_in, drawn_in, ended_in, event_in, fired_in, freed_in, empty_of, opens, ordered_in, prewarmed_in, reopened_in, resumed_in, run_in, run_put, show, started_in, there, with_frames}
use Rattle.ow_floor.proofs.Firsts.{remove_none, update_none}
use Rattle.ow_floor.proofs.Serving.{within_kept}
use Rattle.ow_floor.proofs.Slotting.{slots_opened, vacant_held}
use Rattle.ow_floor.proofs.Soundness.{sound_start}
use Rattle.ow_slot_laws.proofs.Owing.{owed_of}
use Rattle.ow_floor.specs.Laws.{Stands}
use Rattle.std.specs.List.{AllByRecursion}
use Rattle.std.specs.Prelude.{replicate}
use Rattle.std.proofs.lemmas.List.Sums.{sum_by-cons}
use Rattle.ow_traits.specs.declared.prewarms.Prewarm.{Prewarm}
use Rattle.ow_slots.specs.Slots.{vacant_slot}
use Rattle.ow_slots.specs.State.{IsSized}
use Rattle.ow_slot_laws.specs.Owed.{owed}
use Rattle.ow_floor.proofs.Tallies.{length-removed, length-started}

opens_push : (ss : List Spot) (ts : List (Option Activation)) (s : Spot) (a : Activation) → length ts ≡ length ss
    → opens (ss ++ s ∷ []) (ts ++ Some a ∷ []) ≡ opens ss ts ++ record { task = a; state = s.state } ∷ []
opens_push [] [] s a same = refl
opens_push [] (t ∷ ts) s a same = absurd (omega (arith, same))
opens_push (x ∷ ss) [] s a same = absurd (omega (arith, same))
opens_push (x ∷ ss) (t ∷ ts) s a same = at t (opens_push ss ts s a (omega (arith, same)))
  where
    at : (t : Option Activation) → opens (ss ++ s ∷ []) (ts ++ Some a ∷ []) ≡ opens ss ts ++ record { task = a; state = s.state } ∷ []
        → opens ((x ∷ ss) ++ s ∷ []) ((t ∷ ts) ++ Some a ∷ []) ≡ opens (x ∷ ss) (t ∷ ts) ++ record { task = a; state = s.state } ∷ []
    at None rest = rest
    at (Some b) rest = ap (λ (os : List Open). record { task = b; state = x.state } ∷ os) rest

there_none_push : {X Y : Type 0} (g : X → Y) (xs : List (Option X)) → there g (xs ++ None ∷ []) ≡ there g xs
there_none_push g [] = refl
there_none_push g (None ∷ xs) = there_none_push g xs
there_none_push g (Some y ∷ xs) = ap (λ zs. g y ∷ zs) (there_none_push g xs)

pub there_push : {X Y : Type 0} (g : X → Y) (xs : List (Option X)) (x : X) → there g (xs ++ Some x ∷ []) ≡ there g xs ++ g x ∷ []
there_push g [] x = refl
there_push g (None ∷ xs) x = there_push g xs x
there_push g (Some y ∷ xs) x = ap (λ zs. g y ∷ zs) (there_push g xs x)

there_none : {X Y Z : Type 0} (g : X → Y) (xs : List Z) → there g (empty_of xs) ≡ []
there_none g [] = refl
there_none g (x ∷ xs) = there_none g xs

none_length : {X : Type 0} (Y : Type 0) (xs : List X) → length (empty_of {Y = Y} xs) ≡ length xs
none_length Y [] = refl
none_length Y (x ∷ xs) = ap suc (none_length Y xs)

more : (m n : ℕ) → m ≤ n → n + 1 - m ≡ n - m + 1
more m n le = omega (arith, le)

-- ---- frames

pub good_framed : (R : Store) (fs : List Frame) → IsGood R → IsGood (with_frames fs R)
good_framed R fs good = record { paired = good.paired; opened = good.opened; number = good.number; owed = good.owed; pool = good.pool; wants = good.wants }

pub framed_good : (R S : Store) → S ≡ with_frames S.frames R → IsGood R → IsGood S
framed_good R S is good = subst (λ (U : Store). IsGood U) (sym is) (good_framed R S.frames good)

-- ---- acceptance

pub show_accepted : (R : Store) (a : Activation) → IsGood R → show (accepted_in a (with_frames (frames_accepted (part_of a) R.frames) R)) ≡ grow (Accepted a) (show R)
show_accepted R a good =
    let len : length (R.spots ++ record { state = Waiting } ∷ []) ≡ length R.spots + 1 = length-append R.spots (record { state = Waiting } ∷ []) in
    let count : length (R.spots ++ record { state = Waiting } ∷ []) - R.marks.opened ≡ length R.spots - R.marks.opened + 1 = ap (λ n. n - R.marks.opened) len ∙ more R.marks.opened (length R.spots) good.opened in
    rw (opens_push R.spots R.tasks (record { state = Waiting }) a good.paired, count) refl

pub good_accepted : (R : Store) (a : Activation) → IsGood R → IsGood (accepted_in a R)
good_accepted R a good =
    let one : length (R.spots ++ record { state = Waiting } ∷ []) ≡ length R.spots + 1 = length-append R.spots (record { state = Waiting } ∷ []) in
    let two : length (R.tasks ++ Some a ∷ []) ≡ length R.tasks + 1 = length-append R.tasks (Some a ∷ []) in
    let three : length (opens R.spots R.tasks ++ record { task = a; state = Waiting } ∷ []) ≡ length (opens R.spots R.tasks) + 1 = length-append (opens R.spots R.tasks) (record { task = a; state = Waiting } ∷ []) in
    record {
      paired = two ∙ (ap (λ n. n + 1) good.paired ∙ sym one);
      opened = omega (arith, one, good.opened);
      number = rw (opens_push R.spots R.tasks (record { state = Waiting }) a good.paired) (omega (arith, one, three, good.number));
      owed = good.owed;
      pool = good.pool;
      wants = good.wants;
    }

-- ---- fires

opens_dead : (ss : List Spot) (ts : List (Option Activation)) (s : Spot) → length ts ≡ length ss → opens (ss ++ s ∷ []) (ts ++ None ∷ []) ≡ opens ss ts
opens_dead [] [] s same = refl
opens_dead [] (t ∷ ts) s same = absurd (omega (arith, same))
opens_dead (x ∷ ss) [] s same = absurd (omega (arith, same))
opens_dead (x ∷ ss) (None ∷ ts) s same = opens_dead ss ts s (omega (arith, same))
opens_dead (x ∷ ss) (Some b ∷ ts) s same = ap (λ (os : List Open). record { task = b; state = x.state } ∷ os) (opens_dead ss ts s (omega (arith, same)))

pub show_drawn : (R : Store) (at : ℕ) (id : Id) → show (drawn_in at id R) ≡ grow (Drawn id at) (show R)
show_drawn R at id = refl

pub good_drawn : (R : Store) (at : ℕ) (id : Id) → IsGood R → IsGood (drawn_in at id R)
good_drawn R at id good = record { paired = good.paired; opened = good.opened; number = good.number; owed = good.owed; pool = good.pool; wants = good.wants }

pub show_fired : (R : Store) (r : Record) → IsGood R → show (fired_in r R) ≡ grow (Fired r) (show R)
show_fired R r good =
    let len : length (R.spots ++ record { state = Waiting } ∷ []) ≡ length R.spots + 1 = length-append R.spots (record { state = Waiting } ∷ []) in
    let count : length (R.spots ++ record { state = Waiting } ∷ []) - R.marks.opened ≡ length R.spots - R.marks.opened + 1 = ap (λ n. n - R.marks.opened) len ∙ more R.marks.opened (length R.spots) good.opened in
    rw (opens_dead R.spots R.tasks (record { state = Waiting }) good.paired, count) refl

pub good_fired : (R : Store) (r : Record) → IsGood R → IsGood (fired_in r R)
good_fired R r good =
    let one : length (R.spots ++ record { state = Waiting } ∷ []) ≡ length R.spots + 1 = length-append R.spots (record { state = Waiting } ∷ []) in
    let two : length (R.tasks ++ None ∷ []) ≡ length R.tasks + 1 = length-append R.tasks (None ∷ []) in
    let three : length (R.recorded ++ r.id ∷ []) ≡ length R.recorded + 1 = length-append R.recorded (r.id ∷ []) in
    record {
      paired = two ∙ (ap (λ n. n + 1) good.paired ∙ sym one);
      opened = omega (arith, one, good.opened);
      number = rw (opens_dead R.spots R.tasks (record { state = Waiting }) good.paired) (omega (arith, one, three, good.number));
      owed = good.owed;
      pool = good.pool;
      wants = good.wants;
    }

-- ---- events of slots

pub good_event : (R : Store) (at : ℕ) (e : Event) → IsWithinPool (changed e R.slots) R.pool → IsGood R → IsGood (event_in at e R)
good_event R at e within good = record { paired = good.paired; opened = good.opened; number = good.number; owed = refl; pool = within; wants = good.wants }

-- ---- orders

pub show_ordered : (R : Store) (k : ℕ) (r : Run) (key : Key) → IsSpot waits R.spots R.tasks k → show (ordered_in k r key R) ≡ grow (Ordered r key) (show R)
show_ordered R k r key spot =
    let runs : length (R.runs ++ Some (record { run = r; place = k }) ∷ []) ≡ length R.runs + 1 = length-append R.runs (Some (record { run = r; place = k }) ∷ []) in
    rw (
      spot.changed (record { state = Running r.number }),
      there_push run_in R.runs (record { run = r; place = k }),
      runs,
      length-set R.spots k (record { state = Running r.number }),
    ) refl

pub good_started : (R : Store) (k : ℕ) (r : Run) → IsSpot waits R.spots R.tasks k → IsGood R → IsGood (started_in k r R)
good_started R k r spot good =
    let s : Spot = record { state = Running r.number } in
    let len : length (slice_set R.spots k s) ≡ length R.spots = length-set R.spots k s in
    record {
      paired = good.paired ∙ sym len;
      opened = rw len good.opened;
      number = rw (spot.changed s, length-started waits (Running r.number) (opens R.spots R.tasks), len) good.number;
      owed = good.owed;
      pool = good.pool;
      wants = good.wants;
    }

pub show_prewarmed : (R : Store) (at : ℕ) (o : PrewarmOrder) → show (prewarmed_in at o R) ≡ grow (Prewarming o at) (show R)
show_prewarmed R at o =
    let runs : length (R.runs ++ None ∷ []) ≡ length R.runs + 1 = length-append R.runs (None ∷ []) in
    rw (there_none_push run_in R.runs, runs) refl

pub good_counted : (R : Store) → IsGood R → IsGood (counted_in R)
good_counted R good = record { paired = good.paired; opened = good.opened; number = good.number; owed = good.owed; pool = good.pool; wants = good.wants }

pub show_removed : (R : Store) (at : ℕ) (ns : List ℕ) (containers : List Container) → map (λ (c : Container). c.slot) containers ≡ ns → show (event_in at (lives.Removed ns) R) ≡ grow (Removed containers at) (show R)
show_removed R at ns containers is = rw (← is) refl

-- ---- runs

pub good_put : (R : Store) (k : ℕ) (cell : Option Berth) → IsGood R → IsGood (run_put k cell R)
good_put R k cell good = record { paired = good.paired; opened = good.opened; number = good.number; owed = good.owed; pool = good.pool; wants = good.wants }

pub show_put : (R : Store) (at run k : ℕ) (b : Berth) (c : IsCell run_in (is_number run) R.runs k) → b.run ≡ begun at c.item.run → IsRunBegun at run R (run_put k (Some b) R)
show_put R at run k b c is = rw (c.changed (begun at) b is, length-set R.runs k (Some b)) refl

pub show_answered : (R : Store) (at run k : ℕ) (alive : Bool) → IsCell run_in (is_number run) R.runs k → show (answered_in at run alive k R) ≡ grow (Answered run alive at) (show R)
show_answered R at run k alive c = rw (c.removed, length-set R.runs k None) refl

pub good_freed : (R : Store) (p : Open → Bool) (k : ℕ) → IsSpot p R.spots R.tasks k → IsGood R → IsGood (freed_in k R)
good_freed R p k spot good =
    let s : Spot = record { state = Waiting } in
    let len : length (slice_set R.spots k s) ≡ length R.spots = length-set R.spots k s in
    record {
      paired = good.paired ∙ sym len;
      opened = rw len good.opened;
      number = rw (spot.changed s, length-started p Waiting (opens R.spots R.tasks), len) good.number;
      owed = good.owed;
      pool = good.pool;
      wants = good.wants;
    }

-- what a lost run carries isn't open
pub show_lost : (R : Store) (run k : ℕ) (c : IsCell run_in (is_number run) R.runs k) → find (is_of c.item.run.id) (opens R.spots R.tasks) ≡ None → IsRunLost run R (run_put k None R)
show_lost R run k c none =
    rw (c.removed, length-set R.runs k None, c.found, update_none (is_of c.item.run.id) (with_state Waiting) (opens R.spots R.tasks) none) refl

-- it is open, at this place
pub show_freed : (R : Store) (run k place : ℕ) (c : IsCell run_in (is_number run) R.runs k) → IsSpot (is_of c.item.run.id) R.spots R.tasks place → IsRunLost run R (run_put k None (freed_in place R))
show_freed R run k place c spot =
    rw (c.removed, length-set R.runs k None, length-set R.spots place (record { state = Waiting }), c.found, spot.changed (record { state = Waiting })) refl

-- no live run has the number
pub show_no_run : (R : Store) (run : ℕ) → find (is_number run) (there run_in R.runs) ≡ None → IsRunLost run R R
show_no_run R run none = rw (remove_none (is_number run) (there run_in R.runs) none, none) refl

pub show_not_begun : (R : Store) (at run : ℕ) → find (is_number run) (there run_in R.runs) ≡ None → IsRunBegun at run R R
show_not_begun R at run none = rw (update_none (is_number run) (begun at) (there run_in R.runs) none) refl

-- ---- ends

pub show_ended : (R : Store) (k : ℕ) (id : Id) (e : End) → e.task.id ≡ id → overrun_of e.ending e.run e.at ≡ None → IsSpot (is_of id) R.spots R.tasks k
    → show (end_in k e R) ≡ grow (Ended e) (show R)
show_ended R k id e is plain spot = rw (spot.removed, ← is, plain) refl

-- what overran is recorded so in the slot of its run
pub show_overran : (R : Store) (k : ℕ) (id : Id) (e : End) (event : Event) → e.task.id ≡ id → overrun_of e.ending e.run e.at ≡ Some event → IsSpot (is_of id) R.spots R.tasks k
    → show (event_in e.at event (end_in k e R)) ≡ grow (Ended e) (show R)
show_overran R k id e event is event_is spot = rw (spot.removed, ← is, event_is) refl

pub good_ended : (R : Store) (p : Open → Bool) (at k : ℕ) (e : Record) → IsSpot p R.spots R.tasks k → IsGood R → IsGood (ended_in at k e R)
good_ended R p at k e spot good =
    let len : length (slice_set R.tasks k None) ≡ length R.tasks = length-set R.tasks k None in
    let less = length-removed p (opens R.spots R.tasks) spot.item spot.found in
    let more : length (R.recorded ++ e.id ∷ []) ≡ length R.recorded + 1 = length-append R.recorded (e.id ∷ []) in
    record { paired = len ∙ good.paired; opened = good.opened; number = rw spot.removed (omega (arith, less, more, good.number)); owed = good.owed; pool = good.pool; wants = good.wants }

-- ---- marks

pub show_swept : (R : Store) (at : ℕ) → show (at_moment at R) ≡ grow (Swept at) (show R)
show_swept R at = refl

pub show_resumed : (R : Store) (counts : List Id) (rs : List Record) → show (resumed_in counts rs R) ≡ grow (Resumed counts rs) (show R)
show_resumed R counts rs = ap (λ (xs : List Record). record (show (resumed_in counts rs R)) { records = xs }) (sym (append-nil rs))

pub good_resumed : (R : Store) (counts : List Id) (rs : List Record) → IsGood R → IsGood (resumed_in counts rs R)
good_resumed R counts rs good = record { paired = good.paired; opened = good.opened; number = good.number; owed = good.owed; pool = good.pool; wants = good.wants }

pub show_archived : (R : Store) (until : ℕ) → show (archived_in until R) ≡ grow (Archived until R.marks.latest) (show R)
show_archived R until = refl

pub good_archived : (R : Store) (until : ℕ) → IsGood R → IsGood (archived_in until R)
good_archived R until good = record { paired = good.paired; opened = good.opened; number = good.number; owed = good.owed; pool = good.pool; wants = good.wants }

pub show_drained : (R : Store) (at : ℕ) → show (drained_in at R) ≡ grow (Drained at) (show R)
show_drained R at = refl

pub show_reopened : (R : Store) (at : ℕ) → show (reopened_in at R) ≡ grow (Reopened at) (show R)
show_reopened R at =
    let none : length R.spots - length R.spots ≡ 0 = omega arith in
    rw (there_none run_in R.runs, none_length Berth R.runs, none) refl

pub good_reopened : (R : Store) (at : ℕ) → IsGood R → IsGood (reopened_in at R)
good_reopened R at good = record { paired = good.paired; opened = omega arith; number = good.number; owed = refl; pool = within_kept lives.Reopened R.slots R.pool refl good.pool; wants = good.wants }

pub good_marked : (R : Store) (at : ℕ) → IsGood R → IsGood (at_moment at R) × IsGood (drained_in at R)
good_marked R at good = (
  record { paired = good.paired; opened = good.opened; number = good.number; owed = good.owed; pool = good.pool; wants = good.wants },
  record { paired = good.paired; opened = good.opened; number = good.number; owed = good.owed; pool = good.pool; wants = good.wants },
)

-- ---- what an end leaves good, wherever it is

cut_at : (s : Spot) (t : Option Activation) (ss : List Spot) (ts us : List (Option Activation)) → length (opens ss us) + 1 ≡ length (opens ss ts)
    → length (opens (s ∷ ss) (t ∷ us)) + 1 ≡ length (opens (s ∷ ss) (t ∷ ts))
cut_at s None ss ts us e = e
cut_at s (Some a) ss ts us e = omega (arith, e)

cut_length : (ss : List Spot) (ts : List (Option Activation)) (k : ℕ) (a : Activation) → length ts ≡ length ss → get_or ts k None ≡ Some a
    → length (opens ss (slice_set ts k None)) + 1 ≡ length (opens ss ts)
cut_length ss [] k a same here = cc
cut_length [] (t ∷ ts) k a same here = absurd (omega (arith, same))
cut_length (s ∷ ss) (None ∷ ts) zero a same here = cc
cut_length (s ∷ ss) (Some b ∷ ts) zero a same here = omega arith
cut_length (s ∷ ss) (t ∷ ts) (suc k) a same here = cut_at s t ss ts (slice_set ts k None) (cut_length ss ts k a (omega (arith, same)) here)

pub good_cut : (R : Store) (at k : ℕ) (a : Activation) (e : Record) → get_or R.tasks k None ≡ Some a → IsGood R → IsGood (ended_in at k e R)
good_cut R at k a e here good =
    let len : length (slice_set R.tasks k None) ≡ length R.tasks = length-set R.tasks k None in
    let less = cut_length R.spots R.tasks k a good.paired here in
    let more : length (R.recorded ++ e.id ∷ []) ≡ length R.recorded + 1 = length-append R.recorded (e.id ∷ []) in
    record { paired = len ∙ good.paired; opened = good.opened; number = omega (arith, less, more, good.number); owed = good.owed; pool = good.pool; wants = good.wants }

-- ---- at first

-- the lists of a floor where nothing has happened
abbrev pub opened_store : ℕ → List Prewarm → Store
opened_store pool wants = record {
  spots = [];
  tasks = [];
  runs = [];
  frames = [];
  slots = replicate (slot_count pool) vacant_slot;
  records = [];
  recorded = [];
  drawn = [];
  blocking = [];
  marks = record { latest = 0; opened = 0; owed = 0; draining = false; firing = None };
  pool = pool;
  wants = wants;
}

vacant_owed : (n : ℕ) → owed (replicate n vacant_slot) ≡ 0
vacant_owed zero = refl
vacant_owed (suc n) = let rest = vacant_owed n in let sum = sum_by-cons owed_of vacant_slot (replicate n vacant_slot) in omega (arith, rest, sum)

vacant_sized : (n : ℕ) → AllByRecursion (λ s. IsSized s.state) (replicate n vacant_slot)
vacant_sized zero = tt
vacant_sized (suc n) = (tt, vacant_sized n)

pub good_opened : (pool : ℕ) (wants : List Prewarm) → AreWantsSized wants → IsGood (opened_store pool wants)
good_opened pool wants sized =
    let none = vacant_held (slot_count pool) in
    record {
      paired = refl;
      opened = omega arith;
      number = refl;
      owed = sym (vacant_owed (slot_count pool));
      pool = record { within = omega (arith, none); sized = vacant_sized (slot_count pool) };
      wants = sized;
    }

pub stands_opened : (pool : ℕ) (wants : List Prewarm) → Stands (show (opened_store pool wants)) (Opened pool wants ∷ [])
stands_opened pool wants = record { is = rw (slots_opened pool wants) refl; sound = sound_start pool wants }
