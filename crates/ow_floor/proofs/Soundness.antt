-- Each item that may come keeps a trace sound, and does to the lists what it should.
use Rattle.std.proofs.Common.{◌≡◌, ◌==◌, ◌+◌, ◌≤◌, ◌<◌, ◌++◌, ℕ, Bool, true, false, cond, List, [], ◌∷◌, Option, Some, None, length, map, refl, sym, ap, ◌∙◌, arith, rules, subst}
use Rattle.std.specs.List.{find, AllByRecursion, IsDistinct}
use Rattle.std.proofs.lemmas.Bool.Decides.{nat_tests}
use Rattle.ow_traits.specs.declared.prewarms.Prewarm.{Prewarm}
use Rattle.std.proofs.lemmas.List.{map-append}
use Rattle.ow_records.specs.declared.ids.Id.{Id}
use Rattle.ow_records.specs.Id.{same_id}
use Rattle.ow_records.specs.declared.activations.Activation.{Activation}
use Rattle.ow_floor.specs.declared.activations.Open.{Open}
use Rattle.ow_records.specs.declared.record.Record.{Record}
use Rattle.ow_floor.specs.declared.activations.State.TheVariants.{Waiting, Running}
use Rattle.ow_floor.specs.declared.answers.Drain.TheVariants as drains
use Rattle.ow_floor.specs.declared.runs.Run.{Run}
use Rattle.ow_records.specs.Records.{is_of_id}
use Rattle.ow_floor.specs.View.{Shown, waits, carries, begun, ids_of, is_of, is_number, with_state, remove_first, head}
use Rattle.ow_floor.specs.Trace.{Trace, Item, End, Opened, Resumed, Accepted, Ordered, Prewarming, Removed, Begun, Answered, Lost, Gone, Ended, Drawn, Fired, Swept, Drained, Reopened, Archived, slots, slots_after, accepted, accepted_ids, count, ends, fired, firing, records, recorded, recorded_after, resumed, shown_after, shown_records, record_of, last, drawn, standing, open_items, run_count, live, live_run, shown}
use Rattle.ow_floor.specs.Growth.{grow, grown, open_after, IsRight, AreRight, IsFresh, AreResumable}
use Rattle.ow_floor.specs.Laws.{AreFiresApart, AreSlotsSound, times, IsAmong, loads, bearers, tally, IsApart, AreApart, IsParted, IsSound, RunOnce, Stands, Grows}
use Rattle.ow_floor.specs.Calls.{drain_answer, AllRecorded}
use Rattle.ow_floor.proofs.Among.{all_among, known_push, known_more, found_among}
use Rattle.ow_floor.proofs.Alters.{opens_new, same_id_refl}
use Rattle.ow_floor.proofs.Apart.{turned}
use Rattle.ow_floor.proofs.Drawn.{drawn_last, once_put}
use Rattle.ow_floor.proofs.Fires.{accepted_once, fires_push, firing_accepted, firing_new, times-append}
use Rattle.ow_floor.proofs.Firsts.{all_more, all_push, all_removed, all_updated, find_none, tally_fewer, tally_none, tally_push, tally_updated, update_none}
use Rattle.ow_floor.proofs.Tallies.{one_if, eq_of, times-push, ids_of-started, times-removed, times-split}
use Rattle.ow_floor.proofs.Slotting.{slots_item, slotted_item, slotted_start}
use Rattle.ow_floor.specs.declared.answers.Container.{Container}
use Rattle.ow_floor.specs.declared.answers.PrewarmOrder.{PrewarmOrder}
use Rattle.ow_slots.specs.declared.keys.Key.{Key}
use Rattle.ow_slots.specs.declared.states.Slot.{Slot}
use Rattle.ow_floor.proofs.Standing.{open_ended, open_fired, open_ordered, open_kept, open_left, open_lost, open_begun, open_reopened, head_waits}

-- ---- ids

-- a new id is apart from those with lesser counts
pub apart_at : (x y : Id) (b : Bool) (n : ℕ → ℕ) → (x.namespace == y.namespace) ≡ b → x.count ≡ n x.namespace + 1 → y.count ≤ n y.namespace → same_id x y ≡ false
apart_at x y true n e new old =
    let same : x.namespace ≡ y.namespace = grind (arith, nat_tests) in
    let last : n x.namespace ≡ n y.namespace = ap n same in
    grind (arith, nat_tests)
apart_at x y false n e new old = rw e refl

new_other : (x y : Id) (n : ℕ → ℕ) → x.count ≡ n x.namespace + 1 → y.count ≤ n y.namespace → same_id y x ≡ false
new_other x y n new old = turned x y (apart_at x y (x.namespace == y.namespace) n refl new old)

new_apart : (x : Id) (xs : List Activation) (n : ℕ → ℕ) → x.count ≡ n x.namespace + 1 → AllByRecursion (λ a. a.id.count ≤ n a.id.namespace) xs → IsApart x xs
new_apart x xs n new drawn =
    all_more _ _ xs (λ a le. let no = new_other x a.id n new le in (turned a.id x no, no)) drawn

apart_one : (y : Id) (a : Activation) (xs : List Activation) → IsApart y xs → (same_id y a.id ≡ false) × (same_id a.id y ≡ false) → IsApart y (xs ++ a ∷ [])
apart_one y a xs apart new = all_push _ a xs new apart

apart_push : (a : Activation) (xs : List Activation) → AreApart xs → IsApart a.id xs → AreApart (xs ++ a ∷ [])
apart_push a [] apart new = (tt, tt)
apart_push a (z ∷ xs) apart new = (apart_one z.id a xs apart.0 (new.0.1, new.0.0), apart_push a xs apart.1 new.1)

-- the last counts rise
last_at : (m n count before : ℕ) (b : Bool) → (m == n) ≡ b → (m ≡ n → count ≡ before + 1) → before ≤ cond b count before
last_at m n count before true e new = let same : m ≡ n = grind (arith, nat_tests) in let h = new same in omega (arith, h)
last_at m n count before false e new = omega arith

last_rises : (a : Activation) (T : Trace) (n : ℕ) → a.id.count ≡ last T a.id.namespace + 1 → last T n ≤ last (Accepted a ∷ T) n
last_rises a T n new = last_at a.id.namespace n a.id.count (last T n) (a.id.namespace == n) refl (λ same. new ∙ ap (λ k. last T k + 1) same)

last_here : (a : Activation) (T : Trace) → a.id.count ≤ last (Accepted a ∷ T) a.id.namespace
last_here a T =
    let e : (a.id.namespace == a.id.namespace) ≡ true = search (rules, nat_tests) in
    rw e (omega arith)

-- ---- what is open after each item

no_end : (x : Id) (T : Trace) → x.count ≡ last T x.namespace + 1 → IsSound T → find (is_of_id x) (records T) ≡ None
no_end x T new sound = find_none (is_of_id x) (records T) (all_more _ _ (records T) (λ e le. new_other x e.id (last T) new le) sound.ended_drawn)

no_run : (x : Id) (T : Trace) → x.count ≡ last T x.namespace + 1 → IsSound T → find (carries x) (live T) ≡ None
no_run x T new sound = find_none (carries x) (live T) (all_more _ _ (live T) (λ r le. new_other x r.id (last T) new le) sound.live_drawn)

open_accepted : (a : Activation) (T : Trace) → a.id.count ≡ last T a.id.namespace + 1 → IsSound T → open_items (Accepted a ∷ T) ≡ open_items T ++ record { task = a; state = Waiting } ∷ []
open_accepted a T new sound = opens_new (standing T) a (accepted T) (rw (no_end a.id T new sound, no_run a.id T new sound) refl)

-- what is open was accepted, so its id was drawn
open_drawn : (p : Open → Bool) (o : Open) (T : Trace) → find p (open_items T) ≡ Some o → IsSound T → o.task.id.count ≤ last T o.task.id.namespace
open_drawn p o T found sound =
    all_among (λ x. x.id.count ≤ last T x.id.namespace) o.task (accepted T) (found_among p (standing T) (accepted T) o found) sound.drawn

-- what was taken over is apart from a new id
strange_push : (a : Activation) (xs : List Activation) (n : ℕ → ℕ) → a.id.count ≡ n a.id.namespace + 1 → (rs : List Record) → AllByRecursion (λ r. r.id.count ≤ n r.id.namespace) rs
    → AllByRecursion (λ r. IsApart r.id xs) rs → AllByRecursion (λ r. IsApart r.id (xs ++ a ∷ [])) rs
strange_push a xs n new [] drawn strange = tt
strange_push a xs n new (r ∷ rs) drawn strange =
    let no = new_other a.id r.id n new drawn.0 in
    (apart_one r.id a xs strange.0 (no, turned r.id a.id no), strange_push a xs n new rs drawn.1 strange.1)

-- ---- items

pub sound_start : (pool : ℕ) (wants : List Prewarm) → IsSound (Opened pool wants ∷ [])
unfolding IsDistinct
sound_start pool wants = record { apart = tt; drawn = tt; ended_drawn = tt; live_drawn = tt; once = λ id. refl; known = tt; one = λ id. omega arith; single = λ run. omega arith; numbered = tt; slotted = slotted_start pool wants; namespaces = tt; resumed = record { drawn = tt; apart = tt; strange = tt }; fires = record { recorded = record { drawn = tt; apart = tt; strange = tt }; foreign = tt; next = tt } }

sound_accepted : (a : Activation) (T : Trace) → a.id.count ≡ last T a.id.namespace + 1 → AreSlotsSound (Accepted a ∷ T) → IsSound T → IsSound (Accepted a ∷ T)
sound_accepted a T new slotted sound =
    let is_open = open_accepted a T new sound in
    let rises : (n : ℕ) → last T n ≤ last (Accepted a ∷ T) n = λ n. last_rises a T n new in
    record {
      apart = apart_push a (accepted T) sound.apart (new_apart a.id (accepted T) (last T) new sound.drawn);
      drawn = all_push _ a (accepted T) (last_here a T) (all_more _ _ (accepted T) (λ x le. let up = rises x.id.namespace in omega (arith, up, le)) sound.drawn);
      ended_drawn = all_more _ _ (records T) (λ x le. let up = rises x.id.namespace in omega (arith, up, le)) sound.ended_drawn;
      live_drawn = all_more _ _ (live T) (λ x le. let up = rises x.id.namespace in omega (arith, up, le)) sound.live_drawn;
      once = λ id.
          let before = sound.once id in
          let open_more = times-push (λ (o : Open). o.task.id) id (open_items T) (record { task = a; state = Waiting }) in
          let more = times-push (λ (y : Activation). y.id) id (accepted T) a in
          let old = times-append id (map (λ (y : Activation). y.id) (accepted T)) (map (λ (r : Record). r.id) (fired T)) in
          rw (is_open, open_more, times-append id (map (λ (y : Activation). y.id) (accepted T ++ a ∷ [])) (map (λ (r : Record). r.id) (fired T)), more) (omega (arith, before, old));
      known = known_push a (accepted T) (ends T) sound.known;
      one = sound.one;
      single = sound.single;
      numbered = sound.numbered;
      slotted = slotted;
      namespaces = once_put a.id (drawn T) sound.namespaces;
      resumed = record {
        drawn = all_more _ _ (resumed T) (λ r le. let up = rises r.id.namespace in omega (arith, up, le)) sound.resumed.drawn;
        apart = sound.resumed.apart;
        strange = strange_push a (accepted T) (last T) new (resumed T) sound.resumed.drawn sound.resumed.strange;
      };
      fires = record {
        recorded = record {
          drawn = all_more _ _ (fired T) (λ r le. let up = rises r.id.namespace in omega (arith, up, le)) sound.fires.recorded.drawn;
          apart = sound.fires.recorded.apart;
          strange = strange_push a (accepted T) (last T) new (fired T) sound.fires.recorded.drawn sound.fires.recorded.strange;
        };
        foreign = sound.fires.foreign;
        next = firing_accepted (firing T) a (accepted T) (fired T) (resumed T) (last T) (last (Accepted a ∷ T)) (λ y old. new_other a.id y (last T) new old) rises sound.fires.next;
      };
    }

-- an id is drawn for a fire
drawn_rises : (id : Id) (at : ℕ) (T : Trace) (n : ℕ) → id.count ≡ last T id.namespace + 1 → last T n ≤ last (Drawn id at ∷ T) n
drawn_rises id at T n new = last_at id.namespace n id.count (last T n) (id.namespace == n) refl (λ same. new ∙ ap (λ k. last T k + 1) same)

drawn_here : (id : Id) (at : ℕ) (T : Trace) → id.count ≤ last (Drawn id at ∷ T) id.namespace
drawn_here id at T =
    let e : (id.namespace == id.namespace) ≡ true = search (rules, nat_tests) in
    rw e (omega arith)

sound_drawn : (id : Id) (at : ℕ) (T : Trace) → id.count ≡ last T id.namespace + 1 → AreSlotsSound (Drawn id at ∷ T) → IsSound T → IsSound (Drawn id at ∷ T)
sound_drawn id at T new slotted sound =
    let rises : (n : ℕ) → last T n ≤ last (Drawn id at ∷ T) n = λ n. drawn_rises id at T n new in
    record {
      apart = sound.apart;
      drawn = all_more _ _ (accepted T) (λ x le. let up = rises x.id.namespace in omega (arith, up, le)) sound.drawn;
      ended_drawn = all_more _ _ (records T) (λ x le. let up = rises x.id.namespace in omega (arith, up, le)) sound.ended_drawn;
      live_drawn = all_more _ _ (live T) (λ x le. let up = rises x.id.namespace in omega (arith, up, le)) sound.live_drawn;
      once = sound.once;
      known = sound.known;
      one = sound.one;
      single = sound.single;
      numbered = sound.numbered;
      slotted = slotted;
      namespaces = once_put id (drawn T) sound.namespaces;
      resumed = record {
        drawn = all_more _ _ (resumed T) (λ r le. let up = rises r.id.namespace in omega (arith, up, le)) sound.resumed.drawn;
        apart = sound.resumed.apart;
        strange = sound.resumed.strange;
      };
      fires = record {
        recorded = record {
          drawn = all_more _ _ (fired T) (λ r le. let up = rises r.id.namespace in omega (arith, up, le)) sound.fires.recorded.drawn;
          apart = sound.fires.recorded.apart;
          strange = sound.fires.recorded.strange;
        };
        foreign = sound.fires.foreign;
        next = firing_new id (accepted T) (fired T) (resumed T) (last T) (last (Drawn id at ∷ T)) (λ y old. new_other id y (last T) new old) (drawn_here id at T) (new_apart id (accepted T) (last T) new sound.drawn)
            sound.fires.recorded.drawn sound.resumed.drawn;
      };
    }

-- it is recorded
sound_fired : (r : Record) (T : Trace) → AreFiresApart (fired T) (Some r.id) (resumed T) (last T) (accepted T) → AreSlotsSound (Fired r ∷ T) → IsSound T → IsSound (Fired r ∷ T)
sound_fired r T fires slotted sound =
    let is_open = open_fired r T fires.next.1.0 in
    record {
      apart = sound.apart;
      drawn = sound.drawn;
      ended_drawn = all_push _ r (records T) fires.next.0 sound.ended_drawn;
      live_drawn = sound.live_drawn;
      once = λ id.
          let before = sound.once id in
          let more = times-push (λ (x : Record). x.id) id (records T) r in
          let fired_more = times-push (λ (x : Record). x.id) id (fired T) r in
          let old = times-append id (map (λ (y : Activation). y.id) (accepted T)) (map (λ (x : Record). x.id) (fired T)) in
          rw (is_open, more, times-append id (map (λ (y : Activation). y.id) (accepted T)) (map (λ (x : Record). x.id) (fired T ++ r ∷ [])), fired_more) (omega (arith, before, old));
      known = sound.known;
      one = sound.one;
      single = sound.single;
      numbered = sound.numbered;
      slotted = slotted;
      namespaces = sound.namespaces;
      resumed = sound.resumed;
      fires = fires_push r (fired T) (resumed T) (last T) (accepted T) fires;
    }

sound_ended : (e : End) (o : Open) (T : Trace) → find (is_of e.task.id) (open_items T) ≡ Some o → e.task ≡ o.task → AreSlotsSound (Ended e ∷ T) → IsSound T → IsSound (Ended e ∷ T)
sound_ended e o T found is slotted sound =
    let is_open = open_ended e o T found is sound in
    let same : e.task.id ≡ o.task.id = ap (λ (a : Activation). a.id) is in
    record {
      apart = sound.apart;
      drawn = sound.drawn;
      ended_drawn = all_push _ (record_of e) (records T)
          (subst (λ (x : Id). x.count ≤ last T x.namespace) (sym same) (open_drawn (is_of e.task.id) o T found sound)) sound.ended_drawn;
      live_drawn = sound.live_drawn;
      once = λ id.
          let before = sound.once id in
          let less = subst (λ n. times id (ids_of (open_items T)) ≡ times id (ids_of (remove_first (is_of e.task.id) (open_items T))) + one_if (same_id id n)) (sym same)
          (times-removed (is_of e.task.id) id (open_items T) o found) in
          let more = times-push (λ (x : Record). x.id) id (records T) (record_of e) in
          rw (is_open, more) (omega (arith, before, less));
      known = known_more e (accepted T) (ends T)
          (subst (λ (a : Activation). IsAmong a (accepted T)) (sym is) (found_among (is_of e.task.id) (standing T) (accepted T) o found)) sound.known;
      one = sound.one;
      single = sound.single;
      numbered = sound.numbered;
      slotted = slotted;
      namespaces = sound.namespaces;
      resumed = sound.resumed;
      fires = sound.fires;
    }

-- the new run is the only one of its activation, and of its number
only_one : {X : Type 0} (q : X → Bool) (x : X) (xs : List X) (b : Bool) → q x ≡ b → tally q xs ≤ 1 → (b ≡ true → tally q xs ≡ 0) → tally q (xs ++ x ∷ []) ≤ 1
only_one q x xs true e le none = let zero = none refl in rw (tally_push q x xs, e) (omega (arith, zero))
only_one q x xs false e le none = rw (tally_push q x xs, e) (omega (arith, le))

loads_more : (r : Run) (T : Trace) → find (carries r.id) (live T) ≡ None → IsSound T → (id : Id) → loads id (live T ++ r ∷ []) ≤ 1
loads_more r T free sound id =
    only_one (carries id) r (live T) (carries id r) refl (sound.one id)
    (λ e. let same : r.id ≡ id = eq_of r.id id e in subst (λ (x : Id). loads x (live T) ≡ 0) same (tally_none (carries r.id) (live T) free))

greater : (n run : ℕ) (rs : List Run) → n < run → AllByRecursion (λ r. r.number ≤ n) rs → find (is_number run) rs ≡ None
greater n run rs lt all = find_none (is_number run) rs (all_more _ _ rs (λ r le. grind (arith, nat_tests)) all)

bearers_more : (r : Run) (T : Trace) → r.number ≡ run_count T + 1 → IsSound T → (run : ℕ) → bearers run (live T ++ r ∷ []) ≤ 1
bearers_more r T next sound run =
    only_one (is_number run) r (live T) (is_number run r) refl (sound.single run)
    (λ e. let same : r.number ≡ run = grind (arith, nat_tests) in
    tally_none (is_number run) (live T) (greater (run_count T) run (live T) (omega (arith, same, next)) sound.numbered))

sound_ordered : (r : Run) (key : Key) (o : Open) (T : Trace) → r.number ≡ run_count T + 1 → head (shown T) ≡ Some o → r.id ≡ o.task.id → AreSlotsSound (Ordered r key ∷ T) → IsSound T → IsSound (Ordered r key ∷ T)
sound_ordered r key o T next found is slotted sound =
    let is_open = open_ordered r key o T found is sound in
    let free : find (carries r.id) (live T) ≡ None = subst (λ (x : Id). find (carries x) (live T) ≡ None) (sym is) (head_waits o T found).1 in
    record {
      apart = sound.apart;
      drawn = sound.drawn;
      ended_drawn = sound.ended_drawn;
      live_drawn = all_push _ r (live T) (subst (λ (x : Id). x.count ≤ last T x.namespace) (sym is) (open_drawn waits o T found sound)) sound.live_drawn;
      once = λ id. rw (is_open, ids_of-started waits (Running r.number) (open_items T)) (sound.once id);
      known = sound.known;
      one = loads_more r T free sound;
      single = bearers_more r T next sound;
      numbered = all_push _ r (live T) (omega (arith, next)) (all_more _ _ (live T) (λ x le. omega (arith, le)) sound.numbered);
      slotted = slotted;
      namespaces = sound.namespaces;
      resumed = sound.resumed;
      fires = sound.fires;
    }

fewer : {X : Type 0} (p q : X → Bool) (xs : List X) → tally q xs ≤ 1 → tally q (remove_first p xs) ≤ 1
fewer p q xs le = let h = tally_fewer p q xs in omega (arith, h, le)

left_answered : (run : ℕ) (alive : Bool) (at : ℕ) (T : Trace) → ids_of (open_items (Answered run alive at ∷ T)) ≡ ids_of (open_items T) → AreSlotsSound (Answered run alive at ∷ T) → IsSound T → IsSound (Answered run alive at ∷ T)
left_answered run alive at T ids slotted sound = record {
  apart = sound.apart;
  drawn = sound.drawn;
  ended_drawn = sound.ended_drawn;
  live_drawn = all_removed _ (is_number run) (live T) sound.live_drawn;
  once = λ id. rw ids (sound.once id);
  known = sound.known;
  one = λ id. fewer (is_number run) (carries id) (live T) (sound.one id);
  single = λ n. fewer (is_number run) (is_number n) (live T) (sound.single n);
  numbered = all_removed _ (is_number run) (live T) sound.numbered;
  slotted = slotted;
  namespaces = sound.namespaces;
  resumed = sound.resumed;
  fires = sound.fires;
}

left_lost : (run at : ℕ) (T : Trace) → ids_of (open_items (Lost run at ∷ T)) ≡ ids_of (open_items T) → AreSlotsSound (Lost run at ∷ T) → IsSound T → IsSound (Lost run at ∷ T)
left_lost run at T ids slotted sound = record {
  apart = sound.apart;
  drawn = sound.drawn;
  ended_drawn = sound.ended_drawn;
  live_drawn = all_removed _ (is_number run) (live T) sound.live_drawn;
  once = λ id. rw ids (sound.once id);
  known = sound.known;
  one = λ id. fewer (is_number run) (carries id) (live T) (sound.one id);
  single = λ n. fewer (is_number run) (is_number n) (live T) (sound.single n);
  numbered = all_removed _ (is_number run) (live T) sound.numbered;
  slotted = slotted;
  namespaces = sound.namespaces;
  resumed = sound.resumed;
  fires = sound.fires;
}

sound_begun : (run at : ℕ) (T : Trace) → AreSlotsSound (Begun run at ∷ T) → IsSound T → IsSound (Begun run at ∷ T)
sound_begun run at T slotted sound = record {
  apart = sound.apart;
  drawn = sound.drawn;
  ended_drawn = sound.ended_drawn;
  live_drawn = all_updated _ (is_number run) (begun at) (live T) (λ x le. le) sound.live_drawn;
  once = λ id. rw (open_begun run at T) (sound.once id);
  known = sound.known;
  one = λ id. rw (tally_updated (is_number run) (carries id) (begun at) (live T) (λ x. refl)) (sound.one id);
  single = λ n. rw (tally_updated (is_number run) (is_number n) (begun at) (live T) (λ x. refl)) (sound.single n);
  numbered = all_updated _ (is_number run) (begun at) (live T) (λ x le. le) sound.numbered;
  slotted = slotted;
  namespaces = sound.namespaces;
  resumed = sound.resumed;
  fires = sound.fires;
}

sound_gone : (slot generation at : ℕ) (T : Trace) → AreSlotsSound (Gone slot generation at ∷ T) → IsSound T → IsSound (Gone slot generation at ∷ T)
sound_gone slot generation at T slotted sound = record { apart = sound.apart; drawn = sound.drawn; ended_drawn = sound.ended_drawn; live_drawn = sound.live_drawn; once = sound.once; known = sound.known; one = sound.one; single = sound.single; numbered = sound.numbered; slotted = slotted; namespaces = sound.namespaces; resumed = sound.resumed; fires = sound.fires }

sound_prewarming : (o : PrewarmOrder) (at : ℕ) (T : Trace) → AreSlotsSound (Prewarming o at ∷ T) → IsSound T → IsSound (Prewarming o at ∷ T)
sound_prewarming o at T slotted sound = record {
  apart = sound.apart;
  drawn = sound.drawn;
  ended_drawn = sound.ended_drawn;
  live_drawn = sound.live_drawn;
  once = sound.once;
  known = sound.known;
  one = sound.one;
  single = sound.single;
  numbered = all_more _ _ (live T) (λ x le. omega (arith, le)) sound.numbered;
  slotted = slotted;
  namespaces = sound.namespaces;
  resumed = sound.resumed;
  fires = sound.fires;
}

sound_removed : (containers : List Container) (at : ℕ) (T : Trace) → AreSlotsSound (Removed containers at ∷ T) → IsSound T → IsSound (Removed containers at ∷ T)
sound_removed containers at T slotted sound = record { apart = sound.apart; drawn = sound.drawn; ended_drawn = sound.ended_drawn; live_drawn = sound.live_drawn; once = sound.once; known = sound.known; one = sound.one; single = sound.single; numbered = sound.numbered; slotted = slotted; namespaces = sound.namespaces; resumed = sound.resumed; fires = sound.fires }

sound_swept : (at : ℕ) (T : Trace) → AreSlotsSound (Swept at ∷ T) → IsSound T → IsSound (Swept at ∷ T)
sound_swept at T slotted sound = record { apart = sound.apart; drawn = sound.drawn; ended_drawn = sound.ended_drawn; live_drawn = sound.live_drawn; once = sound.once; known = sound.known; one = sound.one; single = sound.single; numbered = sound.numbered; slotted = slotted; namespaces = sound.namespaces; resumed = sound.resumed; fires = sound.fires }

sound_drained : (at : ℕ) (T : Trace) → AreSlotsSound (Drained at ∷ T) → IsSound T → IsSound (Drained at ∷ T)
sound_drained at T slotted sound = record { apart = sound.apart; drawn = sound.drawn; ended_drawn = sound.ended_drawn; live_drawn = sound.live_drawn; once = sound.once; known = sound.known; one = sound.one; single = sound.single; numbered = sound.numbered; slotted = slotted; namespaces = sound.namespaces; resumed = sound.resumed; fires = sound.fires }

sound_archived : (until at : ℕ) (T : Trace) → AreSlotsSound (Archived until at ∷ T) → IsSound T → IsSound (Archived until at ∷ T)
sound_archived until at T slotted sound = record { apart = sound.apart; drawn = sound.drawn; ended_drawn = sound.ended_drawn; live_drawn = sound.live_drawn; once = sound.once; known = sound.known; one = sound.one; single = sound.single; numbered = sound.numbered; slotted = slotted; namespaces = sound.namespaces; resumed = sound.resumed; fires = sound.fires }

sound_reopened : (at : ℕ) (T : Trace) → open_items T ≡ [] → AreSlotsSound (Reopened at ∷ T) → IsSound T → IsSound (Reopened at ∷ T)
sound_reopened at T none slotted sound = record {
  apart = sound.apart;
  drawn = sound.drawn;
  ended_drawn = sound.ended_drawn;
  live_drawn = tt;
  once = λ id.
      let h : 0 + times id (recorded T) ≡ times id (accepted_ids T) = rw none at (sound.once id) in
      rw (open_reopened at T none) h;
  known = sound.known;
  one = λ id. omega arith;
  single = λ n. omega arith;
  numbered = tt;
  slotted = slotted;
  namespaces = sound.namespaces;
  resumed = sound.resumed;
  fires = record { recorded = sound.fires.recorded; foreign = sound.fires.foreign; next = tt };
}

-- nothing was accepted where nothing is open and nothing has ended
none_ids : (xs : List Id) → ((id : Id) → 0 ≡ times id xs) → xs ≡ []
none_ids [] none = refl
none_ids (x ∷ xs) none = let h : 0 ≡ one_if (same_id x x) + times x xs = none x in absurd (let own = same_id_refl x in let h' : 0 ≡ 1 + times x xs = rw own at h in omega (arith, h'))

none_accepted : (xs : List Activation) (rs : List Record) → map (λ a. a.id) xs ++ map (λ r. r.id) rs ≡ [] → (xs ≡ []) × (rs ≡ [])
none_accepted [] [] is = (refl, refl)
none_accepted [] (r ∷ rs) is = cc
none_accepted (a ∷ xs) rs is = cc

none_recorded : (rs : List Record) → map (λ r. r.id) rs ≡ [] → rs ≡ []
none_recorded [] none = refl
none_recorded (r ∷ rs) none = cc

sound_resumed : (counts : List Id) (rs : List Record) (T : Trace) → IsFresh (shown T) → AreResumable counts rs → AreSlotsSound (Resumed counts rs ∷ T) → IsSound T → IsSound (Resumed counts rs ∷ T)
unfolding IsDistinct
sound_resumed counts rs T fresh resumable slotted sound =
    let both = none_accepted (accepted T) (fired T) (none_ids (accepted_ids T)
    (λ id. ap (λ (os : List Open). times id (ids_of os) + times id []) (sym fresh.open_items) ∙ (ap (λ (ids : List Id). times id (ids_of (open_items T)) + times id ids) (sym fresh.recorded) ∙ sound.once id))) in
    let none : accepted T ≡ [] = both.0 in
    record {
      apart = sound.apart;
      drawn = rw none tt;
      ended_drawn = rw (none_recorded (records T) fresh.recorded) tt;
      live_drawn = rw fresh.live tt;
      once = sound.once;
      known = sound.known;
      one = sound.one;
      single = sound.single;
      numbered = sound.numbered;
      slotted = slotted;
      namespaces = resumable.namespaces;
      resumed = record { drawn = resumable.drawn; apart = resumable.apart; strange = rw none (all_more _ _ rs (λ r le. tt) resumable.drawn) };
      fires = record {
        recorded = rw both.1 (record { drawn = tt; apart = tt; strange = tt });
        foreign = rw both.1 (all_more _ _ rs (λ r le. tt) resumable.drawn);
        next = tt;
      };
    }

-- ---- each item

-- it keeps the trace sound, and does this to what is open
abbrev IsGrown : Item → Trace → Type 0
IsGrown item T = IsSound (item ∷ T) × (open_items (item ∷ T) ≡ open_after item (live T) (open_items T))

grown_lost : (run at : ℕ) (r : Option Run) (T : Trace) → live_run T run ≡ r → AreSlotsSound (Lost run at ∷ T) → IsSound T → IsGrown (Lost run at) T
grown_lost run at None T none slotted sound =
    let is_open = open_kept run at T none in
    (left_lost run at T (ap ids_of is_open) slotted sound, is_open ∙ rw none refl)
grown_lost run at (Some r) T found slotted sound = of_open (find (is_of r.id) (open_items T)) refl
  where
    of_open : (o : Option Open) → find (is_of r.id) (open_items T) ≡ o → IsGrown (Lost run at) T
    of_open None none =
        let is_open : open_items (Lost run at ∷ T) ≡ open_items T = open_left run r T found none in
        let same = update_none (is_of r.id) (with_state Waiting) (open_items T) none in
        (left_lost run at T (ap ids_of is_open) slotted sound, is_open ∙ rw found (sym same))
    of_open (Some o) here =
        let is_open = open_lost run at r o T found here sound in
        (left_lost run at T (ap ids_of is_open ∙ ids_of-started (is_of r.id) Waiting (open_items T)) slotted sound, is_open ∙ rw found refl)

grown_item : (item : Item) (T : Trace) → IsRight item (shown T) → IsSound T → IsGrown item T
grown_item (Opened pool wants) T right sound = absurd right.0
grown_item (Resumed counts rs) T right sound =
    (sound_resumed counts rs T right.0.0 right.0.1 (slotted_item (Resumed counts rs) T right sound.slotted) sound, refl)
grown_item (Accepted a) T right sound =
    let new : a.id.count ≡ last T a.id.namespace + 1 = right.0 ∙ ap (λ n. n + 1) (drawn_last T a.id.namespace) in
    (sound_accepted a T new (slotted_item (Accepted a) T right sound.slotted) sound, open_accepted a T new sound)
grown_item (Ordered r key) T right sound = (
  sound_ordered r key right.0.0 T right.1.0.next right.0.1 right.0.2 (slotted_item (Ordered r key) T right sound.slotted) sound,
  open_ordered r key right.0.0 T right.0.1 right.0.2 sound,
)
grown_item (Prewarming o at) T right sound = (sound_prewarming o at T (slotted_item (Prewarming o at) T right sound.slotted) sound, refl)
grown_item (Removed containers at) T right sound = (sound_removed containers at T (slotted_item (Removed containers at) T right sound.slotted) sound, refl)
grown_item (Begun run at) T right sound = (sound_begun run at T (slotted_item (Begun run at) T right sound.slotted) sound, open_begun run at T)
grown_item (Answered run alive at) T right sound =
    let is_open : open_items (Answered run alive at ∷ T) ≡ open_items T = open_left run right.0.0 T right.0.1 right.0.2 in
    (left_answered run alive at T (ap ids_of is_open) (slotted_item (Answered run alive at) T right sound.slotted) sound, is_open)
grown_item (Lost run at) T right sound = grown_lost run at (live_run T run) T refl (slotted_item (Lost run at) T right sound.slotted) sound
grown_item (Gone slot generation at) T right sound = (sound_gone slot generation at T (slotted_item (Gone slot generation at) T right sound.slotted) sound, refl)
grown_item (Ended e) T right sound =
    (sound_ended e right.0.0 T right.0.1 right.0.2 (slotted_item (Ended e) T right sound.slotted) sound, open_ended e right.0.0 T right.0.1 right.0.2 sound)
grown_item (Drawn id at) T right sound =
    let new : id.count ≡ last T id.namespace + 1 = right.0 ∙ ap (λ n. n + 1) (drawn_last T id.namespace) in
    (sound_drawn id at T new (slotted_item (Drawn id at) T right sound.slotted) sound, refl)
grown_item (Fired r) T right sound =
    let fires = subst (λ (o : Option Id). AreFiresApart (fired T) o (resumed T) (last T) (accepted T)) right.0 sound.fires in
    (sound_fired r T fires (slotted_item (Fired r) T right sound.slotted) sound, open_fired r T fires.next.1.0)
grown_item (Swept at) T right sound = (sound_swept at T (slotted_item (Swept at) T right sound.slotted) sound, refl)
grown_item (Drained at) T right sound = (sound_drained at T (slotted_item (Drained at) T right sound.slotted) sound, refl)
grown_item (Reopened at) T right sound =
    (sound_reopened at T right.0 (slotted_item (Reopened at) T right sound.slotted) sound, open_reopened at T right.0 ∙ sym right.0)
grown_item (Archived until at) T right sound = (sound_archived until at T (slotted_item (Archived until at) T right sound.slotted) sound, refl)

recorded_step : (item : Item) (T : Trace) → recorded (item ∷ T) ≡ recorded_after item (recorded T)
recorded_step (Ended e) T = map-append (λ r. r.id) (records T) (record_of e ∷ [])
recorded_step (Fired r) T = map-append (λ r. r.id) (records T) (r ∷ [])
recorded_step item T = refl

shown_step : (item : Item) (T : Trace) → IsRight item (shown T) → shown_records (item ∷ T) ≡ shown_after item [] (shown_records T)
shown_step (Resumed counts rs) T right = ap (λ xs. rs ++ xs) (none_recorded (records T) right.0.0.recorded)
shown_step item T right = refl

shown_by : (item : Item) (T : Trace) → open_items (item ∷ T) ≡ open_after item (live T) (open_items T) → slots (item ∷ T) ≡ slots_after item (slots T)
    → shown_records (item ∷ T) ≡ shown_after item [] (shown_records T) → shown (item ∷ T) ≡ grow item (shown T)
shown_by item T is_open is_slots is_shown =
    ap (λ (os : List Open). record (grow item (shown T)) { open_items = os; slots = slots (item ∷ T); records = shown_records (item ∷ T); recorded = recorded (item ∷ T) }) is_open
    ∙ (ap (λ (ss : List Slot). record (grow item (shown T)) { slots = ss; records = shown_records (item ∷ T); recorded = recorded (item ∷ T) }) is_slots
    ∙ (ap (λ (rs : List Record). record (grow item (shown T)) { records = rs; recorded = recorded (item ∷ T) }) is_shown
    ∙ ap (λ (ids : List Id). record (grow item (shown T)) { recorded = ids }) (recorded_step item T)))

-- items that may come keep a trace sound, and do to the lists what they should
pub sound_items : (items T : Trace) → AreRight items (shown T) → IsSound T → IsSound (items ++ T) × (shown (items ++ T) ≡ grown items (shown T))
sound_items [] T right sound = (sound, refl)
sound_items (item ∷ items) T right sound =
    let before = sound_items items T right.1 sound in
    let here = subst (λ (v : Shown). IsRight item v) (sym before.1) right.0 in
    let grown = grown_item item (items ++ T) here before.0 in
    (grown.0, shown_by item (items ++ T) grown.1 (slots_item item (items ++ T) here before.0.slotted) (shown_step item (items ++ T) here) ∙ ap (grow item) before.1)

-- where the items of a call may come, a floor of whose lists they are made grows by them
pub grows : (f : Shown → Trace) (v w : Shown) → ((T : Trace) → Stands v T → AreRight (f (shown T)) (shown T)) → w ≡ grown (f v) v → Grows v w (λ T. f (shown T))
grows f v w right is T st =
    let both = sound_items (f (shown T)) T (right T st) st.sound in
    record { is = is ∙ (ap (λ (u : Shown). grown (f u) u) st.is ∙ sym both.1); sound = both.0 }

-- ---- laws

-- in a sound trace each accepted id waits, runs or is recorded, once
pub parted : (T : Trace) → IsSound T → IsParted T
parted T sound = record {
  once = λ id. accepted_once T id sound;
  parts = λ id. rw (times-split id (open_items T)) (sound.once id);
}

-- in a sound trace no activation has two live runs, and no two live runs have one number
pub runs_once : (T : Trace) → IsSound T → RunOnce T
runs_once T sound = record { one = sound.one; single = sound.single }

none_open : (os : List Open) → length os ≡ 0 → (id : Id) → times id (ids_of os) ≡ 0
none_open [] e id = refl
none_open (o ∷ os) e id = absurd (omega (arith, e))

recorded_at : (T : Trace) (b : Bool) → (length (open_items T) == 0) ≡ b → IsSound T
    → AllRecorded T (cond b (drains.Drained (count T)) (drains.StillOpen (length (open_items T))))
recorded_at T true e sound =
    let empty : length (open_items T) ≡ 0 = grind (arith, nat_tests) in (
      refl,
      λ id.
          let none = none_open (open_items T) empty id in
          let most = accepted_once T id sound in
          let all = sound.once id in
          (omega (arith, none, all), omega (arith, none, all, most)),
    )
recorded_at T false e sound = tt

-- where none is open, each accepted id is recorded, once
pub all_recorded : (T : Trace) → IsSound T → AllRecorded T (drain_answer T)
all_recorded T sound = recorded_at T (length (open_items T) == 0) refl sound
