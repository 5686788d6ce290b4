-- Which items ends over the kept lists make.
use Rattle.std.proofs.Common.{◌≡◌, ◌≢◌, ◌<◌, ◌≤◌, ◌+◌, ◌++◌, ℕ, zero, suc, Bool, true, false, List, [], ◌∷◌, Option, Some, None, length, get_or, drop, drop-cons, refl, sym, ap, ◌∙◌, arith, subst, append_assoc, append-nil}
use Rattle.std.specs.List.{find, AllByRecursion, IsDistinct}
use Rattle.std.specs.Prelude.{is_none, slice_set}
use Rattle.std.proofs.lemmas.List.{length-set, get_or-set_other}
use Rattle.std.proofs.lemmas.List.Elements.{All-from_recursion, recursion_from_All}
use Rattle.std.proofs.lemmas.List.Sorted.{All-permutation}
use Rattle.ow_records.specs.declared.ids.Id.{Id}
use Rattle.ow_records.specs.Id.{same_id}
use Rattle.ow_records.specs.declared.outcomes.Ending.{Ending}
use Rattle.ow_records.specs.declared.outcomes.Ending.TheVariants.{Replied, Overran, Abandoned, Composed}
use Rattle.ow_traits.specs.declared.replies.RunReply.{RunReply}
use Rattle.ow_records.specs.declared.activations.Activation.{Activation}
use Rattle.ow_floor.specs.declared.activations.Open.{Open}
use Rattle.ow_floor.specs.declared.moves.Moved.{Moved}
use Rattle.ow_floor.specs.declared.moves.Moved.TheVariants as moves
use Rattle.ow_floor.specs.declared.by_id.OpenPlace.{OpenPlace}
use Rattle.ow_floor.specs.declared.lists.Spot.{Spot}
use Rattle.ow_floor.specs.declared.lists.Berth.{Berth}
use Rattle.ow_floor.specs.declared.runs.Run.{Run}
use Rattle.ow_floor.specs.View.{Shown, is_of, remove_first, same_open}
use Rattle.ow_slots.specs.declared.states.Slot.{Slot}
use Rattle.ow_slots.specs.Slots.{IsThere, first_with}
use Rattle.ow_slots.specs.State.{IsUnrecorded, recorded_of, runs}
use Rattle.ow_slot_laws.specs.Life as lives
use Rattle.ow_records.specs.Response.{ResponseView}
use Rattle.ow_floor.specs.Frames.{children_of, is_frame}
use Rattle.ow_floor.specs.Trace.{Trace, overrun_of, record_of}
use Rattle.ow_floor.specs.Growth.{grown}
use Rattle.ow_floor.specs.Calls.{abandoned_items, composed_items, end_items, ended_by, first_items, first_late, has_items, late_of, moved, moved_by, overrun_items, sorted_by_id}
use Rattle.ow_floor.specs.Store.{IsGood, IsSpot, Store, event_in, opens, run_in, show, there, with_frames}
use Rattle.ow_floor.specs.Ends.{AreAbandoned, ArePlaced, IsAbandonedAt, IsAbandoning, IsByIds, IsEndedAt, IsEndedRun, IsLateEnd, IsLateSpot, IsLeft, IsMade, IsOverrunAt, IsFirstSwept, IsSeeking, IsSweeping, IsSweptOne, abandons, end_in, first_swept, late_at, placed, sweeps}
use Rattle.ow_floor.proofs.Alters.{same_id_refl}
use Rattle.ow_floor.proofs.Apart.{IsOther, distinct_removed, distinct_sorted}
use Rattle.ow_floor.proofs.Coming.{grown_append}
use Rattle.ow_floor.proofs.Firsts.{find_passes}
use Rattle.ow_floor.proofs.Serving.{within_kept}
use Rattle.ow_floor.proofs.Showing.{good_ended, good_event, good_framed, show_ended, show_overran}
use Rattle.ow_floor.proofs.Tallies.{eq_of}
use Rattle.ow_floor.proofs.Sorting.{placed_by_ids}

pub moved_append : (xs ys : Trace) → moved (xs ++ ys) ≡ moved ys ++ moved xs
moved_append [] ys = sym (append-nil (moved ys))
moved_append (x ∷ xs) ys = ap (λ zs. zs ++ moved_by x) (moved_append xs ys) ∙ append_assoc (moved ys) (moved xs) (moved_by x)

-- what moved was noted of the task that was there
noted_of : (at : ℕ) (ending : Ending) (run : Option Run) (a b : Activation) (before after : List Moved) → a ≡ b → after ≡ before ++ moves.Ended (record_of (ended_by at ending run a)) ∷ []
    → after ≡ before ++ moves.Ended (record_of (ended_by at ending run b)) ∷ []
noted_of at ending run a b before after same is = is ∙ ap (λ (x : Activation). before ++ moves.Ended (record_of (ended_by at ending run x)) ∷ []) same

-- ---- one end

same_task : (R : Store) (p : Open → Bool) (place : ℕ) (spot : IsSpot p R.spots R.tasks place) (a : Activation) → get_or R.tasks place None ≡ Some a → a ≡ spot.item.task
same_task R p place spot a here =
    let e : Some a ≡ Some spot.item.task = sym here ∙ spot.task None in
    cc

pub ended_made : (at : ℕ) (ending : Ending) (place : ℕ) (run : Option Run) (id : Id) (R S : Store) (before after : List Moved) → overrun_of ending run at ≡ None → IsGood R → (spot : IsSpot (is_of id) R.spots R.tasks place)
    → IsEndedAt at ending run place R S before after → IsMade (end_items at ending run (Some spot.item)) R S before after
ended_made at ending place run id R S before after plain good spot x =
    let task = same_task R (is_of id) place spot x.task x.here in
    let e = ended_by at ending run spot.item.task in
    let now : S ≡ end_in place e R = x.now ∙ ap (λ a. end_in place (ended_by at ending run a) R) task in
    let same : e.task.id ≡ id = eq_of e.task.id id (find_passes (is_of id) spot.item (opens R.spots R.tasks) spot.found) in
    record {
      shows = ap show now ∙ show_ended R place id e same plain spot;
      good = subst (λ (U : Store). IsGood U) (sym now) (good_ended (with_frames _ R) (is_of id) at place (record_of e) spot (good_framed R _ good));
      runs = ap (λ (U : Store). U.runs) now;
      noted = noted_of at ending run x.task spot.item.task before after task x.noted;
    }

-- ---- replies

pub run_ended : (at : ℕ) (r : Run) (reply : RunReply) (place : ℕ) (R S : Store) (before after : List Moved) → IsGood R → IsSpot (is_of r.id) R.spots R.tasks place
    → IsEndedAt at (Replied reply) (Some r) place R S before after → IsEndedRun at r reply R S before after
run_ended at r reply place R S before after good spot x =
    let made = ended_made at (Replied reply) place (Some r) r.id R S before after refl good spot x in
    record {
      shows = rw spot.found made.shows;
      good = made.good;
      runs = made.runs;
      slots = ap (λ (U : Store). U.slots) x.now;
      noted = rw spot.found made.noted;
    }

pub run_late : (at : ℕ) (r : Run) (reply : RunReply) (R : Store) (before : List Moved) → IsGood R → find (is_of r.id) (opens R.spots R.tasks) ≡ None → IsEndedRun at r reply R R before before
run_late at r reply R before good none = record { shows = rw none refl; good = good; runs = refl; slots = refl; noted = rw none (sym (append-nil before)) }

-- ---- sweeps

pub made_none : (R : Store) (before : List Moved) → IsGood R → IsMade [] R R before before
made_none R before good = record { shows = refl; good = good; runs = refl; noted = sym (append-nil before) }

pub swept_none : (at : ℕ) (R : Store) (before : List Moved) → IsGood R → IsSweptOne at None R R before before
swept_none at R before good = made_none R before good

pub swept_in_time : (at : ℕ) (b : Berth) (R : Store) (before : List Moved) → IsGood R → IsLateEnd at b.run R None → IsSweptOne at (Some b) R R before before
swept_in_time at b R before good late = subst (λ (items : Trace). IsMade items R R before before) (sym late) (made_none R before good)

unrecorded : (o : Option Slot) → IsThere IsUnrecorded o → (s : Slot) × (o ≡ Some s) × (is_none (recorded_of s.state) ≡ true)
unrecorded None h = absurd h
unrecorded (Some s) h = (s, refl, rw h refl)

-- what overran has ended, and is recorded so in the slot of its run
pub overran_made : (at : ℕ) (r : Run) (place : ℕ) (R S : Store) (before after : List Moved) → IsGood R → (spot : IsSpot (is_of r.id) R.spots R.tasks place) → IsOverrunAt at r place R S before after
    → IsMade (end_items at Overran (Some r) (Some spot.item)) R S before after
overran_made at r place R S before after good spot x =
    let task = same_task R (is_of r.id) place spot x.ended.task x.ended.here in
    let e = ended_by at Overran (Some r) spot.item.task in
    let middle : x.middle ≡ end_in place e R = x.ended.now ∙ ap (λ a. end_in place (ended_by at Overran (Some r) a) R) task in
    let now : S ≡ event_in at (lives.Overran r.number at) (end_in place e R) = x.now ∙ ap (event_in at (lives.Overran r.number at)) middle in
    let same : e.task.id ≡ r.id = eq_of e.task.id r.id (find_passes (is_of r.id) spot.item (opens R.spots R.tasks) spot.found) in
    record {
      shows = ap show now ∙ show_overran R place r.id e (lives.Overran r.number at) same refl spot;
      good = subst (λ (U : Store). IsGood U) (sym now)
          (good_event _ at (lives.Overran r.number at) (within_kept (lives.Overran r.number at) R.slots R.pool refl good.pool) (good_ended (with_frames _ R) (is_of r.id) at place (record_of e) spot (good_framed R _ good)));
      runs = ap (λ (U : Store). U.runs) now;
      noted = noted_of at Overran (Some r) x.ended.task spot.item.task before after task x.ended.noted;
    }

pub swept_late : (at : ℕ) (b : Berth) (place : ℕ) (R S : Store) (before after : List Moved) → IsGood R → IsLateSpot at b.run R place
    → IsOverrunAt at b.run place R S before after → IsSweptOne at (Some b) R S before after
swept_late at b place R S before after good late x =
    let spot = late.spot in
    let slot = unrecorded (first_with (runs b.run.number) R.slots) late.unrecorded in
    let items : late_at at (Some b) R ≡ end_items at Overran (Some b.run) (Some spot.item) = rw (slot.1, spot.found) (rw (slot.2, late.late) refl) in
    subst (λ (items : Trace). IsMade items R S before after) (sym items) (overran_made at b.run place R S before after good spot x)

overrun_on : (at : ℕ) (c : Option Berth) (cells : List (Option Berth)) (R : Store)
    → overrun_items at (there run_in (c ∷ cells)) (show R) ≡ overrun_items at (there run_in cells) (grown (late_at at c R) (show R)) ++ late_at at c R
overrun_on at None cells R = sym (append-nil (overrun_items at (there run_in cells) (show R)))
overrun_on at (Some b) cells R = refl

-- one run further
pub sweeps_on : (at : ℕ) (old now new : Store) (c : Option Berth) (cells : List (Option Berth)) (start told after : List Moved)
    → IsSweeping at old now (c ∷ cells) start told → IsSweptOne at c now new told after → IsSweeping at old new cells start after
sweeps_on at old now new c cells start told after before made =
    let late = late_at at c now in
    let rest : Shown → Trace = λ v. overrun_items at (there run_in cells) v in
    let both = overrun_on at c cells now in
    record {
      shows = ap (λ v. grown (rest v) v) made.shows ∙ (sym (grown_append (rest (grown late (show now))) late (show now)) ∙ (ap (λ items. grown items (show now)) (sym both) ∙ before.shows));
      noted =
          ap (λ (ms : List Moved). ms ++ moved (rest (show new))) made.noted
          ∙ (append_assoc told (moved late) (moved (rest (show new)))
          ∙ (ap (λ v. told ++ (moved late ++ moved (rest v))) made.shows
          ∙ (ap (λ (ms : List Moved). told ++ ms) (sym (moved_append (rest (grown late (show now))) late) ∙ ap moved (sym both)) ∙ before.noted)));
      runs = made.runs ∙ before.runs;
      good = made.good;
    }

pub sweeping_start : (at : ℕ) (R : Store) (start : List Moved) → IsGood R → IsSweeping at R R R.runs start start
sweeping_start at R start good = record { shows = refl; noted = refl; runs = refl; good = good }

pub sweeping_end : (at : ℕ) (old now : Store) (start told : List Moved) → IsSweeping at old now [] start told → IsMade (sweeps at old) old now start told
sweeping_end at old now start told done = record { shows = done.shows; good = done.good; runs = done.runs; noted = sym (append-nil told) ∙ done.noted }

-- the run at this place
pub sweeps_at : (at : ℕ) (old now new : Store) (i : ℕ) (start told after : List Moved) → i < length old.runs
    → IsSweeping at old now (drop i old.runs) start told → IsSweptOne at (get_or now.runs i None) now new told after → IsSweeping at old new (drop (i + 1) old.runs) start after
sweeps_at at old now new i start told after lt before one =
    let cells : drop i old.runs ≡ get_or old.runs i None ∷ drop (suc i) old.runs = drop-cons old.runs i None lt in
    let here : get_or now.runs i None ≡ get_or old.runs i None = ap (λ (rs : List (Option Berth)). get_or rs i None) before.runs in
    let next : suc i ≡ i + 1 = omega arith in
    let done = sweeps_on at old now new (get_or old.runs i None) (drop (suc i) old.runs) start told after
    (subst (λ (cs : List (Option Berth)). IsSweeping at old now cs start told) cells before)
    (subst (λ (c : Option Berth). IsSweptOne at c now new told after) here one) in
    subst (λ n. IsSweeping at old new (drop n old.runs) start after) next done

-- ---- the first late run

-- what one run carries isn't late: the next one is looked at
seeks_on : (at : ℕ) (R : Store) (c : Option Berth) (cells : List (Option Berth)) → late_at at c R ≡ [] → IsSeeking at R (c ∷ cells) → IsSeeking at R cells
seeks_on at R None cells none before = before
seeks_on at R (Some b) cells none before = before ∙ ap (λ (items : Trace). first_items items (first_late at (there run_in cells) (show R))) none

pub seeks_at : (at : ℕ) (R : Store) (i : ℕ) (d : Option Berth) → i < length R.runs → late_at at (get_or R.runs i d) R ≡ [] → IsSeeking at R (drop i R.runs) → IsSeeking at R (drop (i + 1) R.runs)
seeks_at at R i d lt none before =
    let cells : drop i R.runs ≡ get_or R.runs i d ∷ drop (suc i) R.runs = drop-cons R.runs i d lt in
    let next : suc i ≡ i + 1 = omega arith in
    subst (λ n. IsSeeking at R (drop n R.runs)) next
    (seeks_on at R (get_or R.runs i d) (drop (suc i) R.runs) none (subst (λ (cs : List (Option Berth)). IsSeeking at R cs) cells before))

late_made : (at : ℕ) (r : Run) (place : ℕ) (R : Store) → (late : IsLateSpot at r R place) → late_of at r (show R) ≡ end_items at Overran (Some r) (Some late.spot.item)
late_made at r place R late =
    let spot = late.spot in
    let slot = unrecorded (first_with (runs r.number) R.slots) late.unrecorded in
    rw (slot.1, spot.found) (rw (slot.2, late.late) refl)

-- what this run carries is late, and none before it
seeks_found : (at : ℕ) (c : Option Berth) (cells : List (Option Berth)) (place : ℕ) (r : Run) (R : Store) → late_at at c R ≡ late_of at r (show R) → IsLateSpot at r R place → IsSeeking at R (c ∷ cells)
    → first_swept at R ≡ late_of at r (show R)
seeks_found at None cells place r R here late seeking =
    let items = late_made at r place R late in
    let none : [] ≡ end_items at Overran (Some r) (Some late.spot.item) = here ∙ items in
    cc
seeks_found at (Some b) cells place r R here late seeking =
    let items = late_made at r place R late in
    let rest = first_late at (there run_in cells) (show R) in
    seeking ∙ (ap (λ (xs : Trace). first_items xs rest) (here ∙ items) ∙ sym items)

pub seeks_found_at : (at : ℕ) (R : Store) (i : ℕ) (d : Option Berth) (place : ℕ) (r : Run) → i < length R.runs → late_at at (get_or R.runs i d) R ≡ late_of at r (show R) → IsLateSpot at r R place
    → IsSeeking at R (drop i R.runs) → first_swept at R ≡ late_of at r (show R)
seeks_found_at at R i d place r lt here late seeking =
    let cells : drop i R.runs ≡ get_or R.runs i d ∷ drop (suc i) R.runs = drop-cons R.runs i d lt in
    seeks_found at (get_or R.runs i d) (drop (suc i) R.runs) place r R here late (subst (λ (cs : List (Option Berth)). IsSeeking at R cs) cells seeking)

pub swept_first : (at : ℕ) (place : ℕ) (r : Run) (R S : Store) (before after : List Moved) → IsGood R → first_swept at R ≡ late_of at r (show R) → IsLateSpot at r R place
    → IsOverrunAt at r place R S before after → IsFirstSwept at true R S before after
swept_first at place r R S before after good first late x =
    let all = first ∙ late_made at r place R late in
    record {
      made = subst (λ (items : Trace). IsMade items R S before after) (sym all) (overran_made at r place R S before after good late.spot x);
      tells = ap has_items (sym all);
    }

pub swept_nothing : (at : ℕ) (R : Store) (before : List Moved) → IsGood R → first_swept at R ≡ [] → IsFirstSwept at false R R before before
swept_nothing at R before good none = record {
  made = subst (λ (items : Trace). IsMade items R R before before) (sym none) (made_none R before good);
  tells = ap has_items (sym none);
}

-- ---- composites

pub composed_made : (at : ℕ) (id : Id) (r : ResponseView) (place : ℕ) (R S : Store) (before after : List Moved) → IsGood R → (spot : IsSpot (is_of id) R.spots R.tasks place)
    → IsEndedAt at (Composed r (children_of (find (is_frame id) R.frames))) None place R S before after → IsMade (composed_items at id r (show R)) R S before after
composed_made at id r place R S before after good spot x =
    let ending = Composed r (children_of (find (is_frame id) R.frames)) in
    subst (λ (o : Option Open). IsMade (end_items at ending None o) R S before after) (sym spot.found) (ended_made at ending place None id R S before after refl good spot x)

pub composed_none : (at : ℕ) (id : Id) (r : ResponseView) (R : Store) (before : List Moved) → IsGood R → find (is_of id) (opens R.spots R.tasks) ≡ None → IsMade (composed_items at id r (show R)) R R before before
composed_none at id r R before good none =
    let ending = Composed r (children_of (find (is_frame id) R.frames)) in
    subst (λ (o : Option Open). IsMade (end_items at ending None o) R R before before) (sym none) (made_none R before good)

-- ---- openings

placed_from : (all : List (Option Activation)) (k : ℕ) (ss : List Spot) (ts : List (Option Activation)) → length ts ≡ length ss → ((j : ℕ) → get_or ts j None ≡ get_or all (k + j) None)
    → ArePlaced all (placed k ts) (opens ss ts)
placed_from all k [] [] same here = tt
placed_from all k [] (t ∷ ts) same here = absurd (omega (arith, same))
placed_from all k (s ∷ ss) [] same here = absurd (omega (arith, same))
placed_from all k (s ∷ ss) (t ∷ ts) same here =
    placed_at t refl (placed_from all (k + 1) ss ts (omega (arith, same)) (λ j. here (suc j) ∙ ap (λ n. get_or all n None) (next j)))
  where
    next : (j : ℕ) → k + suc j ≡ k + 1 + j
    next j = omega arith

    first : get_or all k None ≡ t
    first = let zero : k + 0 ≡ k = omega arith in sym (here 0 ∙ ap (λ n. get_or all n None) zero)

    placed_at : (u : Option Activation) → t ≡ u → ArePlaced all (placed (k + 1) ts) (opens ss ts) → ArePlaced all (placed k (u ∷ ts)) (opens (s ∷ ss) (u ∷ ts))
    placed_at None is rest = rest
    placed_at (Some a) is rest = (refl, first ∙ is, rest)

-- what is open is at its places
opens_placed : (R : Store) → IsGood R → ArePlaced R.tasks (placed 0 R.tasks) (opens R.spots R.tasks)
opens_placed R good = placed_from R.tasks 0 R.spots R.tasks good.paired (λ j. let same : j ≡ 0 + j = omega arith in ap (λ n. get_or R.tasks n None) same)

-- the activation at a place is one of all that are open
open_there : (P : Open → Type 0) (ss : List Spot) (ts : List (Option Activation)) (k : ℕ) (a : Activation) → length ts ≡ length ss → get_or ts k None ≡ Some a → AllByRecursion P (opens ss ts)
    → (s : Spot) × P (record { task = a; state = s.state })
open_there P ss [] k a same here all = cc
open_there P [] (t ∷ ts) k a same here all = absurd (omega (arith, same))
open_there P (s ∷ ss) (None ∷ ts) zero a same here all = cc
open_there P (s ∷ ss) (Some b ∷ ts) zero a same here all = let e : b ≡ a = cc in (s, subst (λ (x : Activation). P (record { task = x; state = s.state })) e all.0)
open_there P (s ∷ ss) (None ∷ ts) (suc k) a same here all = open_there P ss ts k a (omega (arith, same)) here all
open_there P (s ∷ ss) (Some b ∷ ts) (suc k) a same here all = open_there P ss ts k a (omega (arith, same)) here all.1

past_other : (o : Open) (a : Activation) (os us : List Open) → same_id o.task.id a.id ≡ false → us ≡ remove_first (is_of a.id) os → o ∷ us ≡ remove_first (is_of a.id) (o ∷ os)
unfolding remove_first
past_other o a os us other rest = rw other (ap (λ zs. o ∷ zs) rest)

first_cut : (o : Open) (os : List Open) → remove_first (is_of o.task.id) (o ∷ os) ≡ os
unfolding remove_first
first_cut o os = rw (same_id_refl o.task.id) refl

-- where the ids differ, the activation at a place is the first of its id
opens_cut : (ss : List Spot) (ts : List (Option Activation)) (k : ℕ) (a : Activation) → length ts ≡ length ss → get_or ts k None ≡ Some a → IsDistinct same_open (opens ss ts)
    → opens ss (slice_set ts k None) ≡ remove_first (is_of a.id) (opens ss ts)
unfolding IsDistinct
opens_cut ss [] k a same here apart = cc
opens_cut [] (t ∷ ts) k a same here apart = absurd (omega (arith, same))
opens_cut (s ∷ ss) (None ∷ ts) zero a same here apart = cc
opens_cut (s ∷ ss) (Some b ∷ ts) zero a same here apart =
    let e : b ≡ a = cc in
    sym (first_cut (record { task = b; state = s.state }) (opens ss ts)) ∙ ap (λ (x : Activation). remove_first (is_of x.id) (record { task = b; state = s.state } ∷ opens ss ts)) e
opens_cut (s ∷ ss) (None ∷ ts) (suc k) a same here apart = opens_cut ss ts k a (omega (arith, same)) here apart
opens_cut (s ∷ ss) (Some b ∷ ts) (suc k) a same here apart =
    let o : Open = record { task = b; state = s.state } in
    let other = open_there (λ x. same_open o x ≡ false) ss ts k a (omega (arith, same)) here apart.0 in
    past_other o a (opens ss ts) (opens ss (slice_set ts k None)) other.1 (opens_cut ss ts k a (omega (arith, same)) here apart.1)

-- ends elsewhere leave the activations at these places
placed_left : (ts : List (Option Activation)) (k : ℕ) (o : Open) (ps : List OpenPlace) (os : List Open) → get_or ts k None ≡ Some o.task → ArePlaced ts ps os → IsOther o os → ArePlaced (slice_set ts k None) ps os
placed_left ts k o [] [] here all other = tt
placed_left ts k o [] (x ∷ os) here all other = absurd all
placed_left ts k o (p ∷ ps) [] here all other = absurd all
placed_left ts k o (p ∷ ps) (x ∷ os) here all other = (all.0, elsewhere ∙ all.1, placed_left ts k o ps os here all.2 other.1)
  where
    different : p.place ≢ k
    different e =
        let same : Some x.task ≡ Some o.task = sym all.1 ∙ (ap (λ n. get_or ts n None) e ∙ here) in
        let task : x.task ≡ o.task = cc in
        let id : same_open o x ≡ true = rw task (same_id_refl o.task.id) in
        let no = other.0 in
        cc

    elsewhere : get_or (slice_set ts k None) p.place None ≡ get_or ts p.place None
    elsewhere = get_or-set_other ts k p.place None None different

pub abandoning_start : (at : ℕ) (R : Store) (ps : List OpenPlace) (start : List Moved) → IsGood R → IsByIds R.tasks ps → IsAbandoning at R R ps start start
abandoning_start at R ps start good sorted = record {
  ends = λ apart. record {
    left = sorted_by_id (opens R.spots R.tasks);
    placed = placed_by_ids R.tasks ps (opens R.spots R.tasks) (opens_placed R good) apart sorted;
    others = distinct_sorted (opens R.spots R.tasks) apart;
    apart = apart;
    shows = refl;
    noted = refl;
  };
  size = refl;
  runs = refl;
  good = good;
}

-- the places are those of tasks
placed_below : (n k : ℕ) (ts : List (Option Activation)) → k + length ts ≤ n → AllByRecursion (λ p. p.place < n) (placed k ts)
placed_below n k [] le = tt
placed_below n k (None ∷ ts) le = placed_below n (k + 1) ts (omega (arith, le))
placed_below n k (Some a ∷ ts) le = (omega (arith, le), placed_below n (k + 1) ts (omega (arith, le)))

all_at : (P : OpenPlace → Type 0) (ps : List OpenPlace) (i : ℕ) (d : OpenPlace) → AllByRecursion P ps → i < length ps → P (get_or ps i d)
all_at P [] i d all lt = absurd (omega (arith, lt))
all_at P (p ∷ ps) zero d all lt = all.0
all_at P (p ∷ ps) (suc i) d all lt = all_at P ps i d all.1 (omega (arith, lt))

pub place_within : (ts : List (Option Activation)) (ps : List OpenPlace) (i : ℕ) (d : OpenPlace) → IsByIds ts ps → i < length ps → (get_or ps i d).place < length ts
place_within ts ps i d sorted lt =
    let all = All-permutation (λ (p : OpenPlace). p.place < length ts) (placed 0 ts) ps sorted.same (All-from_recursion _ (placed 0 ts) (placed_below (length ts) 0 ts (omega arith))) in
    all_at (λ p. p.place < length ts) ps i d (recursion_from_All _ ps all) lt

-- the activation at the first of these places ends
left_on : (at : ℕ) (old now new : Store) (p : OpenPlace) (ps : List OpenPlace) (start told after : List Moved) (os : List Open) → IsGood now → IsEndedAt at Abandoned None p.place now new told after
    → (left : IsLeft at old now (p ∷ ps) start told) → left.left ≡ os → IsLeft at old new ps start after
unfolding IsDistinct
left_on at old now new p ps start told after [] good x left e = absurd (subst (λ (os : List Open). ArePlaced now.tasks (p ∷ ps) os) e left.placed)
left_on at old now new p ps start told after (o ∷ os) good x left e =
    let all : ArePlaced now.tasks (p ∷ ps) (o ∷ os) = subst (λ (zs : List Open). ArePlaced now.tasks (p ∷ ps) zs) e left.placed in
    let others : IsDistinct same_open (o ∷ os) = subst (λ (zs : List Open). IsDistinct same_open zs) e left.others in
    let there : Some x.task ≡ Some o.task = sym x.here ∙ all.1 in
    let task : x.task ≡ o.task = cc in
    let end = ended_by at Abandoned None o.task in
    let now_is : new ≡ end_in p.place end now = x.now ∙ ap (λ a. end_in p.place (ended_by at Abandoned None a) now) task in
    let cut = opens_cut now.spots now.tasks p.place o.task good.paired all.1 left.apart in
    let last : Trace = end_items at Abandoned None (Some o) in
    let made : show new ≡ grown last (show now) = ap show now_is ∙ rw cut refl in
    let noted : after ≡ told ++ moved last = noted_of at Abandoned None x.task o.task told after task x.noted in
    let items : abandoned_items at left.left ≡ abandoned_items at os ++ last = ap (abandoned_items at) e in
    record {
      left = os;
      placed = subst (λ (U : Store). ArePlaced U.tasks ps os) (sym now_is) (placed_left now.tasks p.place o ps os all.1 all.2 others.0);
      others = others.1;
      apart = subst (λ (U : Store). IsDistinct same_open (opens U.spots U.tasks)) (sym now_is) (subst (λ (zs : List Open). IsDistinct same_open zs) (sym cut) (distinct_removed (is_of o.task.id) (opens now.spots now.tasks) left.apart));
      shows =
          ap (grown (abandoned_items at os)) made
          ∙ (sym (grown_append (abandoned_items at os) last (show now)) ∙ (ap (λ items. grown items (show now)) (sym items) ∙ left.shows));
      noted =
          ap (λ (ms : List Moved). ms ++ moved (abandoned_items at os)) noted
          ∙ (append_assoc told (moved last) (moved (abandoned_items at os))
          ∙ (ap (λ (ms : List Moved). told ++ ms) (sym (moved_append (abandoned_items at os) last) ∙ ap moved (sym items)) ∙ left.noted));
    }

-- one place further
pub abandons_at : (at : ℕ) (old now new : Store) (ps : List OpenPlace) (i : ℕ) (d : OpenPlace) (start told after : List Moved) → i < length ps → IsGood new
    → IsAbandonedAt at (get_or ps i d).place now new told after → IsAbandoning at old now (drop i ps) start told → IsAbandoning at old new (drop (i + 1) ps) start after
abandons_at at old now new ps i d start told after lt good x before =
    let cells : drop i ps ≡ get_or ps i d ∷ drop (suc i) ps = drop-cons ps i d lt in
    let next : suc i ≡ i + 1 = omega arith in
    subst (λ n. IsAbandoning at old new (drop n ps) start after) next
    record {
      ends = λ apart.
          let left = subst (λ (qs : List OpenPlace). IsLeft at old now qs start told) cells (before.ends apart) in
          left_on at old now new (get_or ps i d) (drop (suc i) ps) start told after left.left before.good x left refl;
      size = ap (λ (U : Store). length U.tasks) x.now ∙ (length-set now.tasks (get_or ps i d).place None ∙ before.size);
      runs = ap (λ (U : Store). U.runs) x.now ∙ before.runs;
      good = good;
    }

end_by : (at : ℕ) (old now : Store) (start told : List Moved) (os : List Open) → (left : IsLeft at old now [] start told) → left.left ≡ os → now.runs ≡ old.runs → IsGood now
    → IsMade (abandons at old) old now start told
end_by at old now start told [] left e runs good = record {
  shows = ap (λ os. grown (abandoned_items at os) (show now)) (sym e) ∙ left.shows;
  good = good;
  runs = runs;
  noted = sym (append-nil told) ∙ (ap (λ os. told ++ moved (abandoned_items at os)) (sym e) ∙ left.noted);
}
end_by at old now start told (o ∷ os) left e runs good = absurd (subst (λ (zs : List Open). ArePlaced now.tasks [] zs) e left.placed)

none_left : (ps : List OpenPlace) (n : ℕ) → length ps ≤ n → drop n ps ≡ []
none_left [] zero le = refl
none_left [] (suc n) le = refl
none_left (p ∷ ps) zero le = absurd (omega (arith, le))
none_left (p ∷ ps) (suc n) le = none_left ps n (omega (arith, le))

pub abandoning_end : (at : ℕ) (old now : Store) (ps : List OpenPlace) (n : ℕ) (start told : List Moved) → length ps ≤ n → IsAbandoning at old now (drop n ps) start told → AreAbandoned at old now start told
abandoning_end at old now ps n start told le done apart =
    let left = subst (λ (qs : List OpenPlace). IsLeft at old now qs start told) (none_left ps n le) (done.ends apart) in
    end_by at old now start told left.left left refl done.runs done.good
