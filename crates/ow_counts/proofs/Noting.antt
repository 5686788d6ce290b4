-- What was noted of a trace, and what its counts are.
use Rattle.std.proofs.Common.{◌≡◌, ◌+◌, ◌≤◌, ◌++◌, ℕ, Bool, true, false, List, [], ◌∷◌, Option, Some, None, map, refl, sym, ap, ◌∙◌, subst, arith}
use Rattle.std.specs.Prelude.{◌&&◌, count_by, is_none, is_some}
use Rattle.std.specs.List.{find, AllByRecursion}
use Rattle.ow_records.specs.declared.ids.Id.{Id}
use Rattle.ow_records.specs.declared.record.Record.{Record}
use Rattle.ow_records.specs.declared.activations.Activation.{Activation}
use Rattle.ow_floor.specs.declared.runs.Run.{Run}
use Rattle.ow_records.specs.Id.{same_id}
use Rattle.ow_records.specs.Records.{is_of_id}
use Rattle.ow_floor.specs.Trace.{Trace, Item, End, Opened, Resumed, Accepted, Ordered, Prewarming, Removed, Begun, Answered, Lost, Gone, Ended, Drawn, Fired, Swept, Drained, Reopened, Archived, accepted, accepted_after, carrier, end_of, ends, ends_after, fired_after, record_of, recorded, records, records_after, standing_by}
use Rattle.ow_floor.specs.Trace as trace
use Rattle.ow_floor.specs.Laws.{IsSound, times}
use Rattle.ow_floor.proofs.Alters.{same_id_refl}
use Rattle.ow_floor.proofs.Apart.{turned}
use Rattle.ow_floor.proofs.Fires.{accepted_once, times-append}
use Rattle.ow_floor.proofs.Firsts.{all_more, find_push, or_new}
use Rattle.ow_floor.proofs.Tallies.{one_if, times-push}
use Rattle.ow_tenant.specs.Queue.{with_one}
use Rattle.ow_tenant.specs.Notes.{Note, Notes, ended, fired, invoked, is_ended, is_invoked, is_recent as is_recent_note, is_recent_fire as is_recent_fire_note, latest}
use Rattle.ow_tenant.specs.Notes as notes
use Rattle.ow_counts.specs.Counts.{busy, concurrent, fires, is_charged, is_open, is_uncaused, minute}
use Rattle.ow_counts.specs.View.{AreUpTo, CountsView, StandsFor, is_end, is_invocation, noted_after, noted_if, notes_of}
use Rattle.ow_counts.proofs.Counting.{and-false, and-true, count-cons, count-each, count-none, count-push, count-same, count_all, is_out}

-- ---- by items

-- an item that is neither an acceptance nor an end nor a fire
record IsOther (item : Item) : Type 0 where
  accepted : (xs : List Activation) → accepted_after item xs ≡ xs
  ends : (es : List End) → ends_after item es ≡ es
  fired : (rs : List Record) → fired_after item rs ≡ rs
  records : (rs : List Record) → records_after item rs ≡ rs
  notes : (ns : Notes) → noted_after item ns ≡ ns

by_items : (P : Trace → Type 0) → P [] → ((a : Activation) (T : Trace) → P T → P (Accepted a ∷ T)) → ((e : End) (T : Trace) → P T → P (Ended e ∷ T)) → ((r : Record) (T : Trace) → P T → P (Fired r ∷ T))
    → ((item : Item) (T : Trace) → IsOther item → P T → P (item ∷ T)) → (T : Trace) → P T
by_items P start accepts ends_one fires other [] = start
by_items P start accepts ends_one fires other (Accepted a ∷ T) = accepts a T (by_items P start accepts ends_one fires other T)
by_items P start accepts ends_one fires other (Ended e ∷ T) = ends_one e T (by_items P start accepts ends_one fires other T)
by_items P start accepts ends_one fires other (Fired r ∷ T) = fires r T (by_items P start accepts ends_one fires other T)
by_items P start accepts ends_one fires other (Opened pool wants ∷ T) = other (Opened pool wants) T (record { accepted = λ xs. refl; ends = λ es. refl; fired = λ xs. refl; records = λ xs. refl; notes = λ ns. refl }) (by_items P start accepts ends_one fires other T)
by_items P start accepts ends_one fires other (Resumed counts rs ∷ T) = other (Resumed counts rs) T (record { accepted = λ xs. refl; ends = λ es. refl; fired = λ xs. refl; records = λ xs. refl; notes = λ ns. refl }) (by_items P start accepts ends_one fires other T)
by_items P start accepts ends_one fires other (Ordered run key ∷ T) = other (Ordered run key) T (record { accepted = λ xs. refl; ends = λ es. refl; fired = λ xs. refl; records = λ xs. refl; notes = λ ns. refl }) (by_items P start accepts ends_one fires other T)
by_items P start accepts ends_one fires other (Prewarming order at ∷ T) = other (Prewarming order at) T (record { accepted = λ xs. refl; ends = λ es. refl; fired = λ xs. refl; records = λ xs. refl; notes = λ ns. refl }) (by_items P start accepts ends_one fires other T)
by_items P start accepts ends_one fires other (Removed containers at ∷ T) = other (Removed containers at) T (record { accepted = λ xs. refl; ends = λ es. refl; fired = λ xs. refl; records = λ xs. refl; notes = λ ns. refl }) (by_items P start accepts ends_one fires other T)
by_items P start accepts ends_one fires other (Begun run at ∷ T) = other (Begun run at) T (record { accepted = λ xs. refl; ends = λ es. refl; fired = λ xs. refl; records = λ xs. refl; notes = λ ns. refl }) (by_items P start accepts ends_one fires other T)
by_items P start accepts ends_one fires other (Answered run alive at ∷ T) = other (Answered run alive at) T (record { accepted = λ xs. refl; ends = λ es. refl; fired = λ xs. refl; records = λ xs. refl; notes = λ ns. refl }) (by_items P start accepts ends_one fires other T)
by_items P start accepts ends_one fires other (Lost run at ∷ T) = other (Lost run at) T (record { accepted = λ xs. refl; ends = λ es. refl; fired = λ xs. refl; records = λ xs. refl; notes = λ ns. refl }) (by_items P start accepts ends_one fires other T)
by_items P start accepts ends_one fires other (Gone slot generation at ∷ T) = other (Gone slot generation at) T (record { accepted = λ xs. refl; ends = λ es. refl; fired = λ xs. refl; records = λ xs. refl; notes = λ ns. refl }) (by_items P start accepts ends_one fires other T)
by_items P start accepts ends_one fires other (Drawn id at ∷ T) = other (Drawn id at) T (record { accepted = λ xs. refl; ends = λ es. refl; fired = λ xs. refl; records = λ xs. refl; notes = λ ns. refl }) (by_items P start accepts ends_one fires other T)
by_items P start accepts ends_one fires other (Swept at ∷ T) = other (Swept at) T (record { accepted = λ xs. refl; ends = λ es. refl; fired = λ xs. refl; records = λ xs. refl; notes = λ ns. refl }) (by_items P start accepts ends_one fires other T)
by_items P start accepts ends_one fires other (Drained at ∷ T) = other (Drained at) T (record { accepted = λ xs. refl; ends = λ es. refl; fired = λ xs. refl; records = λ xs. refl; notes = λ ns. refl }) (by_items P start accepts ends_one fires other T)
by_items P start accepts ends_one fires other (Reopened at ∷ T) = other (Reopened at) T (record { accepted = λ xs. refl; ends = λ es. refl; fired = λ xs. refl; records = λ xs. refl; notes = λ ns. refl }) (by_items P start accepts ends_one fires other T)
by_items P start accepts ends_one fires other (Archived until at ∷ T) = other (Archived until at) T (record { accepted = λ xs. refl; ends = λ es. refl; fired = λ xs. refl; records = λ xs. refl; notes = λ ns. refl }) (by_items P start accepts ends_one fires other T)

-- ---- what is noted

pub noted-count : (q : Note → Bool) (b : Bool) (note : Note) (ns : Notes) → count_by q (noted_if b note ns) ≡ with_one (b && q note) (count_by q ns)
noted-count q true note ns = count-cons q note ns
noted-count q false note ns = refl

first-more : (b : Bool) (m n k : ℕ) → with_one b (m + n + k) ≡ with_one b m + n + k
first-more true m n k = omega arith
first-more false m n k = refl

second-more : (b : Bool) (m n k : ℕ) → with_one b (m + n + k) ≡ m + with_one b n + k
second-more true m n k = omega arith
second-more false m n k = refl

third-more : (b : Bool) (m n k : ℕ) → with_one b (m + n + k) ≡ m + n + with_one b k
third-more true m n k = omega arith
third-more false m n k = refl

-- of the notes that pass, those of acceptances, of ends and of fires
abbrev came : (Note → Bool) → Activation → Bool
came q a = is_none a.cause && q (invoked a.namespace a.at)

abbrev left : (Note → Bool) → End → Bool
left q e = is_none e.task.cause && q (ended e.task.namespace)

abbrev shot : (Note → Bool) → Record → Bool
shot q r = q (fired r.namespace r.span.start)

-- the notes are these
abbrev IsCounted : (Note → Bool) → Trace → Type 0
IsCounted q T = count_by q (notes_of T) ≡ count_by (came q) (accepted T) + count_by (left q) (ends T) + count_by (shot q) (trace.fired T)

counted : (q : Note → Bool) (T : Trace) → IsCounted q T
counted q = by_items (IsCounted q) refl
    (λ a T rest.
    noted-count q (is_none a.cause) (invoked a.namespace a.at) (notes_of T)
    ∙ (ap (with_one (came q a)) rest ∙ (first-more (came q a) (count_by (came q) (accepted T)) (count_by (left q) (ends T)) (count_by (shot q) (trace.fired T))
    ∙ ap (λ (n : ℕ). n + count_by (left q) (ends T) + count_by (shot q) (trace.fired T)) (sym (count-push (came q) a (accepted T))))))
    (λ e T rest.
    noted-count q (is_none e.task.cause) (ended e.task.namespace) (notes_of T)
    ∙ (ap (with_one (left q e)) rest ∙ (second-more (left q e) (count_by (came q) (accepted T)) (count_by (left q) (ends T)) (count_by (shot q) (trace.fired T))
    ∙ ap (λ (n : ℕ). count_by (came q) (accepted T) + n + count_by (shot q) (trace.fired T)) (sym (count-push (left q) e (ends T))))))
    (λ r T rest.
    count-cons q (fired r.namespace r.span.start) (notes_of T)
    ∙ (ap (with_one (shot q r)) rest ∙ (third-more (shot q r) (count_by (came q) (accepted T)) (count_by (left q) (ends T)) (count_by (shot q) (trace.fired T))
    ∙ ap (λ (n : ℕ). count_by (came q) (accepted T) + count_by (left q) (ends T) + n) (sym (count-push (shot q) r (trace.fired T))))))
    (λ item T other rest. rw (other.notes (notes_of T), other.accepted (accepted T), other.ends (ends T), other.fired (trace.fired T)) rest)

no_came : (q : Note → Bool) (xs : List Activation) → ((n : List ℕ) (at : ℕ) → q (invoked n at) ≡ false) → count_by (came q) xs ≡ 0
no_came q xs none = count-none (came q) xs (λ a. ap (λ (b : Bool). is_none a.cause && b) (none a.namespace a.at) ∙ and-false (is_none a.cause))

no_left : (q : Note → Bool) (es : List End) → ((n : List ℕ) → q (ended n) ≡ false) → count_by (left q) es ≡ 0
no_left q es none = count-none (left q) es (λ e. ap (λ (b : Bool). is_none e.task.cause && b) (none e.task.namespace) ∙ and-false (is_none e.task.cause))

no_shot : (q : Note → Bool) (rs : List Record) → ((n : List ℕ) (at : ℕ) → q (fired n at) ≡ false) → count_by (shot q) rs ≡ 0
no_shot q rs none = count-none (shot q) rs (λ r. none r.namespace r.span.start)

-- of notes of invocations
invoked_counts : (q : Note → Bool) (T : Trace) → ((n : List ℕ) → q (ended n) ≡ false) → ((n : List ℕ) (at : ℕ) → q (fired n at) ≡ false) → count_by q (notes_of T) ≡ count_by (came q) (accepted T)
invoked_counts q T ends_no fires_no =
    let a = no_left q (ends T) ends_no in
    let b = no_shot q (trace.fired T) fires_no in
    omega (arith, counted q T, a, b)

-- of notes of ends
ended_counts : (q : Note → Bool) (T : Trace) → ((n : List ℕ) (at : ℕ) → q (invoked n at) ≡ false) → ((n : List ℕ) (at : ℕ) → q (fired n at) ≡ false) → count_by q (notes_of T) ≡ count_by (left q) (ends T)
ended_counts q T invoked_no fires_no =
    let a = no_came q (accepted T) invoked_no in
    let b = no_shot q (trace.fired T) fires_no in
    omega (arith, counted q T, a, b)

-- of notes of fires
fired_counts : (q : Note → Bool) (T : Trace) → ((n : List ℕ) (at : ℕ) → q (invoked n at) ≡ false) → ((n : List ℕ) → q (ended n) ≡ false) → count_by q (notes_of T) ≡ count_by (shot q) (trace.fired T)
fired_counts q T invoked_no ends_no =
    let a = no_came q (accepted T) invoked_no in
    let b = no_left q (ends T) ends_no in
    omega (arith, counted q T, a, b)

-- ---- what is open

-- the ids of records are those of ends and of fires
recorded_ids : (id : Id) (T : Trace) → times id (recorded T) ≡ times id (map (λ e. e.task.id) (ends T)) + times id (map (λ r. r.id) (trace.fired T))
recorded_ids id = by_items (λ T. times id (recorded T) ≡ times id (map (λ e. e.task.id) (ends T)) + times id (map (λ r. r.id) (trace.fired T))) refl
    (λ a T rest. rest)
    (λ e T rest.
    let more = times-push (λ (r : Record). r.id) id (records T) (record_of e) in
    let ended_more = times-push (λ (x : End). x.task.id) id (ends T) e in
    omega (arith, rest, more, ended_more))
    (λ r T rest.
    let more = times-push (λ (x : Record). x.id) id (records T) r in
    let fired_more = times-push (λ (x : Record). x.id) id (trace.fired T) r in
    omega (arith, rest, more, fired_more))
    (λ item T other rest. rw (other.records (records T), other.ends (ends T), other.fired (trace.fired T)) rest)

map-push : (e : End) (es : List End) → map record_of (es ++ e ∷ []) ≡ map record_of es ++ record_of e ∷ []
map-push e [] = refl
map-push e (x ∷ es) = ap (λ (rs : List Record). record_of x ∷ rs) (map-push e es)

none_new : (p : Record → Bool) (x : Record) (o w : Option Record) → is_none o ≡ is_none w → is_none (or_new p x o) ≡ is_none (or_new p x w)
none_new p x None None same = refl
none_new p x None (Some r) same = cc
none_new p x (Some r) None same = cc
none_new p x (Some r) (Some s) same = refl

record_other : (r : Record) (id : Id) (o : Option Record) → same_id r.id id ≡ false → or_new (is_of_id id) r o ≡ o
record_other r id None t = rw t refl
record_other r id (Some x) t = refl

zero_false : (b : Bool) → one_if b ≡ 0 → b ≡ false
zero_false true e = absurd (omega (arith, e))
zero_false false e = refl

-- an id of no fire has a record exactly where it has an end
ended_found : (id : Id) (T : Trace) → times id (map (λ r. r.id) (trace.fired T)) ≡ 0 → is_none (find (is_of_id id) (records T)) ≡ is_out (ends T) id
ended_found id = by_items (λ T. times id (map (λ r. r.id) (trace.fired T)) ≡ 0 → is_none (find (is_of_id id) (records T)) ≡ is_out (ends T) id) (λ none. refl)
    (λ a T rest none. rest none)
    (λ e T rest none.
    ap (λ (o : Option Record). is_none o) (find_push (is_of_id id) (record_of e) (records T))
    ∙ (none_new (is_of_id id) (record_of e) (find (is_of_id id) (records T)) (find (is_of_id id) (map record_of (ends T))) (rest none)
    ∙ (ap (λ (o : Option Record). is_none o) (sym (find_push (is_of_id id) (record_of e) (map record_of (ends T)))) ∙ ap (λ (rs : List Record). is_none (find (is_of_id id) rs)) (sym (map-push e (ends T))))))
    (λ r T rest none.
    let more = times-push (λ (x : Record). x.id) id (trace.fired T) r in
    let other : one_if (same_id id r.id) ≡ 0 = omega (arith, more, none) in
    ap (λ (o : Option Record). is_none o) (find_push (is_of_id id) r (records T) ∙ record_other r id (find (is_of_id id) (records T)) (turned id r.id (zero_false (same_id id r.id) other)))
    ∙ rest (omega (arith, more, none)))
    (λ item T other rest none.
    rw (other.records (records T), other.ends (ends T)) (rest (ap (λ (rs : List Record). times id (map (λ r. r.id) rs)) (sym (other.fired (trace.fired T))) ∙ none)))

stands_open : (o : Option Record) (r : Option Run) → is_some (standing_by o r) ≡ is_none o
stands_open None r = refl
stands_open (Some e) r = refl

open_out : (T : Trace) (a : Activation) → times a.id (map (λ r. r.id) (trace.fired T)) ≡ 0 → is_open T a ≡ is_out (ends T) a.id
open_out T a none = stands_open (end_of T a.id) (carrier T a.id) ∙ ended_found a.id T none

ended_once : (T : Trace) → IsSound T → (id : Id) → times id (map (λ e. e.task.id) (ends T)) ≤ 1
ended_once T sound id =
    let is = recorded_ids id T in
    let all = sound.once id in
    let one = accepted_once T id sound in
    omega (arith, is, all, one)

all_there : (f : Id → ℕ) (xs : List Activation) → ((id : Id) → times id (map (λ a. a.id) xs) ≤ f id) → AllByRecursion (λ a. 1 ≤ f a.id) xs
all_there f [] most = tt
all_there f (a ∷ xs) most =
    let own = same_id_refl a.id in
    let here : 1 + times a.id (map (λ x. x.id) xs) ≤ f a.id = rw own at (most a.id) in
    (omega (arith, here), all_there f xs (λ id. let h = most id in omega (arith, h)))

-- no activation has the id of a fire
none_fired : (T : Trace) → IsSound T → AllByRecursion (λ a. times a.id (map (λ r. r.id) (trace.fired T)) ≡ 0) (accepted T)
none_fired T sound =
    all_more _ (λ a. times a.id (map (λ r. r.id) (trace.fired T)) ≡ 0) (accepted T)
    (λ a there.
    let both = times-append a.id (map (λ x. x.id) (accepted T)) (map (λ r. r.id) (trace.fired T)) in
    let most = accepted_once T a.id sound in
    omega (arith, there, both, most))
    (all_there (λ id. times id (map (λ x. x.id) (accepted T))) (accepted T) (λ id. omega arith))

-- in a sound trace what was accepted has not ended, or has ended
pub open_or_ended : (p : Activation → Bool) (T : Trace) → IsSound T
    → count_by p (accepted T) ≡ count_by (λ a. p a && is_open T a) (accepted T) + count_by (λ e. p e.task) (ends T)
open_or_ended p T sound =
    count_all p (ends T) (accepted T) sound.apart sound.known (ended_once T sound)
    ∙ ap (λ (n : ℕ). n + count_by (λ e. p e.task) (ends T)) (sym (count-each (λ a. p a && is_open T a) (λ a. p a && is_out (ends T) a.id) (accepted T)
    (all_more _ _ (accepted T) (λ a none. ap (λ (b : Bool). p a && b) (open_out T a none)) (none_fired T sound))))

-- ---- the counts

pub minute_noted : (T : Trace) (n : List ℕ) (now : ℕ) → notes.minute (notes_of T) n now ≡ minute T n now
unfolding minute
minute_noted T n now = invoked_counts (is_recent_note n now) T (λ k. refl) (λ k at. refl)

pub fires_noted : (T : Trace) (n : List ℕ) (now : ℕ) → notes.fires (notes_of T) n now ≡ fires T n now
unfolding fires
fires_noted T n now = fired_counts (is_recent_fire_note n now) T (λ k at. refl) (λ k. refl)

pub concurrent_noted : (T : Trace) (n : List ℕ) → IsSound T → notes.concurrent (notes_of T) n ≡ concurrent T n
unfolding concurrent
concurrent_noted T n sound =
    let came = invoked_counts (is_invoked n) T (λ k. refl) (λ k at. refl) in
    let out = ended_counts (is_ended n) T (λ k at. refl) (λ k at. refl) in
    let both = open_or_ended (is_charged n) T sound in
    omega (arith, came, out, both)

pub ended_were_invoked : (T : Trace) (n : List ℕ) → IsSound T → count_by (is_ended n) (notes_of T) ≤ count_by (is_invoked n) (notes_of T)
ended_were_invoked T n sound =
    let came = invoked_counts (is_invoked n) T (λ k. refl) (λ k at. refl) in
    let out = ended_counts (is_ended n) T (λ k at. refl) (λ k at. refl) in
    let both = open_or_ended (is_charged n) T sound in
    omega (arith, came, out, both)

-- and so it is of all together
pub all_ended_were_invoked : (T : Trace) → IsSound T → count_by is_end (notes_of T) ≤ count_by is_invocation (notes_of T)
all_ended_were_invoked T sound =
    let came = invoked_counts is_invocation T (λ k. refl) (λ k at. refl) in
    let out = ended_counts is_end T (λ k at. refl) (λ k at. refl) in
    let ins = count-same (λ a. is_none a.cause && true) is_uncaused (accepted T) (λ a. and-true (is_none a.cause)) in
    let outs = count-same (λ e. is_none e.task.cause && true) (λ e. is_uncaused e.task) (ends T) (λ e. and-true (is_none e.task.cause)) in
    let both = open_or_ended is_uncaused T sound in
    omega (arith, came, out, ins, outs, both)

pub busy_of : (T : Trace) (n : ℕ) → n + count_by is_end (notes_of T) ≡ count_by is_invocation (notes_of T) → IsSound T → n ≡ busy T
unfolding busy
busy_of T n is sound =
    let came = invoked_counts is_invocation T (λ k. refl) (λ k at. refl) in
    let out = ended_counts is_end T (λ k at. refl) (λ k at. refl) in
    let ins = count-same (λ a. is_none a.cause && true) is_uncaused (accepted T) (λ a. and-true (is_none a.cause)) in
    let outs = count-same (λ e. is_none e.task.cause && true) (λ e. is_uncaused e.task) (ends T) (λ e. and-true (is_none e.task.cause)) in
    let both = open_or_ended is_uncaused T sound in
    omega (arith, is, came, out, ins, outs, both)

pub busy_noted : (T : Trace) (v : CountsView) → StandsFor v (notes_of T) → IsSound T → v.busy ≡ busy T
busy_noted T v h sound = busy_of T v.busy h.busy sound

-- ---- moments

all_push : {X : Type 0} (P : X → Type 0) (x : X) (xs : List X) → AllByRecursion P (xs ++ x ∷ []) → AllByRecursion P xs × P x
all_push P x [] all = (tt, all.0)
all_push P x (y ∷ xs) all = let rest = all_push P x xs all.1 in ((all.0, rest.0), rest.1)

noted_latest : (now : ℕ) (b : Bool) (n : List ℕ) (at : ℕ) (ns : Notes) → latest ns ≤ now → at ≤ now → latest (noted_if b (invoked n at) ns) ≤ now
noted_latest now true n at ns rest here = omega (arith, rest, here)
noted_latest now false n at ns rest here = rest

ended_latest : (now : ℕ) (b : Bool) (n : List ℕ) (ns : Notes) → latest ns ≤ now → latest (noted_if b (ended n) ns) ≤ now
ended_latest now true n ns rest = omega (arith, rest)
ended_latest now false n ns rest = rest

-- no note is of a later moment than the activations and the fires
pub latest_noted : (now : ℕ) (T : Trace) → AreUpTo now T → latest (notes_of T) ≤ now
latest_noted now = by_items (λ T. AreUpTo now T → latest (notes_of T) ≤ now) (λ all. omega arith)
    (λ a T rest all. let both = all_push (λ a. a.at ≤ now) a (accepted T) all.0 in noted_latest now (is_none a.cause) a.namespace a.at (notes_of T) (rest (both.0, all.1)) both.1)
    (λ e T rest all. ended_latest now (is_none e.task.cause) e.task.namespace (notes_of T) (rest all))
    (λ r T rest all.
    let both = all_push (λ r. r.span.start ≤ now) r (trace.fired T) all.1 in
    let before = rest (all.0, both.0) in
    let here = both.1 in
    omega (arith, before, here))
    (λ item T other rest all.
    rw (other.notes (notes_of T))
    (rest (
      subst (λ (xs : List Activation). AllByRecursion (λ a. a.at ≤ now) xs) (other.accepted (accepted T)) all.0,
      subst (λ (rs : List Record). AllByRecursion (λ r. r.span.start ≤ now) rs) (other.fired (trace.fired T)) all.1,
    )))
