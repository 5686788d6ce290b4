-- What is noted of what moved.
use Rattle.std.proofs.Common.{◌≡◌, ◌≢◌, ◌+◌, ◌-◌, ◌≤◌, ◌<◌, ◌^◌, ◌++◌, ℕ, zero, suc, Bool, true, false, not, List, [], ◌∷◌, Option, Some, None, Result, length, drop, take, get_or, drop-cons, add-one, refl, sym, ap, ◌∙◌, subst, arith}
use Rattle.std.specs.Prelude.{◌&&◌, count_by, is_none, is_some}
use Rattle.std.specs.Str.{bytes_eq}
use Rattle.std.specs.List.{AllByRecursion}
use Rattle.std.proofs.lemmas.List.{take_more}
use Rattle.std.proofs.lemmas.Slice.Eq.{bytes_eq-Decides}
use Rattle.ow_records.specs.declared.activations.Activation.{Activation}
use Rattle.ow_records.specs.declared.ids.Id.{Id}
use Rattle.ow_floor.specs.declared.moves.Moved.{Moved}
use Rattle.ow_floor.specs.declared.moves.Moved.TheVariants as moves
use Rattle.ow_floor.specs.Calls.{moved, moved_by}
use Rattle.ow_floor.specs.Growth.{AreRight}
use Rattle.ow_floor.specs.Laws.{IsSound}
use Rattle.ow_records.specs.declared.record.Record.{Record}
use Rattle.ow_floor.specs.Trace.{Item, Trace, Accepted, Drawn, Ended, Fired, accepted, accepted_after, fired_after, shown}
use Rattle.ow_floor.specs.Trace as trace
use Rattle.ow_floor.proofs.Soundness.{sound_items}
use Rattle.ow_value.specs.ByText.{ByText}
use Rattle.ow_tenant.specs.Notes.{Note, Notes, ended, fired, invoked, is_ended, is_invoked, is_recent as is_recent_note}
use Rattle.ow_tenant.specs.Notes as notes
use Rattle.ow_tenant.specs.declared.limits.NamespaceLimits.{NamespaceLimits}
use Rattle.ow_tenant.specs.Queue.{with_one}
use Rattle.ow_tenant.specs.Windows.{HasRoom, HasRoomIn, KeepsOthers, window_of}
use Rattle.ow_tenant.specs.declared.window.Window.{Window}
use Rattle.ow_counts.specs.Counts.{admitted, admitted_by, busy, concurrent, minute}
use Rattle.ow_counts.specs.View.{AreNotedAt, AreUpTo, CountsView, HasRoomOf, HasRoomOver, IsNotedAt, IsRoomy, MayAllMove, MayEnd, MayMove, StandsFor, comes, comes_at, comes_in, is_end, is_invocation, leaves, leaves_in, noted_after, noted_if, noted_moved, noted_moves, notes_of}
use Rattle.ow_counts.specs.declared.refusal.LimitRefusal.{LimitRefusal}
use Rattle.ow_counts.proofs.Counting.{and-false, and-true, count-cons}
use Rattle.ow_counts.proofs.Noting.{all_ended_were_invoked, busy_of, concurrent_noted, ended_were_invoked, latest_noted, minute_noted, noted-count}

-- ---- the notes of what moved are those of its items

noted_append : (xs ys : List Moved) (ns : Notes) → noted_moves (xs ++ ys) ns ≡ noted_moves ys (noted_moves xs ns)
noted_append [] ys ns = refl
noted_append (m ∷ xs) ys ns = noted_append xs ys (noted_moved m ns)

noted_one : (item : Item) (ns : Notes) → noted_moves (moved_by item) ns ≡ noted_after item ns
noted_one (Accepted a) ns = refl
noted_one (Ended e) ns = refl
noted_one (Drawn id at) ns = refl
noted_one (Fired r) ns = refl
noted_one item ns = refl

pub noted_items : (items T : Trace) → notes_of (items ++ T) ≡ noted_moves (moved items) (notes_of T)
noted_items [] T = refl
noted_items (item ∷ items) T =
    ap (noted_after item) (noted_items items T) ∙ sym (noted_append (moved items) (moved_by item) (notes_of T) ∙ noted_one item (noted_moves (moved items) (notes_of T)))

-- ---- each may move

may_append : (xs ys : List Moved) (ns : Notes) → MayAllMove xs ns → MayAllMove ys (noted_moves xs ns) → MayAllMove (xs ++ ys) ns
may_append [] ys ns may rest = rest
may_append (m ∷ xs) ys ns may rest = (may.0, may_append xs ys (noted_moved m ns) may.1 rest)

same : (n : List ℕ) → bytes_eq n n ≡ true
same n = (bytes_eq-Decides n n).1 refl

-- what has ended of a sound trace had not ended before
end_may : (b : Bool) (n : List ℕ) (ns : Notes) → b ≡ true → count_by (is_ended n) (noted_if b (ended n) ns) ≤ count_by (is_invoked n) (noted_if b (ended n) ns)
    → count_by is_end (noted_if b (ended n) ns) ≤ count_by is_invocation (noted_if b (ended n) ns) → MayEnd n ns
end_may false n ns here each all = cc
end_may true n ns here each all =
    let one : count_by (is_ended n) (ended n ∷ ns) ≡ count_by (is_ended n) ns + 1 = count-cons (is_ended n) (ended n) ns ∙ ap (λ (b : Bool). with_one b (count_by (is_ended n) ns)) (same n) in
    record {
      here = omega (arith, each, one, count-cons (is_invoked n) (ended n) ns);
      everywhere = omega (arith, all, count-cons is_end (ended n) ns, count-cons is_invocation (ended n) ns);
    }

all_push : {X : Type 0} (P : X → Type 0) (a : X) (xs : List X) → AllByRecursion P xs → P a → AllByRecursion P (xs ++ a ∷ [])
all_push P a [] all here = (here, tt)
all_push P a (x ∷ xs) all here = (all.0, all_push P a xs all.1 here)

up_accepted : (now : ℕ) (item : Item) (xs : List Activation) → IsNotedAt now item → AllByRecursion (λ a. a.at ≤ now) xs → AllByRecursion (λ a. a.at ≤ now) (accepted_after item xs)
up_accepted now (Accepted a) xs at up = all_push (λ a. a.at ≤ now) a xs up (omega (arith, at))
up_accepted now item xs at up = up

up_fired : (now : ℕ) (item : Item) (rs : List Record) → IsNotedAt now item → AllByRecursion (λ r. r.span.start ≤ now) rs → AllByRecursion (λ r. r.span.start ≤ now) (fired_after item rs)
up_fired now (Fired r) rs at up = all_push (λ r. r.span.start ≤ now) r rs up (omega (arith, at))
up_fired now item rs at up = up

pub up_items : (now : ℕ) (items T : Trace) → AreUpTo now T → AreNotedAt now items → AreUpTo now (items ++ T)
up_items now [] T up at = up
up_items now (item ∷ items) T up at =
    let before = up_items now items T up at.1 in
    (up_accepted now item (accepted (items ++ T)) at.0 before.0, up_fired now item (trace.fired (items ++ T)) at.0 before.1)

may_one : (now : ℕ) (item : Item) (U : Trace) → IsSound (item ∷ U) → AreUpTo now U → IsNotedAt now item → MayAllMove (moved_by item) (notes_of U)
may_one now (Accepted a) U sound up at = (omega (arith, latest_noted now U up, at), tt)
may_one now (Ended e) U sound up at = (
  λ none. end_may (is_none e.task.cause) e.task.namespace (notes_of U) none (ended_were_invoked (Ended e ∷ U) e.task.namespace sound) (all_ended_were_invoked (Ended e ∷ U) sound),
  tt,
)
may_one now (Drawn id t) U sound up at = (tt, tt)
may_one now (Fired r) U sound up at = (omega (arith, latest_noted now U up, at), tt)
may_one now item U sound up at = tt

pub may_items : (now : ℕ) (items T : Trace) → IsSound T → AreRight items (shown T) → AreUpTo now T → AreNotedAt now items → MayAllMove (moved items) (notes_of T)
may_items now [] T sound right up at = tt
may_items now (item ∷ items) T sound right up at =
    may_append (moved items) (moved_by item) (notes_of T) (may_items now items T sound right.1 up at.1)
    (subst (λ (ns : Notes). MayAllMove (moved_by item) ns) (noted_items items T)
    (may_one now item (items ++ T) (sound_items (item ∷ items) T right sound).0 (up_items now items T up at.1) at.0))

-- ---- room

less_room : (k n : ℕ) (w : Window) → k ≤ n → HasRoom n n w → HasRoom k k w
less_room k n w le h = record { invoked = omega (arith, le, h.invoked); fired = omega (arith, le, h.fired); counter = omega (arith, le, h.counter) }

-- without the fires
pub without_fires : (n : ℕ) (w : Window) → HasRoom n n w → HasRoom n 0 w
without_fires n w h = record { invoked = h.invoked; fired = omega arith; counter = h.counter }

-- without the invocations
pub without_invocations : (n : ℕ) (w : Window) → HasRoom n n w → HasRoom 0 n w
without_invocations n w h = record { invoked = omega arith; fired = h.fired; counter = omega (arith, h.counter) }

pub fewer_fires : (n : ℕ) (w : Window) → HasRoom n (n + 1) w → HasRoom n n w
fewer_fires n w h = record { invoked = h.invoked; fired = omega (arith, h.fired); counter = h.counter }

pub fewer_invocations : (n : ℕ) (w : Window) → HasRoom (n + 1) n w → HasRoom n n w
fewer_invocations n w h = record { invoked = omega (arith, h.invoked); fired = h.fired; counter = omega (arith, h.counter) }

-- with one note less
pub one_less : (name : List ℕ) (n : ℕ) (v : CountsView) → HasRoomOf name (n + 1) v → HasRoomOf name n v
one_less name n v h = less_room n (n + 1) (window_of name v.windows) (omega arith) h

-- what the test of a cause returns
pub none_so : {A : Type 0} (o : Option A) (b : Bool) → is_some o ≡ not b → is_none o ≡ b
none_so None true e = refl
none_so None false e = cc
none_so (Some x) true e = cc
none_so (Some x) false e = refl

pub noted_yes : (b : Bool) (note : Note) (ns : Notes) → b ≡ true → noted_if b note ns ≡ note ∷ ns
noted_yes true note ns is = refl
noted_yes false note ns is = cc

pub noted_no : (b : Bool) (note : Note) (ns : Notes) → b ≡ false → noted_if b note ns ≡ ns
noted_no true note ns is = cc
noted_no false note ns is = refl

pub less_roomy : (k n : ℕ) (v : CountsView) (m : Moved) → k ≤ n → IsRoomy n v m → IsRoomy k v m
less_roomy k n v (moves.Accepted a) le h = λ none. less_room k n (window_of a.namespace v.windows) le (h none)
less_roomy k n v (moves.Ended r) le h = tt
less_roomy k n v (moves.Drawn id) le h = tt
less_roomy k n v (moves.Fired r) le h = less_room k n (window_of r.namespace v.windows) le h

-- what becomes of the room of one namespace becomes of all, where the windows of the others stay
pub all_rooms : (n : List ℕ) (old new : ByText Window) (k j : ℕ) → j ≤ k → KeepsOthers n old new → (HasRoomIn n k k old → HasRoomIn n j j new) → (name : List ℕ) → HasRoomIn name k k old → HasRoomIn name j j new
all_rooms n old new k j le keep here name = by (bytes_eq name n) refl
  where
    by : (b : Bool) → bytes_eq name n ≡ b → HasRoomIn name k k old → HasRoomIn name j j new
    by true e =
        let is : name ≡ n = (bytes_eq-Decides name n).0 e in
        subst (λ (m : List ℕ). HasRoomIn m k k old → HasRoomIn m j j new) (sym is) here
    by false e =
        let ne : name ≢ n = λ q. cc (e, (bytes_eq-Decides name n).1 q) in
        λ h. subst (λ (w : Window). HasRoom j j w) (sym (keep name ne)) (less_room j k (window_of name old) le h)

pub rooms_moved : (v w : CountsView) (k j : ℕ) → ((name : List ℕ) → HasRoomOf name k v → HasRoomOf name j w) → (m : Moved) → IsRoomy k v m → IsRoomy j w m
rooms_moved v w k j rooms (moves.Accepted a) h = λ none. rooms a.namespace (h none)
rooms_moved v w k j rooms (moves.Ended r) h = tt
rooms_moved v w k j rooms (moves.Drawn id) h = tt
rooms_moved v w k j rooms (moves.Fired r) h = rooms r.namespace h

all_roomy : (v w : CountsView) (k j : ℕ) (ms : List Moved) → ((m : Moved) → IsRoomy k v m → IsRoomy j w m) → AllByRecursion (IsRoomy k v) ms → AllByRecursion (IsRoomy j w) ms
all_roomy v w k j [] rooms all = tt
all_roomy v w k j (m ∷ ms) rooms all = (rooms m all.0, all_roomy v w k j ms rooms all.1)

pub roomy_now : (n : ℕ) (m : Moved) (ms : List Moved) (v : CountsView) → HasRoomOver n (m ∷ ms) v → IsRoomy 1 v m × (v.busy + 1 < 2 ^ 64)
roomy_now n m ms v room = (less_roomy 1 n v m (omega (arith, room.within)) room.windows.0, omega (arith, room.within, room.counter))

-- with one note less
room_next : (n : ℕ) (m : Moved) (ms : List Moved) (v w : CountsView) → ((k : ℕ) (x : Moved) → IsRoomy (k + 1) v x → IsRoomy k w x) → w.busy ≤ v.busy + 1 → HasRoomOver n (m ∷ ms) v → HasRoomOver (n - 1) ms w
room_next n m ms v w rooms more room =
    let one : n ≡ n - 1 + 1 = omega (arith, room.within) in
    record {
      windows = all_roomy v w n (n - 1) ms (λ x h. rooms (n - 1) x (subst (λ (k : ℕ). IsRoomy k v x) one h)) room.windows.1;
      counter = omega (arith, more, room.counter, room.within);
      within = omega (arith, room.within);
    }

-- ---- one after another

-- the counts are those of notes after which the rest is noted
abbrev pub NotesFrom : List Moved → List Moved → CountsView → CountsView → Type 0
NotesFrom rest ms old new = (ns : Notes) → MayAllMove ms ns → StandsFor old ns → (mid : Notes) × (StandsFor new mid × MayAllMove rest mid × (noted_moves rest mid ≡ noted_moves ms ns))

next_of : (ms : List Moved) (i : ℕ) (m : Moved) → i < length ms → m ≡ get_or ms i m → drop i ms ≡ m ∷ drop (i + 1) ms
next_of ms i m h is = drop-cons ms i m h ∙ (ap (λ (x : Moved). x ∷ drop (suc i) ms) (sym is) ∙ ap (λ (n : ℕ). m ∷ drop n ms) (sym (add-one i)))

one_noted : (rest ms : List Moved) (m : Moved) (old new newer : CountsView) → NotesFrom (m ∷ rest) ms old new
    → ((ns : Notes) → MayMove m ns → StandsFor new ns → StandsFor newer (noted_moved m ns)) → NotesFrom rest ms old newer
one_noted rest ms m old new newer so_far note ns may stands =
    let h = so_far ns may stands in (noted_moved m h.0, (note h.0 h.1.1.0 h.1.0, h.1.1.1, h.1.2))

-- there is room for the note of the next
pub next_roomy : (ms : List Moved) (i : ℕ) (m : Moved) (v : CountsView) → i < length ms → m ≡ get_or ms i m → HasRoomOver (length ms - i) (drop i ms) v → IsRoomy 1 v m × (v.busy + 1 < 2 ^ 64)
next_roomy ms i m v h is room = roomy_now (length ms - i) m (drop (i + 1) ms) v (subst (λ (rest : List Moved). HasRoomOver (length ms - i) rest v) (next_of ms i m h is) room)

pub next_noted : (ms : List Moved) (i : ℕ) (m : Moved) (old new newer : CountsView) → i < length ms → m ≡ get_or ms i m → NotesFrom (drop i ms) ms old new
    → ((ns : Notes) → MayMove m ns → StandsFor new ns → StandsFor newer (noted_moved m ns)) → NotesFrom (drop (i + 1) ms) ms old newer
next_noted ms i m old new newer h is so_far note =
    one_noted (drop (i + 1) ms) ms m old new newer (subst (λ (rest : List Moved). NotesFrom rest ms old new) (next_of ms i m h is) so_far) note

pub next_room : (ms : List Moved) (i : ℕ) (m : Moved) (v w : CountsView) → i < length ms → m ≡ get_or ms i m → ((k : ℕ) (x : Moved) → IsRoomy (k + 1) v x → IsRoomy k w x) → w.busy ≤ v.busy + 1
    → HasRoomOver (length ms - i) (drop i ms) v → HasRoomOver (length ms - (i + 1)) (drop (i + 1) ms) w
next_room ms i m v w h is rooms more room =
    let less : length ms - i - 1 ≡ length ms - (i + 1) = omega arith in
    subst (λ (n : ℕ). HasRoomOver n (drop (i + 1) ms) w) less
    (room_next (length ms - i) m (drop (i + 1) ms) v w rooms more (subst (λ (rest : List Moved). HasRoomOver (length ms - i) rest v) (next_of ms i m h is) room))

-- ---- room for one after another

-- there is room for that many notes of each of the first
pub front_roomy : (n : ℕ) (ms : List Moved) (i : ℕ) (m : Moved) (v w : CountsView) → i < length ms → m ≡ get_or ms i m → AllByRecursion (IsRoomy n v) (take i ms)
    → ((x : Moved) → IsRoomy n v x → IsRoomy n w x) → IsRoomy n w m → AllByRecursion (IsRoomy n w) (take (i + 1) ms)
front_roomy n ms i m v w h is so_far keeps here =
    let front : take (i + 1) ms ≡ take i ms ++ m ∷ [] = take_more ms i m h ∙ ap (λ (x : Moved). take i ms ++ x ∷ []) (sym is) in
    subst (λ (xs : List Moved). AllByRecursion (IsRoomy n w) xs) (sym front) (all_push (IsRoomy n w) m (take i ms) (all_roomy v w n n (take i ms) keeps so_far) here)

-- at the end all is noted
pub last_noted : (ms : List Moved) (i : ℕ) (old new : CountsView) → length ms ≤ i → NotesFrom (drop i ms) ms old new → (ns : Notes) → MayAllMove ms ns → StandsFor old ns → StandsFor new (noted_moves ms ns)
last_noted ms i old new past so_far ns may h =
    let none : drop i ms ≡ [] = none_left ms i past in
    let done = so_far ns may h in
    let is : done.0 ≡ noted_moves ms ns = ap (λ (rest : List Moved). noted_moves rest done.0) (sym none) ∙ done.1.2 in
    subst (λ (mid : Notes). StandsFor new mid) is done.1.0
  where
    none_left : (xs : List Moved) (n : ℕ) → length xs ≤ n → drop n xs ≡ []
    none_left [] zero le = refl
    none_left [] (suc n) le = refl
    none_left (x ∷ xs) zero le = absurd (omega (arith, le))
    none_left (x ∷ xs) (suc n) le = none_left xs n (omega (arith, le))

-- ---- how many

with_one-shift : (b : Bool) (m n : ℕ) → with_one b m + n ≡ m + with_one b n
with_one-shift true m n = omega arith
with_one-shift false m n = refl

-- a note is of a move that passes alike
one_count : (q : Note → Bool) (p : Moved → Bool) → ((a : Activation) → (is_none a.cause && q (invoked a.namespace a.at)) ≡ p (moves.Accepted a)) → ((r : Record) → (is_none r.cause && q (ended r.namespace)) ≡ p (moves.Ended r))
    → ((id : Id) → false ≡ p (moves.Drawn id)) → ((r : Record) → q (fired r.namespace r.span.start) ≡ p (moves.Fired r)) → (m : Moved) (ns : Notes) → count_by q (noted_moved m ns) ≡ with_one (p m) (count_by q ns)
one_count q p of_accepted of_ended of_drawn of_fired (moves.Accepted a) ns = noted-count q (is_none a.cause) (invoked a.namespace a.at) ns ∙ ap (λ (b : Bool). with_one b (count_by q ns)) (of_accepted a)
one_count q p of_accepted of_ended of_drawn of_fired (moves.Ended r) ns = noted-count q (is_none r.cause) (ended r.namespace) ns ∙ ap (λ (b : Bool). with_one b (count_by q ns)) (of_ended r)
one_count q p of_accepted of_ended of_drawn of_fired (moves.Drawn id) ns = ap (λ (b : Bool). with_one b (count_by q ns)) (of_drawn id)
one_count q p of_accepted of_ended of_drawn of_fired (moves.Fired r) ns = count-cons q (fired r.namespace r.span.start) ns ∙ ap (λ (b : Bool). with_one b (count_by q ns)) (of_fired r)

all_count : (q : Note → Bool) (p : Moved → Bool) → ((m : Moved) (ns : Notes) → count_by q (noted_moved m ns) ≡ with_one (p m) (count_by q ns)) → (ms : List Moved) (ns : Notes)
    → count_by q (noted_moves ms ns) ≡ count_by q ns + count_by p ms
all_count q p one [] ns = omega arith
all_count q p one (m ∷ ms) ns =
    all_count q p one ms (noted_moved m ns)
    ∙ (ap (λ (k : ℕ). k + count_by p ms) (one m ns) ∙ (with_one-shift (p m) (count_by q ns) (count_by p ms) ∙ ap (λ (k : ℕ). count_by q ns + k) (sym (count-cons p m ms))))

minute_count : (n : List ℕ) (now : ℕ) (ms : List Moved) (ns : Notes) → notes.minute (noted_moves ms ns) n now ≡ notes.minute ns n now + count_by (comes_at n now) ms
minute_count n now ms ns = all_count (is_recent_note n now) (comes_at n now) (one_count (is_recent_note n now) (comes_at n now) (λ a. refl) (λ r. and-false (is_none r.cause)) (λ id. refl) (λ r. refl)) ms ns

invoked_count : (n : List ℕ) (ms : List Moved) (ns : Notes) → count_by (is_invoked n) (noted_moves ms ns) ≡ count_by (is_invoked n) ns + count_by (comes_in n) ms
invoked_count n ms ns = all_count (is_invoked n) (comes_in n) (one_count (is_invoked n) (comes_in n) (λ a. refl) (λ r. and-false (is_none r.cause)) (λ id. refl) (λ r. refl)) ms ns

ended_count : (n : List ℕ) (ms : List Moved) (ns : Notes) → count_by (is_ended n) (noted_moves ms ns) ≡ count_by (is_ended n) ns + count_by (leaves_in n) ms
ended_count n ms ns = all_count (is_ended n) (leaves_in n) (one_count (is_ended n) (leaves_in n) (λ a. and-false (is_none a.cause)) (λ r. refl) (λ id. refl) (λ r. refl)) ms ns

invocations_count : (ms : List Moved) (ns : Notes) → count_by is_invocation (noted_moves ms ns) ≡ count_by is_invocation ns + count_by comes ms
invocations_count ms ns = all_count is_invocation comes (one_count is_invocation comes (λ a. and-true (is_none a.cause)) (λ r. and-false (is_none r.cause)) (λ id. refl) (λ r. refl)) ms ns

ends_count : (ms : List Moved) (ns : Notes) → count_by is_end (noted_moves ms ns) ≡ count_by is_end ns + count_by leaves ms
ends_count ms ns = all_count is_end leaves (one_count is_end leaves (λ a. and-false (is_none a.cause)) (λ r. and-true (is_none r.cause)) (λ id. refl) (λ r. refl)) ms ns

-- what is admitted after these items, by the counts before them and what moved
pub admitted_after : (T items : Trace) (v : CountsView) (n : List ℕ) (limits : NamespaceLimits) (now m o b minutes running all : ℕ) (answer : Result (Unit {0}) LimitRefusal)
    → StandsFor v (notes_of T) → IsSound (items ++ T) → m ≡ notes.minute (notes_of T) n now → o ≡ notes.concurrent (notes_of T) n → b ≡ v.busy
    → minutes ≡ m + count_by (comes_at n now) (moved items) - 0 → running ≡ o + count_by (comes_in n) (moved items) - count_by (leaves_in n) (moved items)
    → all ≡ b + count_by comes (moved items) - count_by leaves (moved items) → answer ≡ admitted_by all minutes running limits → answer ≡ admitted (items ++ T) n limits now
admitted_after T items v n limits now m o b minutes running all answer stands sound m_is o_is b_is minutes_is running_is all_is answer_is =
    let U : Trace = items ++ T in
    let ms = moved items in
    let ns = notes_of T in
    let noted : notes_of (items ++ T) ≡ noted_moves ms ns = noted_items items T in
    let minute_at : minutes ≡ minute U n now
    = (let h = minute_count n now ms ns in let e : minutes ≡ notes.minute (noted_moves ms ns) n now = omega (arith, h, m_is, minutes_is) in e) ∙ (ap (λ (xs : Notes). notes.minute xs n now) (sym noted) ∙ minute_noted U n now) in
    let before = (stands.windows n).ended in
    let running_at : running ≡ concurrent U n
    = (let h = invoked_count n ms ns in let k = ended_count n ms ns in let e : running ≡ notes.concurrent (noted_moves ms ns) n = omega (arith, h, k, o_is, running_is, before) in e)
    ∙ (ap (λ (xs : Notes). notes.concurrent xs n) (sym noted) ∙ concurrent_noted U n sound) in
    let less : count_by is_end (noted_moves ms ns) ≤ count_by is_invocation (noted_moves ms ns) = subst (λ (xs : Notes). count_by is_end xs ≤ count_by is_invocation xs) noted (all_ended_were_invoked U sound) in
    let all_now : all + count_by is_end (noted_moves ms ns) ≡ count_by is_invocation (noted_moves ms ns)
    = (let h = invocations_count ms ns in let k = ends_count ms ns in omega (arith, h, k, b_is, all_is, less, stands.busy)) in
    let all_at : all ≡ busy U = busy_of U all (subst (λ (xs : Notes). all + count_by is_end xs ≡ count_by is_invocation xs) (sym noted) all_now) sound in
    answer_is ∙ (ap (λ (k : ℕ). admitted_by k minutes running limits) all_at ∙ (ap (λ (k : ℕ). admitted_by (busy U) k running limits) minute_at ∙ ap (λ (k : ℕ). admitted_by (busy U) (minute U n now) k limits) running_at))
