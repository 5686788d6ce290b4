-- What the driver does, step by step.
use Rattle.std.proofs.Common.{◌≡◌, ◌+◌, ◌++◌, ◌<◌, ◌≤◌, ℕ, zero, suc, List, [], ◌∷◌, Option, Some, None, length, drop, get_or, refl, sym, ap, ◌∙◌, append-nil, append_assoc, arith, subst}
use Rattle.std.specs.Prelude.{option_map, IsSome, OnErr, Result, Ok, Err}
use Rattle.std.specs.List.{find}
use Rattle.std.specs.Option.{option_or}
use Rattle.std.proofs.Math.Seq.{drop-append_seam}
use Rattle.std.proofs.lemmas.List.{at_drop_all, at_drop_more}
use Rattle.ow_packages.specs.Access.{Standing}
use Rattle.ow_records.specs.declared.activations.Activation.{Activation}
use Rattle.ow_records.specs.declared.frames.Frame.{Frame}
use Rattle.ow_records.specs.declared.frames.Used.{Used}
use Rattle.ow_records.specs.declared.ids.Id.{Id}
use Rattle.ow_records.specs.declared.outcomes.Ending.{Ending}
use Rattle.ow_records.specs.declared.outcomes.Ending.TheVariants.{Composed}
use Rattle.ow_records.specs.Response.{ResponseView}
use Rattle.ow_traits.specs.declared.replies.RunReply.{RunReply}
use Rattle.ow_floor.specs.Calls.{answered_items, busy_run, compose_items, end_items, moved, moved_by, recorded_with, reply_items, reply_recorded}
use Rattle.ow_floor.specs.Frames.{children_of, is_frame}
use Rattle.ow_floor.specs.Laws.{Grows, Stands}
use Rattle.ow_floor.specs.Trace.{Accepted, Answered, Begun, Drained, Drawn, Ended, Fired, Gone, Item, Lost, Opened, Ordered, Prewarming, Removed, Reopened, Archived, Resumed, Swept, Trace, frames, open_items, shown, task_by}
use Rattle.ow_floor.specs.View.{Shown, is_of}
use Rattle.ow_floor.specs.declared.activations.Open.{Open}
use Rattle.ow_floor.specs.declared.moves.Moved.{Moved}
use Rattle.ow_floor.specs.declared.runs.Run.{Run}
use Rattle.ow_floor.proofs.Making.{moved_append}
use Rattle.ow_trees.specs.Advance.{advance_in, advance_with, next_id, used_by}
use Rattle.ow_trees.specs.Driving.{IsCallable, IsFollowing, cause_of, items_of, last_next, made_items, next_by, next_moved}
use Rattle.ow_trees.specs.Driven.{IsAdvance}
use Rattle.ow_trees.specs.Steps.{item_of, items_by, next_in, next_of, step, step_by, stepped, steps_after}
use Rattle.ow_trees.specs.declared.advances.Advance.{Advance}
use Rattle.ow_trees.specs.declared.advances.Advance.TheVariants.{Call, End}
use Rattle.ow_trees.specs.declared.bounds.TheConstants.{MOST_STEPS}
use Rattle.ow_trees.proofs.Advancing.{advance_does}
use Rattle.ow_trees.proofs.Coming.{after_none, next_planned, stepped_none}

-- ---- one step

pub or_none : {X : Type 0} (o : Option X) → option_or o None ≡ o
or_none None = refl
or_none (Some x) = refl

pub or_assoc : {X : Type 0} (a b c : Option X) → option_or (option_or a b) c ≡ option_or a (option_or b c)
or_assoc None b c = refl
or_assoc (Some x) b c = refl

pub next_of_items : (o : Option Item) → next_in (items_of o) ≡ next_by o
next_of_items None = refl
next_of_items (Some item) = or_none (next_of item)

callable_of : (rs : Standing) (v : Shown) (a : Activation) (f : Frame) (adv : Advance) → IsAdvance rs (next_id v.drawn a.id.namespace) a (used_by (find (is_frame a.top) v.frames)) f adv → IsCallable adv v.drawn
callable_of rs v a f (Call plan) does = next_planned rs v.drawn a _ f plan does
callable_of rs v a f (End r) does = tt

-- a child that is called has the next id
pub callable : (rs : Standing) (v : Shown) (a : Option Activation) (f : Option Frame) (adv : Advance) → advance_in rs v a f ≡ Some adv → IsCallable adv v.drawn
callable rs v None f adv e = cc
callable rs v (Some a) None adv e = cc
callable rs v (Some a) (Some f) adv e = callable_of rs v a f adv (advance_does rs (next_id v.drawn a.id.namespace) a (used_by (find (is_frame a.top) v.frames)) f adv e)

item_made : (at : ℕ) (id : Id) (T : Trace) (o : Open) (f : Frame) (adv : Advance) → find (is_of id) (open_items T) ≡ Some o → find (is_frame id) (frames T) ≡ Some f
    → item_of at o.task f adv ∷ [] ≡ made_items at id adv T
item_made at id T o f (Call plan) here framed = refl
item_made at id T o f (End r) here framed = rw (here, framed) refl

made_by : (rs : Standing) (at : ℕ) (id : Id) (T : Trace) (o : Option Open) (f : Option Frame) (adv : Advance) → find (is_of id) (open_items T) ≡ o → find (is_frame id) (frames T) ≡ f
    → advance_in rs (shown T) (task_by o) f ≡ Some adv → items_of (step_by rs at (shown T) (task_by o) f) ≡ made_items at id adv T
made_by rs at id T None f adv here framed e = cc
made_by rs at id T (Some o) None adv here framed e = cc
made_by rs at id T (Some o) (Some f) adv here framed e = ap (λ (m : Option Advance). items_of (option_map (item_of at o.task f) m)) e ∙ item_made at id T o f adv here framed

-- what is done next, on a floor
abbrev pub advance_at : Standing → Shown → Id → Option Advance
advance_at rs v id = advance_in rs v (task_by (find (is_of id) v.open_items)) (find (is_frame id) v.frames)

-- of what is open under the id, and its frame
pub advance_found : (rs : Standing) (v : Shown) (id next : Id) (a : Activation) (used : Used) (f : Frame) → Some a ≡ task_by (find (is_of id) v.open_items) → Some f ≡ find (is_frame id) v.frames
    → next ≡ next_id v.drawn a.id.namespace → used ≡ used_by (find (is_frame a.top) v.frames) → advance_with rs next a used f ≡ advance_at rs v id
advance_found rs v id next a used f here framed is_next is_used =
    ap (λ (n : Id). advance_with rs n a used f) is_next
    ∙ (ap (λ (u : Used). advance_with rs (next_id v.drawn a.id.namespace) a u f) is_used
    ∙ (ap (λ (x : Option Activation). advance_in rs v x (Some f)) here ∙ ap (λ (x : Option Frame). advance_in rs v (task_by (find (is_of id) v.open_items)) x) framed))

pub advance_closed : (rs : Standing) (v : Shown) (id : Id) → None ≡ task_by (find (is_of id) v.open_items) → None ≡ advance_at rs v id
advance_closed rs v id closed = ap (λ (x : Option Activation). advance_in rs v x (find (is_frame id) v.frames)) closed

unframed_by : (rs : Standing) (v : Shown) (a : Option Activation) → None ≡ advance_in rs v a None
unframed_by rs v None = refl
unframed_by rs v (Some a) = refl

pub advance_unframed : (rs : Standing) (v : Shown) (id : Id) → None ≡ find (is_frame id) v.frames → None ≡ advance_at rs v id
advance_unframed rs v id none = unframed_by rs v (task_by (find (is_of id) v.open_items)) ∙ ap (λ (x : Option Frame). advance_in rs v (task_by (find (is_of id) v.open_items)) x) none

pub made_step : (rs : Standing) (at : ℕ) (id : Id) (v : Shown) (T : Trace) (adv : Advance) → advance_at rs v id ≡ Some adv → Stands v T → items_of (step rs at T id) ≡ made_items at id adv T
made_step rs at id v T adv e st =
    made_by rs at id T (find (is_of id) (open_items T)) (find (is_frame id) (frames T)) adv refl refl (subst (λ (u : Shown). advance_at rs u id ≡ Some adv) st.is e)

none_by : (rs : Standing) (at : ℕ) (v : Shown) (a : Option Activation) (f : Option Frame) → advance_in rs v a f ≡ None → step_by rs at v a f ≡ None
none_by rs at v None f e = refl
none_by rs at v (Some a) None e = refl
none_by rs at v (Some a) (Some f) e = ap (option_map (item_of at a f)) e

pub no_step : (rs : Standing) (at : ℕ) (id : Id) (v : Shown) (T : Trace) → advance_at rs v id ≡ None → Stands v T → step rs at T id ≡ None
no_step rs at id v T e st =
    none_by rs at (shown T) (task_by (find (is_of id) (open_items T))) (find (is_frame id) (frames T)) (subst (λ (u : Shown). advance_at rs u id ≡ None) st.is e)

end_next : (at : ℕ) (ending : Ending) (o : Option Open) → cause_of (task_by o) ≡ next_in (end_items at ending None o)
end_next at ending None = refl
end_next at ending (Some o) = sym (or_none o.task.cause)

-- after the end of a composite its cause may owe a step
pub cause_next : (at : ℕ) (id : Id) (r : ResponseView) (v : Shown) (T : Trace) → Stands v T → cause_of (task_by (find (is_of id) v.open_items)) ≡ next_in (compose_items at id r T)
cause_next at id r v T st =
    ap (λ (u : Shown). cause_of (task_by (find (is_of id) u.open_items))) st.is ∙ end_next at (Composed r (children_of (find (is_frame id) (frames T)))) (find (is_of id) (open_items T))

-- ---- several steps

abbrev pub IsMoved : (Trace → Trace) → Shown → List Moved → List Moved → Type 0
IsMoved items v before after = (T : Trace) → Stands v T → after ≡ before ++ moved (items T)

pub after_grows : (rs : Standing) (at : ℕ) (items : Trace → Trace) (next : Option Id) (u v w : Shown) → Grows u v items → Grows v w (λ T. stepped MOST_STEPS rs at T next)
    → ((T : Trace) → Stands u T → next ≡ next_in (items T)) → Grows u w (λ T. steps_after rs at T (items T))
after_grows rs at items next u v w first second is T st =
    let end = second (items T ++ T) (first T st) in
    let same = ap (λ n. stepped MOST_STEPS rs at (items T ++ T) n ++ (items T ++ T)) (is T st) ∙ sym (append_assoc (stepped MOST_STEPS rs at (items T ++ T) (next_in (items T))) (items T) T) in
    subst (λ (U : Trace). Stands w U) same end

pub after_moved : (rs : Standing) (at : ℕ) (items : Trace → Trace) (next : Option Id) (u v : Shown) (before middle after : List Moved) → Grows u v items → IsMoved items u before middle
    → IsMoved (λ T. stepped MOST_STEPS rs at T next) v middle after → ((T : Trace) → Stands u T → next ≡ next_in (items T)) → IsMoved (λ T. steps_after rs at T (items T)) u before after
after_moved rs at items next u v before middle after grows first second is T st =
    let steps = stepped MOST_STEPS rs at (items T ++ T) (next_in (items T)) in
    second (items T ++ T) (grows T st)
    ∙ (ap (λ n. middle ++ moved (stepped MOST_STEPS rs at (items T ++ T) n)) (is T st)
    ∙ (ap (λ ms. ms ++ moved steps) (first T st) ∙ (append_assoc before (moved (items T)) (moved steps) ∙ ap (λ ms. before ++ ms) (sym (moved_append steps (items T))))))

pub following_start : (rs : Standing) (at : ℕ) (first : Option Id) (T : Trace) (v : Shown) (before : List Moved) → Stands v T → IsFollowing rs at first MOST_STEPS first T v before before
following_start rs at first T v before st = record {
  made = [];
  stands = st;
  rest = append-nil (stepped MOST_STEPS rs at T first);
  noted = sym (append-nil before);
}

rest_by : (n : ℕ) (rs : Standing) (at : ℕ) (U made : Trace) (o : Option Item)
    → stepped n rs at (items_of o ++ U) (next_by o) ++ (items_of o ++ made) ≡ items_by o (λ item. stepped n rs at (item ∷ U) (next_of item) ++ item ∷ []) ++ made
rest_by n rs at U made None = ap (λ xs. xs ++ made) (stepped_none n rs at U)
rest_by n rs at U made (Some item) = sym (append_assoc (stepped n rs at (item ∷ U) (next_of item)) (item ∷ []) made)

rest_next : (left n : ℕ) (rs : Standing) (at : ℕ) (id : Id) (U made : Trace) → n + 1 ≡ left
    → stepped n rs at (items_of (step rs at U id) ++ U) (next_by (step rs at U id)) ++ (items_of (step rs at U id) ++ made) ≡ stepped left rs at U (Some id) ++ made
rest_next zero n rs at id U made e = absurd (omega (arith, e))
rest_next (suc left) n rs at id U made e =
    let same : n ≡ left = omega (arith, e) in
    ap (λ m. stepped m rs at (items_of (step rs at U id) ++ U) (next_by (step rs at U id)) ++ (items_of (step rs at U id) ++ made)) same ∙ rest_by left rs at U made (step rs at U id)

pub following_next : (rs : Standing) (at : ℕ) (first : Option Id) (left n : ℕ) (id : Id) (next : Option Id) (T : Trace) (v w : Shown) (start before after : List Moved) → n + 1 ≡ left
    → Grows v w (λ U. items_of (step rs at U id)) → IsMoved (λ U. items_of (step rs at U id)) v before after → ((U : Trace) → Stands v U → next ≡ next_by (step rs at U id))
    → IsFollowing rs at first left (Some id) T v start before → IsFollowing rs at first n next T w start after
following_next rs at first left n id next T v w start before after less grows moves is f =
    let U = f.made ++ T in
    let items = items_of (step rs at U id) in
    record {
      made = items ++ f.made;
      stands = subst (λ (V : Trace). Stands w V) (sym (append_assoc items f.made T)) (grows U f.stands);
      rest = ap (λ V. stepped n rs at V next ++ (items ++ f.made)) (append_assoc items f.made T)
          ∙ (ap (λ m. stepped n rs at (items ++ U) m ++ (items ++ f.made)) (is U f.stands) ∙ (rest_next left n rs at id U f.made less ∙ f.rest));
      noted = moves U f.stands ∙ (ap (λ ms. ms ++ moved items) f.noted ∙ (append_assoc start (moved f.made) (moved items) ∙ ap (λ ms. start ++ ms) (sym (moved_append items f.made))));
    }

-- nothing more is owed, or no step is left
pub record IsFollowed (rs : Standing) (at : ℕ) (first : Option Id) (T : Trace) (w : Shown) (start after : List Moved) : Type 0 where
  pub stands : Stands w (stepped MOST_STEPS rs at T first ++ T)
  pub noted : after ≡ start ++ moved (stepped MOST_STEPS rs at T first)

followed : (rs : Standing) (at : ℕ) (first : Option Id) (left : ℕ) (next : Option Id) (T : Trace) (w : Shown) (start after : List Moved) → (f : IsFollowing rs at first left next T w start after)
    → stepped left rs at (f.made ++ T) next ≡ [] → IsFollowed rs at first T w start after
followed rs at first left next T w start after f none =
    let same : f.made ≡ stepped MOST_STEPS rs at T first = sym (ap (λ xs. xs ++ f.made) none) ∙ f.rest in
    record { stands = subst (λ (xs : Trace). Stands w (xs ++ T)) same f.stands; noted = f.noted ∙ ap (λ xs. start ++ moved xs) same }

pub followed_none : (rs : Standing) (at : ℕ) (first : Option Id) (left : ℕ) (T : Trace) (w : Shown) (start after : List Moved) → IsFollowing rs at first left None T w start after
    → IsFollowed rs at first T w start after
followed_none rs at first left T w start after f = followed rs at first left None T w start after f (stepped_none left rs at (f.made ++ T))

followed_zero : (rs : Standing) (at : ℕ) (first : Option Id) (left : ℕ) (next : Option Id) (T : Trace) (w : Shown) (start after : List Moved) → left ≡ 0 → IsFollowing rs at first left next T w start after
    → IsFollowed rs at first T w start after
followed_zero rs at first zero next T w start after e f = followed rs at first zero next T w start after f refl
followed_zero rs at first (suc left) next T w start after e f = absurd (omega (arith, e))

pub followed_all : (rs : Standing) (at : ℕ) (first : Option Id) (left : ℕ) (next : Option Id) (T : Trace) (w : Shown) (start after : List Moved) → left ≤ 0 → IsFollowing rs at first left next T w start after
    → IsFollowed rs at first T w start after
followed_all rs at first left next T w start after e f = followed_zero rs at first left next T w start after (omega (arith, e)) f

-- ---- what moved

last_append : (xs ys : List Moved) → last_next (xs ++ ys) ≡ option_or (last_next ys) (last_next xs)
last_append [] ys = sym (or_none (last_next ys))
last_append (m ∷ ms) ys = ap (λ o. option_or o (next_moved m)) (last_append ms ys) ∙ or_assoc (last_next ys) (last_next ms) (next_moved m)

moved_next : (item : Item) → last_next (moved_by item) ≡ next_of item
moved_next (Opened pool wants) = refl
moved_next (Resumed counts records) = refl
moved_next (Accepted a) = refl
moved_next (Ordered run key) = refl
moved_next (Prewarming order at) = refl
moved_next (Removed containers at) = refl
moved_next (Begun run at) = refl
moved_next (Answered run alive at) = refl
moved_next (Lost run at) = refl
moved_next (Gone slot generation at) = refl
moved_next (Ended e) = refl
moved_next (Drawn id at) = refl
moved_next (Fired r) = refl
moved_next (Swept at) = refl
moved_next (Drained at) = refl
moved_next (Reopened at) = refl
moved_next (Archived until at) = refl

pub last_moved : (items : Trace) → last_next (moved items) ≡ next_in items
last_moved [] = refl
last_moved (item ∷ items) =
    last_append (moved items) (moved_by item) ∙ (ap (λ o. option_or o (last_next (moved items))) (moved_next item) ∙ ap (λ o. option_or (next_of item) o) (last_moved items))

-- one more move is looked at
pub last_step : (ms : List Moved) (i : ℕ) (m : Moved) (next : Option Id) → i < length ms → m ≡ get_or ms i m
    → option_or (last_next (drop (i + 1) ms)) (option_or (next_moved m) next) ≡ option_or (last_next (drop i ms)) next
last_step ms i m next within is =
    let rest = last_next (drop (i + 1) ms) in
    let here : last_next (drop i ms) ≡ option_or rest (next_moved m) = at_drop_more last_next ms i m within ∙ ap (λ (x : Moved). option_or rest (next_moved x)) (sym is) in
    sym (ap (λ o. option_or o next) here ∙ or_assoc rest (next_moved m) next)

pub last_end : (ms : List Moved) (i : ℕ) (next : Option Id) → length ms ≤ i → option_or (last_next (drop i ms)) next ≡ next
last_end ms i next past = ap (λ o. option_or o next) (at_drop_all last_next ms i past)

-- the moves after the first ones determine which composite may owe a step
pub next_told : (before after : List Moved) (items : Trace) (start : ℕ) (next : Option Id) → start ≡ length before → after ≡ before ++ moved items → next ≡ last_next (drop start after) → next ≡ next_in items
next_told before after items start next size is told =
    told ∙ (ap (λ n. last_next (drop n after)) size ∙ (ap (λ ms. last_next (drop (length before) ms)) is ∙ (ap last_next (drop-append_seam before (moved items)) ∙ last_moved items)))

-- ---- replies

unanswered_by : (at run : ℕ) (reply : RunReply) (v : Shown) (r : Option Run) → recorded_with run v r ≡ None → reply_items at run reply v r ≡ []
unanswered_by at run reply v None e = refl
unanswered_by at run reply v (Some r) e = cc

-- a reply of a run that no slot is busy with adds nothing
pub unanswered : (rs : Standing) (at run : ℕ) (reply : RunReply) (T : Trace) → None ≡ reply_recorded run T → answered_items at run reply T ≡ steps_after rs at T (answered_items at run reply T)
unanswered rs at run reply T e =
    let none = unanswered_by at run reply (shown T) (busy_run run (shown T)) (sym e) in
    sym (after_none rs at (answered_items at run reply T) T (ap next_in none))

busy_by : (run : ℕ) (v : Shown) (recorded : Option ℕ) (r : Option Run) → Some recorded ≡ recorded_with run v r → IsSome r
busy_by run v recorded None e = cc
busy_by run v recorded (Some r) e = refl

pub is_busy : (run : ℕ) (recorded : Option ℕ) (T : Trace) → Some recorded ≡ reply_recorded run T → IsSome (busy_run run (shown T))
is_busy run recorded T e = busy_by run (shown T) recorded (busy_run run (shown T)) e

-- what holds anyway holds on an error
pub on_err : {A E : Type 0} (r : Result A E) (P : Type 0) → P → OnErr r P
on_err (Ok a) P h = tt
on_err (Err e) P h = h
