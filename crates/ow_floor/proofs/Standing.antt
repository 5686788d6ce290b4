-- The states of activations after each item.
use Rattle.std.proofs.Common.{◌≡◌, ◌≤◌, ℕ, Bool, true, false, cond, not, List, [], ◌∷◌, Option, Some, None, refl, sym, ap, ◌∙◌, subst}
use Rattle.std.specs.List.{find, AllByRecursion}
use Rattle.ow_records.specs.declared.ids.Id.{Id}
use Rattle.std.proofs.lemmas.Bool.{and_parts}
use Rattle.ow_records.specs.Form.{is_composite}
use Rattle.ow_records.specs.Id.{same_id}
use Rattle.ow_records.specs.declared.activations.Activation.{Activation}
use Rattle.ow_floor.specs.declared.activations.Open.{Open}
use Rattle.ow_records.specs.declared.record.Record.{Record}
use Rattle.ow_floor.specs.declared.activations.State.{State}
use Rattle.ow_floor.specs.declared.activations.State.TheVariants.{Waiting, Running}
use Rattle.ow_floor.specs.declared.runs.Run.{Run}
use Rattle.ow_slots.specs.declared.keys.Key.{Key}
use Rattle.ow_records.specs.Records.{is_of_id}
use Rattle.ow_slots.specs.Slots.{change_first}
use Rattle.ow_floor.specs.View.{waits, is_waiting, is_of, is_number, carries, with_state, remove_first, begun, head}
use Rattle.ow_floor.specs.Trace.{Trace, End, Ordered, Begun, Lost, Ended, Fired, Reopened, accepted, records, record_of, live, open_items, end_of, carrier, live_run, standing, standing_by, state_by, shown}
use Rattle.ow_floor.specs.Laws.{loads, IsApart, IsSound}
use Rattle.ow_floor.proofs.Alters.{opens, but_at, agree, alter, alter_update, alter_remove, opens_same}
use Rattle.ow_floor.proofs.Apart.{turned}
use Rattle.ow_floor.proofs.Tallies.{eq_of}
use Rattle.ow_floor.proofs.Firsts.{all_more, none_tail, or_new, find_push, find_other, none_left, remove_none}

-- ---- what is found has that state

abbrev pub IsFound : (Open → Bool) → (Id → Option State) → Open → Type 0
IsFound p f o = (f o.task.id ≡ Some o.state) × (p o ≡ true)

found_test : (p : Open → Bool) (f : Id → Option State) (a : Activation) (q : State) (os : List Open) (o : Open) (b : Bool) → p (record { task = a; state = q }) ≡ b
    → f a.id ≡ Some q → (find p os ≡ Some o → IsFound p f o) → find p (record { task = a; state = q } ∷ os) ≡ Some o → IsFound p f o
found_test p f a q os o true t is rest found =
    let e : Some (record { task = a; state = q }) ≡ Some o = rw t at found in
    let same : record { task = a; state = q } ≡ o = cc in
    subst (λ (z : Open). IsFound p f z) same (is, t)
found_test p f a q os o false t is rest found = rest (rw t at found)

found_here : (p : Open → Bool) (f : Id → Option State) (a : Activation) (xs : List Activation) (o : Open) (s : Option State) → f a.id ≡ s
    → (find p (opens f xs) ≡ Some o → IsFound p f o) → find p (opens f (a ∷ xs)) ≡ Some o → IsFound p f o
found_here p f a xs o None is rest found = rest (rw is at found)
found_here p f a xs o (Some q) is rest found = found_test p f a q (opens f xs) o (p (record { task = a; state = q })) refl is rest (rw is at found)

pub is_found : (p : Open → Bool) (f : Id → Option State) (xs : List Activation) (o : Open) → find p (opens f xs) ≡ Some o → IsFound p f o
is_found p f [] o found = cc
is_found p f (a ∷ xs) o found = found_here p f a xs o (f a.id) refl (is_found p f xs o) found

-- ---- where nothing is found of an id, what changes that id alone changes nothing

same_at : (f g : Id → Option State) (id : Id) (a : Activation) (xs : List Activation) (s : Option State) → f a.id ≡ s
    → ((y : Id) → same_id id y ≡ false → g y ≡ f y) → ((y : Id) → f y ≡ None → g y ≡ f y)
    → find (is_of id) (opens f (a ∷ xs)) ≡ None → (g a.id ≡ f a.id) × (find (is_of id) (opens f xs) ≡ None)
same_at f g id a xs None e other none h = (none a.id e, rw e at h)
same_at f g id a xs (Some q) e other none h =
    let h' : find (is_of id) (record { task = a; state = q } ∷ opens f xs) ≡ None = rw e at h in
    let two = none_tail (is_of id) (record { task = a; state = q }) (opens f xs) (same_id a.id id) refl h' in
    (other a.id (turned a.id id two.0), two.1)

same_where : (f g : Id → Option State) (id : Id) (xs : List Activation)
    → ((y : Id) → same_id id y ≡ false → g y ≡ f y) → ((y : Id) → f y ≡ None → g y ≡ f y)
    → find (is_of id) (opens f xs) ≡ None → AllByRecursion (λ a. g a.id ≡ f a.id) xs
same_where f g id [] other none h = tt
same_where f g id (a ∷ xs) other none h =
    let two = same_at f g id a xs (f a.id) refl other none h in
    (two.0, same_where f g id xs other none two.1)

-- ---- after an end

ended_by : (e : Record) (y : Id) (o : Option Record) (c : Option Run) (b : Bool) → is_of_id y e ≡ b → standing_by (or_new (is_of_id y) e o) c ≡ cond b None (standing_by o c)
ended_by e y None c true t = rw t refl
ended_by e y None c false t = rw t refl
ended_by e y (Some z) c true t = refl
ended_by e y (Some z) c false t = refl

standing_ended : (e : End) (T : Trace) (y : Id) → standing (Ended e ∷ T) y ≡ but_at (standing T) e.task.id None y
standing_ended e T y = rw (find_push (is_of_id y) (record_of e) (records T)) (ended_by (record_of e) y (end_of T y) (carrier T y) (is_of_id y (record_of e)) refl)

pub open_ended : (e : End) (o : Open) (T : Trace) → find (is_of e.task.id) (open_items T) ≡ Some o → e.task ≡ o.task → IsSound T
    → open_items (Ended e ∷ T) ≡ remove_first (is_of e.task.id) (open_items T)
open_ended e o T found is sound =
    let same : e.task.id ≡ o.task.id = ap (λ (a : Activation). a.id) is in
    opens_same (standing (Ended e ∷ T)) (but_at (standing T) o.task.id None) (accepted T) (λ y. standing_ended e T y ∙ ap (λ n. but_at (standing T) n None y) same)
    ∙ (alter (is_of e.task.id) (standing T) None (accepted T) o sound.apart found ∙ alter_remove (is_of e.task.id) (open_items T))

-- ---- after the record of a fire

record_other : (r : Record) (y : Id) (o : Option Record) → is_of_id y r ≡ false → or_new (is_of_id y) r o ≡ o
record_other r y None t = rw t refl
record_other r y (Some x) t = refl

pub open_fired : (r : Record) (T : Trace) → IsApart r.id (accepted T) → open_items (Fired r ∷ T) ≡ open_items T
open_fired r T apart =
    agree (standing (Fired r ∷ T)) (standing T) (accepted T)
    (all_more _ (λ a. standing (Fired r ∷ T) a.id ≡ standing T a.id) (accepted T)
    (λ a differ. ap (λ (e : Option Record). standing_by e (carrier T a.id)) (find_push (is_of_id a.id) r (records T) ∙ record_other r a.id (end_of T a.id) differ.0)) apart)

-- ---- after an order

or_other : (r : Run) (y : Id) (o : Option Run) → carries y r ≡ false → or_new (carries y) r o ≡ o
or_other r y None t = rw t refl
or_other r y (Some x) t = refl

ordered_by : (r : Run) (T : Trace) (y : Id) (b : Bool) → carries y r ≡ b → end_of T r.id ≡ None → carrier T r.id ≡ None
    → standing_by (end_of T y) (or_new (carries y) r (carrier T y)) ≡ cond b (Some (Running r.number)) (standing T y)
ordered_by r T y true t unended free =
    let same : r.id ≡ y = eq_of r.id y t in
    let e0 : end_of T y ≡ None = subst (λ n. end_of T n ≡ None) same unended in
    let c0 : carrier T y ≡ None = subst (λ n. carrier T n ≡ None) same free in
    rw (e0, c0, t) refl
ordered_by r T y false t unended free = rw (or_other r y (carrier T y) t) refl

waits_by : (e : Option Record) (c : Option Run) → standing_by e c ≡ Some Waiting → (e ≡ None) × (c ≡ None)
waits_by None None h = (refl, refl)
waits_by None (Some r) h = cc
waits_by (Some e) c h = cc

waits_so : (s : State) → is_waiting s ≡ true → s ≡ Waiting
waits_so Waiting e = refl
waits_so (Running run) e = cc

pub head_waits : (o : Open) (T : Trace) → head (shown T) ≡ Some o → (end_of T o.task.id ≡ None) × (carrier T o.task.id ≡ None)
head_waits o T found =
    let h = is_found waits (standing T) (accepted T) o found in
    waits_by (end_of T o.task.id) (carrier T o.task.id) (h.0 ∙ ap Some (waits_so o.state (and_parts (is_waiting o.state) (not (is_composite o.task.form)) h.1).0))

pub open_ordered : (r : Run) (key : Key) (o : Open) (T : Trace) → head (shown T) ≡ Some o → r.id ≡ o.task.id → IsSound T
    → open_items (Ordered r key ∷ T) ≡ change_first waits (with_state (Running r.number)) (open_items T)
open_ordered r key o T found is sound =
    let same : o.task.id ≡ r.id = sym is in
    let free = head_waits o T found in
    let e0 : end_of T r.id ≡ None = subst (λ n. end_of T n ≡ None) same free.0 in
    let c0 : carrier T r.id ≡ None = subst (λ n. carrier T n ≡ None) same free.1 in
    let each : (y : Id) → standing (Ordered r key ∷ T) y ≡ but_at (standing T) r.id (Some (Running r.number)) y
    = λ y. rw (find_push (carries y) r (live T)) (ordered_by r T y (carries y r) refl e0 c0) in
    opens_same (standing (Ordered r key ∷ T)) (but_at (standing T) o.task.id (Some (Running r.number))) (accepted T)
    (λ y. each y ∙ ap (λ n. but_at (standing T) n (Some (Running r.number)) y) is)
    ∙ (alter waits (standing T) (Some (Running r.number)) (accepted T) o sound.apart found ∙ alter_update waits (Running r.number) (open_items T))

-- ---- after a reply, and after a loss

gone_by : (e : Option Record) (c d : Option Run) → standing_by e c ≡ None → standing_by e d ≡ standing_by e c
gone_by None c d h = cc
gone_by (Some e) c d h = refl

other_run : (run : ℕ) (r : Run) (T : Trace) (y : Id) → live_run T run ≡ Some r → same_id r.id y ≡ false
    → standing_by (end_of T y) (find (carries y) (remove_first (is_number run) (live T))) ≡ standing T y
other_run run r T y found t = ap (standing_by (end_of T y)) (find_other (is_number run) (carries y) r (live T) t found)

pub open_left : (run : ℕ) (r : Run) (T : Trace) → live_run T run ≡ Some r → find (is_of r.id) (open_items T) ≡ None
    → opens (λ y. standing_by (end_of T y) (find (carries y) (remove_first (is_number run) (live T)))) (accepted T) ≡ open_items T
open_left run r T found none =
    agree (λ y. standing_by (end_of T y) (find (carries y) (remove_first (is_number run) (live T)))) (standing T) (accepted T)
    (same_where (standing T) (λ y. standing_by (end_of T y) (find (carries y) (remove_first (is_number run) (live T)))) r.id (accepted T)
    (λ y t. other_run run r T y found t) (λ y h. gone_by (end_of T y) (carrier T y) _ h) none)

freed_by : (e : Option Record) (c : Option Run) (q : State) → standing_by e c ≡ Some q → standing_by e None ≡ Some Waiting
freed_by None c q h = refl
freed_by (Some e) c q h = cc

lost_by : (run : ℕ) (r : Run) (T : Trace) (q : State) (y : Id) (b : Bool) → same_id r.id y ≡ b → live_run T run ≡ Some r → loads r.id (live T) ≤ 1
    → standing T r.id ≡ Some q
    → standing_by (end_of T y) (find (carries y) (remove_first (is_number run) (live T))) ≡ cond b (Some Waiting) (standing T y)
lost_by run r T q y true t found one stands =
    let same : r.id ≡ y = eq_of r.id y t in
    let free = none_left (is_number run) (carries y) r (live T) t (subst (λ n. loads n (live T) ≤ 1) same one) found in
    rw free (freed_by (end_of T y) (carrier T y) q (subst (λ n. standing T n ≡ Some q) same stands))
lost_by run r T q y false t found one stands = other_run run r T y found t

pub open_lost : (run at : ℕ) (r : Run) (o : Open) (T : Trace) → live_run T run ≡ Some r → find (is_of r.id) (open_items T) ≡ Some o → IsSound T
    → open_items (Lost run at ∷ T) ≡ change_first (is_of r.id) (with_state Waiting) (open_items T)
open_lost run at r o T found here sound =
    let h = is_found (is_of r.id) (standing T) (accepted T) o here in
    let same : o.task.id ≡ r.id = eq_of o.task.id r.id h.1 in
    let stands = subst (λ n. standing T n ≡ Some o.state) same h.0 in
    opens_same (standing (Lost run at ∷ T)) (but_at (standing T) o.task.id (Some Waiting)) (accepted T)
    (λ y. lost_by run r T o.state y (same_id r.id y) refl found (sound.one r.id) stands ∙ ap (λ n. but_at (standing T) n (Some Waiting) y) (sym same))
    ∙ (alter (is_of r.id) (standing T) (Some Waiting) (accepted T) o sound.apart here ∙ alter_update (is_of r.id) Waiting (open_items T))

-- where no live run has the number, nothing changes
pub open_kept : (run at : ℕ) (T : Trace) → live_run T run ≡ None → open_items (Lost run at ∷ T) ≡ open_items T
open_kept run at T none = ap (λ rs. opens (λ y. standing_by (end_of T y) (find (carries y) rs)) (accepted T)) (remove_none (is_number run) (live T) none)

-- ---- after a beginning

begun_at : (at : ℕ) (id : Id) (p : Run → Bool) (x : Run) (xs : List Run) (b : Bool) → p x ≡ b
    → state_by (find (carries id) (change_first p (begun at) xs)) ≡ state_by (find (carries id) xs)
    → state_by (find (carries id) (change_first p (begun at) (x ∷ xs))) ≡ state_by (find (carries id) (x ∷ xs))
unfolding change_first
begun_at at id p x xs true e rest = rw e (here (carries id x) refl)
  where
    here : (b : Bool) → carries id x ≡ b → state_by (find (carries id) (begun at x ∷ xs)) ≡ state_by (find (carries id) (x ∷ xs))
    here true f = rw f refl
    here false f = rw f refl
begun_at at id p x xs false e rest = rw e (here (carries id x) refl)
  where
    here : (b : Bool) → carries id x ≡ b → state_by (find (carries id) (x ∷ change_first p (begun at) xs)) ≡ state_by (find (carries id) (x ∷ xs))
    here true f = rw f refl
    here false f = rw f rest

pub state_begun : (at : ℕ) (id : Id) (p : Run → Bool) (xs : List Run) → state_by (find (carries id) (change_first p (begun at) xs)) ≡ state_by (find (carries id) xs)
unfolding change_first
state_begun at id p [] = refl
state_begun at id p (x ∷ xs) = begun_at at id p x xs (p x) refl (state_begun at id p xs)

standing_state : (e : Option Record) (c d : Option Run) → state_by c ≡ state_by d → standing_by e c ≡ standing_by e d
standing_state None c d h = ap Some h
standing_state (Some e) c d h = refl

pub open_begun : (run at : ℕ) (T : Trace) → open_items (Begun run at ∷ T) ≡ open_items T
open_begun run at T = opens_same (standing (Begun run at ∷ T)) (standing T) (accepted T) (λ y. standing_state (end_of T y) _ _ (state_begun at y (is_number run) (live T)))

-- ---- after a reopening

empty_at : (f g : Id → Option State) (a : Activation) (xs : List Activation) (s : Option State) → f a.id ≡ s → ((y : Id) → f y ≡ None → g y ≡ None)
    → (opens f xs ≡ [] → opens g xs ≡ []) → opens f (a ∷ xs) ≡ [] → opens g (a ∷ xs) ≡ []
empty_at f g a xs None e none rest h = rw (none a.id e) (rest (rw e at h))
empty_at f g a xs (Some q) e none rest h = let h' : record { task = a; state = q } ∷ opens f xs ≡ [] = rw e at h in cc

empty_so : (f g : Id → Option State) (xs : List Activation) → ((y : Id) → f y ≡ None → g y ≡ None) → opens f xs ≡ [] → opens g xs ≡ []
empty_so f g [] none h = refl
empty_so f g (a ∷ xs) none h = empty_at f g a xs (f a.id) refl none (empty_so f g xs none) h

pub open_reopened : (at : ℕ) (T : Trace) → open_items T ≡ [] → open_items (Reopened at ∷ T) ≡ []
open_reopened at T h = empty_so (standing T) (standing (Reopened at ∷ T)) (accepted T) (λ y n. gone_by (end_of T y) (carrier T y) None n ∙ n) h

-- ---- what has ended isn't open

not_both : (id : Id) (T : Trace) (e : Record) (o : Option Open) → end_of T id ≡ Some e → find (is_of id) (open_items T) ≡ o → o ≡ None
not_both id T e None h found = refl
not_both id T e (Some o) h found =
    let k = is_found (is_of id) (standing T) (accepted T) o found in
    let same : o.task.id ≡ id = eq_of o.task.id id k.1 in
    let stands : standing T id ≡ Some o.state = subst (λ n. standing T n ≡ Some o.state) same k.0 in
    let none : standing T id ≡ None = rw h refl in
    cc

pub ended_not_open : (id : Id) (T : Trace) (e : Record) → end_of T id ≡ Some e → find (is_of id) (open_items T) ≡ None
ended_not_open id T e h = not_both id T e (find (is_of id) (open_items T)) h refl
