-- Places in lists, and what changes there.
use Rattle.std.proofs.Common.{◌≡◌, ◌<◌, ◌≤◌, ◌+◌, ℕ, zero, suc, Bool, true, false, List, [], ◌∷◌, Option, Some, None, length, get_or, take, refl, sym, ap, ◌∙◌, arith}
use Rattle.std.specs.List.{find, position, position_or_len}
use Rattle.std.proofs.lemmas.List.Quantifiers.{position-Some}
use Rattle.std.proofs.lemmas.Bool.Decides.{nat_tests}
use Rattle.ow_records.specs.declared.ids.Id.{Id}
use Rattle.ow_records.specs.declared.activations.Activation.{Activation}
use Rattle.ow_floor.specs.declared.activations.Open.{Open}
use Rattle.ow_floor.specs.declared.lists.Spot.{Spot}
use Rattle.ow_slots.specs.Slots.{change_first}
use Rattle.ow_floor.specs.View.{is_of, remove_first, with_state}
use Rattle.ow_floor.specs.Store.{IsCell, CellOf, IsSpot, opens, there}
use Rattle.ow_floor.specs.Places.{IsPlace, PlaceOf, has, has_id, has_open}
use Rattle.ow_floor.proofs.Firsts.{none_tail}

at_first : {X : Type 0} (p : X → Bool) (xs : List X) (k : ℕ) → k < length xs → ((d : X) → p (get_or xs k d) ≡ true)
    → ((d : X) (j : ℕ) → j < k → p (get_or xs j d) ≡ false) → IsPlace p xs k
unfolding change_first
at_first p [] k lt passes before = absurd (omega arith)
at_first p (y ∷ ys) zero lt passes before =
    let t : p y ≡ true = passes y in
    record { item = y; within = lt; here = λ d. refl; found = rw t refl; updated = λ f. rw t refl }
at_first p (y ∷ ys) (suc k) lt passes before =
    let t : p y ≡ false = before y 0 (omega arith) in
    let rest = at_first p ys k (omega arith) passes (λ d j h. before d (suc j) (omega arith)) in
    record { item = rest.item; within = lt; here = rest.here; found = rw t rest.found; updated = λ f. rw t (ap (λ zs. y ∷ zs) (rest.updated f)) }

none_step : {X : Type 0} (p : X → Bool) (y : X) (ys : List X) (b : Bool) → p y ≡ b → (length ys ≤ position_or_len p ys → find p ys ≡ None)
    → length (y ∷ ys) ≤ position_or_len p (y ∷ ys) → find p (y ∷ ys) ≡ None
none_step p y ys true t rest h = let h' : suc (length ys) ≤ 0 = rw t at h in absurd (omega arith)
none_step p y ys false t rest h = let h' : suc (length ys) ≤ 1 + position_or_len p ys = rw t at h in rw t (rest (omega arith))

none_below : {X : Type 0} (p : X → Bool) (xs : List X) → length xs ≤ position_or_len p xs → find p xs ≡ None
none_below p [] h = refl
none_below p (y ∷ ys) h = none_step p y ys (p y) refl (none_below p ys) h

-- what `position` gives is such a place
pub place_of : {X : Type 0} (p : X → Bool) (xs : List X) (r : Option ℕ) → r ≡ position p xs → PlaceOf p xs r
place_of p xs None e = none_below p xs (grind (arith, nat_tests))
place_of {X = X} p xs (Some k) e =
    let h = λ (d : X). position-Some p xs k d (sym e) in
    at_first p xs k (grind (arith, nat_tests)) (λ d. (h d).1) (λ d. (h d).2)

-- ---- where places may be empty

cell_here : {X Y : Type 0} (g : X → Y) (p : Y → Bool) (x : Option X) (xs : List (Option X)) → 0 < length (x ∷ xs) → has g p x ≡ true → IsCell g p (x ∷ xs) 0
unfolding change_first remove_first
cell_here g p None xs lt passes = cc
cell_here g p (Some y) xs lt passes =
    record { item = y; within = lt; here = λ d. refl; found = rw passes refl; changed = λ f z e. rw passes (ap (λ w. w ∷ there g xs) e); removed = rw passes refl }

cell_next : {X Y : Type 0} (g : X → Y) (p : Y → Bool) (x : Option X) (xs : List (Option X)) (k : ℕ) → suc k < length (x ∷ xs) → has g p x ≡ false → IsCell g p xs k → IsCell g p (x ∷ xs) (suc k)
unfolding change_first remove_first
cell_next g p None xs k lt passes rest =
    record { item = rest.item; within = lt; here = rest.here; found = rest.found; changed = rest.changed; removed = rest.removed }
cell_next g p (Some y) xs k lt passes rest =
    record {
      item = rest.item;
      within = lt;
      here = rest.here;
      found = rw passes rest.found;
      changed = λ f z e. rw passes (ap (λ zs. g y ∷ zs) (rest.changed f z e));
      removed = rw passes (ap (λ zs. g y ∷ zs) rest.removed);
    }

pub cell_at : {X Y : Type 0} (g : X → Y) (p : Y → Bool) (xs : List (Option X)) (k : ℕ) → k < length xs → ((d : Option X) → has g p (get_or xs k d) ≡ true)
    → ((d : Option X) (j : ℕ) → j < k → has g p (get_or xs j d) ≡ false) → IsCell g p xs k
cell_at g p [] k lt passes before = absurd (omega arith)
cell_at g p (x ∷ xs) zero lt passes before = cell_here g p x xs lt (passes x)
cell_at g p (x ∷ xs) (suc k) lt passes before =
    cell_next g p x xs k lt (before x 0 (omega arith)) (cell_at g p xs k (omega arith) passes (λ d j h. before d (suc j) (omega arith)))

pub none_there : {X Y : Type 0} (g : X → Y) (p : Y → Bool) (xs : List (Option X)) → find (has g p) xs ≡ None → find p (there g xs) ≡ None
none_there g p [] none = refl
none_there g p (None ∷ xs) none = none_there g p xs none
none_there g p (Some y ∷ xs) none =
    let two = none_tail (has g p) (Some y) xs (p (g y)) refl none in
    rw two.0 (none_there g p xs two.1)

pub cell_of : {X Y : Type 0} (g : X → Y) (p : Y → Bool) (xs : List (Option X)) (r : Option ℕ) → r ≡ position (has g p) xs → CellOf g p xs r
cell_of g p xs None e = none_there g p xs (none_below (has g p) xs (grind (arith, nat_tests)))
cell_of {X = X} g p xs (Some k) e =
    let h = λ (d : Option X). position-Some (has g p) xs k d (sym e) in
    cell_at g p xs k (grind (arith, nat_tests)) (λ d. (h d).1) (λ d. (h d).2)

-- ---- open activations

spot_here : (p : Open → Bool) (s : Spot) (t : Option Activation) (ss : List Spot) (ts : List (Option Activation)) → 0 < length (s ∷ ss) → has_open p s t ≡ true → IsSpot p (s ∷ ss) (t ∷ ts) 0
unfolding change_first remove_first
spot_here p s None ss ts lt passes = cc
spot_here p s (Some a) ss ts lt passes =
    record { item = record { task = a; state = s.state }; within = lt; task = λ d. refl; state = λ d. refl; found = rw passes refl; changed = λ q. rw passes refl; removed = rw passes refl }

find_past : {X : Type 0} (p : X → Bool) (x : X) (xs : List X) → p x ≡ false → find p (x ∷ xs) ≡ find p xs
find_past p x xs e = rw e refl

update_past : {X : Type 0} (p : X → Bool) (f : X → X) (x : X) (xs : List X) → p x ≡ false → change_first p f (x ∷ xs) ≡ x ∷ change_first p f xs
unfolding change_first
update_past p f x xs e = rw e refl

remove_past : {X : Type 0} (p : X → Bool) (x : X) (xs : List X) → p x ≡ false → remove_first p (x ∷ xs) ≡ x ∷ remove_first p xs
unfolding remove_first
remove_past p x xs e = rw e refl

spot_next : (p : Open → Bool) (s : Spot) (t : Option Activation) (ss : List Spot) (ts : List (Option Activation)) (k : ℕ) → suc k < length (s ∷ ss)
    → find p (opens (s ∷ take k ss) (t ∷ take k ts)) ≡ None → (find p (opens (take k ss) (take k ts)) ≡ None → IsSpot p ss ts k) → IsSpot p (s ∷ ss) (t ∷ ts) (suc k)
unfolding change_first remove_first
spot_next p s None ss ts k lt none rest =
    let r = rest none in
    record { item = r.item; within = lt; task = r.task; state = r.state; found = r.found; changed = r.changed; removed = r.removed }
spot_next p s (Some a) ss ts k lt none rest =
    let o : Open = record { task = a; state = s.state } in
    let two = none_tail p o (opens (take k ss) (take k ts)) (p o) refl none in
    let r = rest two.1 in
    record {
      item = r.item;
      within = lt;
      task = r.task;
      state = r.state;
      found = find_past p o (opens ss ts) two.0 ∙ r.found;
      changed = λ q. ap (λ zs. o ∷ zs) (r.changed q) ∙ sym (update_past p (with_state q.state) o (opens ss ts) two.0);
      removed = ap (λ zs. o ∷ zs) r.removed ∙ sym (remove_past p o (opens ss ts) two.0);
    }

-- the first that passes, where none before it does
pub spot_at : (p : Open → Bool) (ss : List Spot) (ts : List (Option Activation)) (k : ℕ) (d : Spot) (e : Option Activation) → k < length ss → length ts ≡ length ss
    → find p (opens (take k ss) (take k ts)) ≡ None → has_open p (get_or ss k d) (get_or ts k e) ≡ true → IsSpot p ss ts k
spot_at p [] ts k d e lt same none passes = absurd (omega arith)
spot_at p (s ∷ ss) [] k d e lt same none passes = absurd (omega (arith, same))
spot_at p (s ∷ ss) (t ∷ ts) zero d e lt same none passes = spot_here p s t ss ts lt passes
spot_at p (s ∷ ss) (t ∷ ts) (suc k) d e lt same none passes =
    spot_next p s t ss ts k lt none (λ h. spot_at p ss ts k d e (omega arith) (omega (arith, same)) h passes)

none_last : (p : Open → Bool) (s : Spot) (t : Option Activation) → has_open p s t ≡ false → find p (opens (s ∷ []) (t ∷ [])) ≡ None
none_last p s None h = refl
none_last p s (Some a) h = rw h refl

none_on : (p : Open → Bool) (s : Spot) (t : Option Activation) (ss us : List Spot) (ts vs : List (Option Activation)) → find p (opens (s ∷ ss) (t ∷ ts)) ≡ None
    → (find p (opens ss ts) ≡ None → find p (opens us vs) ≡ None) → find p (opens (s ∷ us) (t ∷ vs)) ≡ None
none_on p s None ss us ts vs none rest = rest none
none_on p s (Some a) ss us ts vs none rest =
    let o : Open = record { task = a; state = s.state } in
    let two = none_tail p o (opens ss ts) (p o) refl none in
    rw two.0 (rest two.1)

-- one place further
pub none_more : (p : Open → Bool) (ss : List Spot) (ts : List (Option Activation)) (k : ℕ) (d : Spot) (e : Option Activation) → k < length ss → length ts ≡ length ss
    → find p (opens (take k ss) (take k ts)) ≡ None → has_open p (get_or ss k d) (get_or ts k e) ≡ false → find p (opens (take (suc k) ss) (take (suc k) ts)) ≡ None
none_more p [] ts k d e lt same none fails = absurd (omega arith)
none_more p (s ∷ ss) [] k d e lt same none fails = absurd (omega (arith, same))
none_more p (s ∷ ss) (t ∷ ts) zero d e lt same none fails = none_last p s t fails
none_more p (s ∷ ss) (t ∷ ts) (suc k) d e lt same none fails =
    none_on p s t (take k ss) (take (suc k) ss) (take k ts) (take (suc k) ts) none (λ h. none_more p ss ts k d e (omega arith) (omega (arith, same)) h fails)

take_whole : {X : Type 0} (xs : List X) (n : ℕ) → n ≡ length xs → take n xs ≡ xs
take_whole [] zero e = refl
take_whole [] (suc n) e = absurd (omega (arith, e))
take_whole (x ∷ xs) zero e = absurd (omega (arith, e))
take_whole (x ∷ xs) (suc n) e = ap (λ zs. x ∷ zs) (take_whole xs n (omega (arith, e)))

-- to the end
pub none_at_all : (p : Open → Bool) (ss : List Spot) (ts : List (Option Activation)) (n : ℕ) → n ≡ length ss → length ts ≡ length ss → find p (opens (take n ss) (take n ts)) ≡ None → find p (opens ss ts) ≡ None
none_at_all p ss ts n e same none = rw (take_whole ss n e, take_whole ts n (e ∙ sym same)) at none

pub open_by_id : (id : Id) (s : Spot) (t u : Option Activation) (b : Bool) → b ≡ has_id id t → t ≡ u → has_open (is_of id) s u ≡ b
open_by_id id s t None b is same = sym (is ∙ ap (has_id id) same)
open_by_id id s t (Some a) b is same = sym (is ∙ ap (has_id id) same)

pub any_default : {X : Type 0} (xs : List X) (k : ℕ) (d e : X) → k < length xs → get_or xs k d ≡ get_or xs k e
any_default [] k d e lt = absurd (omega arith)
any_default (x ∷ xs) zero d e lt = refl
any_default (x ∷ xs) (suc k) d e lt = any_default xs k d e (omega arith)
