-- Changes of a list at a place, by the place and by recursion.
use Rattle.std.proofs.Common.{◌≡◌, ◌<◌, ◌≤◌, ◌+◌, ℕ, zero, suc, Bool, true, false, List, [], ◌∷◌, Option, Some, None, length, get_or, refl, sym, ap, ◌∙◌, arith, subst}
use Rattle.std.proofs.Math.ListN.{set}
use Rattle.std.specs.List.{position, position_or_len, slice_get}
use Rattle.std.proofs.lemmas.List.Quantifiers.{position-Some}
use Rattle.std.proofs.lemmas.Bool.Decides.{nat_tests}
use Rattle.std.proofs.lemmas.Option.{slice_get_read}
use Rattle.ow_slots.specs.declared.states.Slot.{Slot}
use Rattle.ow_slots.specs.Slots.{change, change_first, IsPlace, PlaceOf, IsThere}

at_first : {X : Type 0} (p : X → Bool) (xs : List X) (k : ℕ) → k < length xs → ((d : X) → p (get_or xs k d) ≡ true)
    → ((d : X) (j : ℕ) → j < k → p (get_or xs j d) ≡ false) → IsPlace p xs k
unfolding change_first
at_first p [] k lt passes before = absurd (omega arith)
at_first p (y ∷ ys) zero lt passes before =
    let t : p y ≡ true = passes y in
    record { item = y; within = lt; here = λ d. refl; passes = t; found = rw t refl; changed = λ f. rw t refl }
at_first p (y ∷ ys) (suc k) lt passes before =
    let t : p y ≡ false = before y 0 (omega arith) in
    let rest = at_first p ys k (omega arith) passes (λ d j h. before d (suc j) (omega arith)) in
    record { item = rest.item; within = lt; here = rest.here; passes = rest.passes; found = rw t rest.found; changed = λ f. rw t (ap (λ zs. y ∷ zs) (rest.changed f)) }

none_step : {X : Type 0} (p : X → Bool) (y : X) (ys : List X) (b : Bool) → p y ≡ b → (length ys ≤ position_or_len p ys → PlaceOf p ys None)
    → length (y ∷ ys) ≤ position_or_len p (y ∷ ys) → PlaceOf p (y ∷ ys) None
unfolding change_first
none_step p y ys true t rest h = let h' : suc (length ys) ≤ 0 = rw t at h in absurd (omega arith)
none_step p y ys false t rest h =
    let h' : suc (length ys) ≤ 1 + position_or_len p ys = rw t at h in
    let more = rest (omega arith) in
    (rw t more.0, λ f. rw t (ap (λ zs. y ∷ zs) (more.1 f)))

none_below : {X : Type 0} (p : X → Bool) (xs : List X) → length xs ≤ position_or_len p xs → PlaceOf p xs None
unfolding change_first
none_below p [] h = (refl, λ f. refl)
none_below p (y ∷ ys) h = none_step p y ys (p y) refl (none_below p ys) h

-- what `position` gives is such a place
pub place_of : {X : Type 0} (p : X → Bool) (xs : List X) (r : Option ℕ) → r ≡ position p xs → PlaceOf p xs r
place_of p xs None e = none_below p xs (grind (arith, nat_tests))
place_of {X = X} p xs (Some k) e =
    let h = λ (d : X). position-Some p xs k d (sym e) in
    at_first p xs k (grind (arith, nat_tests)) (λ d. (h d).1) (λ d. (h d).2)

-- a change at a place that is there is a write
pub change_set : {X : Type 0} (i : ℕ) (f : X → X) (xs : List X) (d : X) → i < length xs → change i f xs ≡ set xs i (f (get_or xs i d))
unfolding change
change_set i f [] d lt = absurd (omega arith)
change_set zero f (x ∷ xs) d lt = refl
change_set (suc i) f (x ∷ xs) d lt = ap (λ ys. x ∷ ys) (change_set i f xs d (omega arith))

-- a change past the end is none
pub change_past : {X : Type 0} (i : ℕ) (f : X → X) (xs : List X) → length xs ≤ i → change i f xs ≡ xs
unfolding change
change_past i f [] le = refl
change_past zero f (x ∷ xs) le = absurd (omega arith)
change_past (suc i) f (x ∷ xs) le = ap (λ ys. x ∷ ys) (change_past i f xs (omega arith))

-- a write of the changed value is a change
pub changed_at : {X : Type 0} (i : ℕ) (f : X → X) (xs now : List X) (x y : X) → i < length now → xs ≡ now → x ≡ get_or xs i x → y ≡ f x → set xs i y ≡ change i f now
changed_at i f xs now x y lt seen read is =
    rw (seen, is) (rw (change_set i f now x lt, ← (ap (λ zs. get_or zs i x) seen), ← read) refl)

-- a write of the changed value at the first place that passes
pub placed_at : {X : Type 0} (p : X → Bool) (f : X → X) (xs now read : List X) (k : ℕ) (x y : X) → read ≡ now → xs ≡ now → IsPlace p read k → x ≡ get_or xs k x → y ≡ f x
    → set xs k y ≡ change_first p f now
placed_at {X = X} p f xs now read k x y er ex place rx ry =
    let there = subst (λ (zs : List X). IsPlace p zs k) er place in
    let same : x ≡ there.item = rx ∙ ap (λ (zs : List X). get_or zs k x) ex ∙ there.here x in
    rw (ex, ry, same) (there.changed f)

pub found_at : {X : Type 0} (i : ℕ) (xs now : List X) (x : X) → i < length now → xs ≡ now → x ≡ get_or xs i x → slice_get now i ≡ Some x
found_at i xs now x lt seen read = slice_get_read now (length now) i x refl lt (read ∙ ap (λ zs. get_or zs i x) seen)

-- what is there is within the list
pub there_within : (P : Slot → Type 0) (xs : List Slot) (i : ℕ) → IsThere P (slice_get xs i) → i < length xs
there_within P [] i there = absurd there
there_within P (x ∷ xs) zero there = omega arith
there_within P (x ∷ xs) (suc i) there = let h = there_within P xs i there in omega (arith, h)
