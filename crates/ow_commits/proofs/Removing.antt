-- The first of an id is taken out.
use Rattle.std.proofs.Common.{◌≡◌, ◌<◌, ℕ, zero, suc, Bool, true, false, List, [], ◌∷◌, Some, None, length, get_or, refl, sym, ap, arith}
use Rattle.std.specs.List.{position, remove}
use Rattle.std.proofs.lemmas.List.Quantifiers.{position-Some}
use Rattle.ow_floor.specs.View.{remove_first}
use Rattle.ow_floor.proofs.Finding.{place_of}
use Rattle.ow_floor.proofs.Firsts.{remove_none}

first_removed : {X : Type 0} (p : X → Bool) (xs : List X) (k : ℕ) → k < length xs → ((d : X) → p (get_or xs k d) ≡ true) → ((d : X) (j : ℕ) → j < k → p (get_or xs j d) ≡ false) → remove xs k ≡ remove_first p xs
unfolding remove_first
first_removed p [] k lt passes before = absurd (omega arith)
first_removed p (y ∷ ys) zero lt passes before = let t : p y ≡ true = passes y in rw t refl
first_removed p (y ∷ ys) (suc k) lt passes before =
    let t : p y ≡ false = before y 0 (omega arith) in
    let rest = first_removed p ys k (omega arith) passes (λ d j h. before d (suc j) (omega arith)) in
    rw t (ap (λ zs. y ∷ zs) rest)

-- at the place that `position` gives
pub removed_at : {X : Type 0} (p : X → Bool) (xs : List X) (k : ℕ) (d : X) → position p xs ≡ Some k → remove xs k ≡ remove_first p xs
removed_at {X = X} p xs k d e =
    let h = λ (d : X). position-Some p xs k d e in
    first_removed p xs k (h d).0 (λ d. (h d).1) (λ d. (h d).2)

pub within : {X : Type 0} (p : X → Bool) (xs : List X) (k : ℕ) (d : X) → position p xs ≡ Some k → k < length xs
within p xs k d e = (position-Some p xs k d e).0

pub removed_none : {X : Type 0} (p : X → Bool) (xs : List X) → position p xs ≡ None → xs ≡ remove_first p xs
removed_none p xs e = sym (remove_none p xs (place_of p xs None (sym e)))
