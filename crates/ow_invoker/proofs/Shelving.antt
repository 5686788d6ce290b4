-- Where a container lies, and the shelf without it.
use Rattle.std.proofs.Common.{◌≡◌, ◌≤◌, ◌+◌, ℕ, zero, suc, Bool, true, false, List, [], ◌∷◌, Option, Some, None, length, get_or, refl, sym, ap, arith}
use Rattle.std.specs.List.{position, position_or_len}
use Rattle.std.specs.Prelude.{◌<◌}
use Rattle.std.proofs.lemmas.List.Quantifiers.{position-Some}
use Rattle.std.proofs.lemmas.Bool.Decides.{nat_tests}
use Rattle.ow_invoker.specs.Shelf.{IsPlaced, is_at, without}
use Rattle.ow_invoker.specs.declared.shelf.Laid.{Laid}

placed_at : {B : Type 0} (slot generation : ℕ) (xs : List (Laid B)) (k : ℕ) → k < length xs → ((d : Laid B) → is_at slot generation (get_or xs k d) ≡ true)
    → ((d : Laid B) (j : ℕ) → j < k → is_at slot generation (get_or xs j d) ≡ false) → IsPlaced slot generation xs (Some k)
unfolding without
placed_at slot generation [] k lt passes before = absurd (omega arith)
placed_at slot generation (y ∷ ys) zero lt passes before =
    let t : is_at slot generation y ≡ true = passes y in
    (rw t refl, rw t refl, lt)
placed_at slot generation (y ∷ ys) (suc k) lt passes before =
    let t : is_at slot generation y ≡ false = before y 0 (omega arith) in
    let rest = placed_at slot generation ys k (omega arith) passes (λ d j h. before d (suc j) (omega arith)) in
    (rw t rest.0, rw t (ap (λ zs. y ∷ zs) rest.1), lt)

none_step : {B : Type 0} (slot generation : ℕ) (y : Laid B) (ys : List (Laid B)) (b : Bool) → is_at slot generation y ≡ b
    → (length ys ≤ position_or_len (is_at slot generation) ys → IsPlaced slot generation ys None)
    → length (y ∷ ys) ≤ position_or_len (is_at slot generation) (y ∷ ys) → IsPlaced slot generation (y ∷ ys) None
unfolding without
none_step slot generation y ys true t rest h = let h' : suc (length ys) ≤ 0 = rw t at h in absurd (omega arith)
none_step slot generation y ys false t rest h =
    let h' : suc (length ys) ≤ 1 + position_or_len (is_at slot generation) ys = rw t at h in
    let more = rest (omega arith) in
    (rw t more.0, rw t (ap (λ zs. y ∷ zs) more.1))

none_placed : {B : Type 0} (slot generation : ℕ) (xs : List (Laid B)) → length xs ≤ position_or_len (is_at slot generation) xs → IsPlaced slot generation xs None
unfolding without
none_placed slot generation [] h = (refl, refl)
none_placed slot generation (y ∷ ys) h = none_step slot generation y ys (is_at slot generation y) refl (none_placed slot generation ys) h

-- what `position` gives is such a place
pub placed : {B : Type 0} (slot generation : ℕ) (xs : List (Laid B)) (r : Option ℕ) → r ≡ position (is_at slot generation) xs → IsPlaced slot generation xs r
placed slot generation xs None e = none_placed slot generation xs (grind (arith, nat_tests))
placed {B = B} slot generation xs (Some k) e =
    let h = λ (d : Laid B). position-Some (is_at slot generation) xs k d (sym e) in
    placed_at slot generation xs k (grind (arith, nat_tests)) (λ d. (h d).1) (λ d. (h d).2)
