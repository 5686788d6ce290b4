-- Putting a candidate at its place, of all and of the first four.
use Rattle.std.proofs.Common.{◌≡◌, ◌<◌, ℕ, zero, suc, Bool, true, false, cond, List, [], ◌∷◌, Option, Some, None, take, drop, drop-cons, get_or, length, refl, ap, ◌∙◌}
use Rattle.ow_pool.specs.declared.candidates.Candidate.{Candidate}
use Rattle.ow_pool.specs.declared.four.Four.{Four}
use Rattle.ow_slots.specs.declared.states.Slot.{Slot}
use Rattle.ow_pool.specs.Candidates.{candidate_in, candidates_from, put, is_before}
use Rattle.ow_pool.specs.Four.{put_in, put_first, items, items_by, FilledBy, IsFilled}

take_less : {X : Type 0} (n : ℕ) (xs : List X) → take n (take (suc n) xs) ≡ take n xs
take_less zero xs = refl
take_less (suc n) [] = refl
take_less (suc n) (x ∷ xs) = ap (λ ys. x ∷ ys) (take_less n xs)

take_pushed : {X : Type 0} (n : ℕ) (y : X) (ys : List X) → take n (y ∷ take n ys) ≡ take n (y ∷ ys)
take_pushed zero y ys = refl
take_pushed (suc n) y ys = ap (λ zs. y ∷ zs) (take_less n ys)

-- the first ones after a put depend on the first ones before it
pub take_put : (n : ℕ) (x : Candidate) (ys : List Candidate) → take n (put x (take n ys)) ≡ take n (put x ys)
unfolding put
take_put zero x ys = refl
take_put (suc n) x [] = refl
take_put (suc n) x (y ∷ ys) = at (is_before y x) (take_put n x ys)
  where
    at : (b : Bool) → take n (put x (take n ys)) ≡ take n (put x ys)
        → take (suc n) (cond b (y ∷ put x (take n ys)) (x ∷ y ∷ take n ys)) ≡ take (suc n) (cond b (y ∷ put x ys) (x ∷ y ∷ ys))
    at true rest = ap (λ zs. y ∷ zs) rest
    at false rest = ap (λ zs. x ∷ zs) (take_pushed n y ys)

-- putting into four is putting and taking four
pub put_four : (x : Candidate) (a b c d : Option Candidate) → FilledBy a b c d → items (put_first x a b c d) ≡ take 4 (put x (items_by a b c d))
unfolding put
put_four x None None None None f = refl
put_four x None None None (Some d) f = absurd f
put_four x None None (Some c) d f = absurd f
put_four x None (Some b) c d f = absurd f
put_four x (Some a) None None None f = at (is_before a x)
  where
    at : (p : Bool) → items (cond p (record { first = Some a; second = Some x; third = None; fourth = None }) (record { first = Some x; second = Some a; third = None; fourth = None }))
        ≡ take 4 (cond p (a ∷ x ∷ []) (x ∷ a ∷ []))
    at true = refl
    at false = refl
put_four x (Some a) None None (Some d) f = absurd f
put_four x (Some a) None (Some c) d f = absurd f
put_four x (Some a) (Some b) None None f = at (is_before a x) (is_before b x)
  where
    at : (p q : Bool) → items (cond p (cond q (record { first = Some a; second = Some b; third = Some x; fourth = None }) (record { first = Some a; second = Some x; third = Some b; fourth = None }))
        (record { first = Some x; second = Some a; third = Some b; fourth = None }))
        ≡ take 4 (cond p (a ∷ cond q (b ∷ x ∷ []) (x ∷ b ∷ [])) (x ∷ a ∷ b ∷ []))
    at true true = refl
    at true false = refl
    at false q = refl
put_four x (Some a) (Some b) None (Some d) f = absurd f
put_four x (Some a) (Some b) (Some c) None f = at (is_before a x) (is_before b x) (is_before c x)
  where
    at : (p q r : Bool) → items (cond p (cond q (cond r (record { first = Some a; second = Some b; third = Some c; fourth = Some x })
        (record { first = Some a; second = Some b; third = Some x; fourth = Some c }))
        (record { first = Some a; second = Some x; third = Some b; fourth = Some c }))
        (record { first = Some x; second = Some a; third = Some b; fourth = Some c }))
        ≡ take 4 (cond p (a ∷ cond q (b ∷ cond r (c ∷ x ∷ []) (x ∷ c ∷ [])) (x ∷ b ∷ c ∷ [])) (x ∷ a ∷ b ∷ c ∷ []))
    at true true true = refl
    at true true false = refl
    at true false r = refl
    at false q r = refl
put_four x (Some a) (Some b) (Some c) (Some d) f = at (is_before a x) (is_before b x) (is_before c x) (is_before d x)
  where
    at : (p q r s : Bool) → items (cond p (cond q (cond r (record { first = Some a; second = Some b; third = Some c; fourth = Some (cond s d x) })
        (record { first = Some a; second = Some b; third = Some x; fourth = Some c }))
        (record { first = Some a; second = Some x; third = Some b; fourth = Some c }))
        (record { first = Some x; second = Some a; third = Some b; fourth = Some c }))
        ≡ take 4 (cond p (a ∷ cond q (b ∷ cond r (c ∷ cond s (d ∷ x ∷ []) (x ∷ d ∷ [])) (x ∷ c ∷ d ∷ [])) (x ∷ b ∷ c ∷ d ∷ [])) (x ∷ a ∷ b ∷ c ∷ d ∷ []))
    at true true true true = refl
    at true true true false = refl
    at true true false s = refl
    at true false r s = refl
    at false q r s = refl

filled_at : (p : Bool) (f g : Four) → IsFilled f → IsFilled g → IsFilled (cond p f g)
filled_at true f g hf hg = hf
filled_at false f g hf hg = hg

pub put_filled : (x : Candidate) (a b c d : Option Candidate) → FilledBy a b c d → IsFilled (put_first x a b c d)
put_filled x None b c d f = tt
put_filled x (Some a) None None None f = filled_at (is_before a x) _ _ tt tt
put_filled x (Some a) None None (Some d) f = absurd f
put_filled x (Some a) None (Some c) d f = absurd f
put_filled x (Some a) (Some b) None None f = filled_at (is_before a x) _ _ (filled_at (is_before b x) _ _ tt tt) tt
put_filled x (Some a) (Some b) None (Some d) f = absurd f
put_filled x (Some a) (Some b) (Some c) None f = filled_at (is_before a x) _ _ (filled_at (is_before b x) _ _ (filled_at (is_before c x) _ _ tt tt) tt) tt
put_filled x (Some a) (Some b) (Some c) (Some d) f = filled_at (is_before a x) _ _ (filled_at (is_before b x) _ _ (filled_at (is_before c x) _ _ tt tt) tt) tt

pub step_some : (slots : List Slot) (i j : ℕ) (d : Slot) (four : Four) (x : Candidate) → i ≡ suc j → j < length slots → Some x ≡ candidate_in j (get_or slots j d).state
    → items four ≡ take 4 (candidates_from i (drop i slots)) → IsFilled four → items (put_in x four) ≡ take 4 (candidates_from j (drop j slots))
step_some slots i j d four x next lt found made filled =
    let more : items four ≡ take 4 (candidates_from (suc j) (drop (suc j) slots)) = rw next at made in
    rw (drop-cons slots j d, ← found) (put_four x four.first four.second four.third four.fourth filled
    ∙ ap (λ ys. take 4 (put x ys)) more ∙ take_put 4 x (candidates_from (suc j) (drop (suc j) slots)))

pub step_filled : (x : Candidate) (four : Four) → IsFilled four → IsFilled (put_in x four)
step_filled x four filled = put_filled x four.first four.second four.third four.fourth filled
