-- As many empty places.
use Rattle.std.proofs.Common.{◌≡◌, ◌<◌, ◌+◌, ◌++◌, ℕ, suc, List, [], ◌∷◌, Option, None, length, drop, drop-cons, ◌∙◌, arith, subst, append_assoc}
use Rattle.ow_floor.specs.Store.{empty_of}

-- one place further
pub empty_on : {X Y : Type 0} (places all : List (Option Y)) (cells : List X) (i : ℕ) (d : X) → i < length cells → places ++ empty_of (drop i cells) ≡ all
    → (places ++ None ∷ []) ++ empty_of (drop (i + 1) cells) ≡ all
empty_on {X = X} {Y = Y} places all cells i d lt before =
    let next : suc i ≡ i + 1 = omega arith in
    let now : places ++ None ∷ empty_of (drop (suc i) cells) ≡ all = subst (λ (xs : List X). places ++ empty_of xs ≡ all) (drop-cons cells i d lt) before in
    subst (λ n. (places ++ None ∷ []) ++ empty_of (drop n cells) ≡ all) next (append_assoc places (None ∷ []) (empty_of (drop (suc i) cells)) ∙ now)
