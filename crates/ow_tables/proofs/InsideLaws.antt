-- Of the rows of a kind in a namespace, those in a package.
use Rattle.std.proofs.Common.{◌≡◌, ◌&&◌, ◌||◌, Bool, true, false, cond, List, [], ◌∷◌, filter, refl, ap}
use Rattle.std.specs.List.{list_any}

-- what passes both tests passes one after the other
pub filter_both : {X : Type 0} (p q : X → Bool) (xs : List X) → filter q (filter p xs) ≡ filter (λ x. p x && q x) xs
filter_both p q [] = refl
filter_both p q (x ∷ xs) = by_test (p x) (filter_both p q xs)
  where
    by_test : (a : Bool) → filter q (filter p xs) ≡ filter (λ y. p y && q y) xs
        → filter q (cond a (x ∷ filter p xs) (filter p xs)) ≡ cond (a && q x) (x ∷ filter (λ y. p y && q y) xs) (filter (λ y. p y && q y) xs)
    by_test true more = ap (λ ys. cond (q x) (x ∷ ys) ys) more
    by_test false more = more

pub any_both : {X : Type 0} (p q : X → Bool) (xs : List X) → list_any q (filter p xs) ≡ list_any (λ x. p x && q x) xs
any_both p q [] = refl
any_both p q (x ∷ xs) = by_test (p x) (any_both p q xs)
  where
    by_test : (a : Bool) → list_any q (filter p xs) ≡ list_any (λ y. p y && q y) xs
        → list_any q (cond a (x ∷ filter p xs) (filter p xs)) ≡ ((a && q x) || list_any (λ y. p y && q y) xs)
    by_test true more = ap (λ b. q x || b) more
    by_test false more = more
