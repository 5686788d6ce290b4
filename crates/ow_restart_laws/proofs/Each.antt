-- What holds of each element of a list holds of one that is found.
use Rattle.std.proofs.Common.{◌≡◌, Bool, true, false, cond, List, [], ◌∷◌, find, IfSome, Some, refl}
use Rattle.std.specs.List.{AllByRecursion}

found_by : {X : Type 0} (P : X → Type 0) (p : X → Bool) (x : X) (xs : List X) (b : Bool) → p x ≡ b → P x → IfSome (find p xs) (λ x. P x × (p x ≡ true))
    → IfSome (cond b (Some x) (find p xs)) (λ x. P x × (p x ≡ true))
found_by P p x xs true e h rest = (h, e)
found_by P p x xs false e h rest = rest

pub all_found : {X : Type 0} (P : X → Type 0) (p : X → Bool) (xs : List X) → AllByRecursion P xs → IfSome (find p xs) (λ x. P x × (p x ≡ true))
all_found P p [] all = tt
all_found P p (x ∷ xs) all = found_by P p x xs (p x) refl all.0 (all_found P p xs all.1)
