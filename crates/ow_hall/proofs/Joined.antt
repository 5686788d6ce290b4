-- What several results are where they are joined.
use Rattle.std.proofs.Common.{◌≡◌, Result, Ok, Err, IfOk, ap, subst}
use Rattle.std.specs.Prelude.{MatchResult}
use Rattle.ow_value.specs.Results.{joined2}

abbrev left : {A B F : Type 0} → Result (A × B) F → Result A F
left (Ok x) = Ok x.0
left (Err e) = Err e

abbrev right : {A B F : Type 0} → Result (A × B) F → Result B F
right (Ok x) = Ok x.1
right (Err e) = Err e

-- both are there
pub joined_ok : {A B F : Type 0} (a : Result A F) (b : Result B F) (x : A × B) → joined2 a b ≡ Ok x → (a ≡ Ok x.0) × (b ≡ Ok x.1)
joined_ok (Ok a) (Ok b) x is = (ap left is, ap right is)
joined_ok (Ok a) (Err e) x is = cc
joined_ok (Err e) b x is = cc

-- what is true of a result where it is there
pub ok_of : {A F : Type 0} (P : A → Type 0) (r : Result A F) (x : A) → r ≡ Ok x → IfOk r P → P x
ok_of P r x is h = subst (λ q. IfOk q P) is h

-- what was made beside a value, and that value
pub beside_ok : {A B F : Type 0} (held : A) (made : Result B F) (r : Result (A × B) F) (x : A × B) → MatchResult r (λ y. (y.0 ≡ held) × (made ≡ Ok y.1)) (λ e. made ≡ Err e) → r ≡ Ok x
    → (x.0 ≡ held) × (made ≡ Ok x.1)
beside_ok held made r x m is = subst (λ q. MatchResult q (λ y. (y.0 ≡ held) × (made ≡ Ok y.1)) (λ e. made ≡ Err e)) is m
