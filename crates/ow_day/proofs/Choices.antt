-- What a choice between two values says of its test, and tests of numbers.
use Rattle.std.proofs.Common.{◌≡◌, ◌<◌, ◌==◌, ℕ, Bool, true, false, nat_lt, Option, Some, None, if◌then◌else◌, refl, arith}
use Rattle.std.proofs.lemmas.Bool.Decides.{nat_tests}
use Rattle.std.proofs.lemmas.Option.{none-some}

-- where there is a value, the second was chosen
pub if_later : {A : Type 0} (b : Bool) (x : Option A) (y : A) → (if b then None else x) ≡ Some y → (b ≡ false) × (x ≡ Some y)
if_later true x y e = absurd (none-some y e)
if_later false x y e = (refl, e)

-- the first was chosen, or the second
pub either : {A P : Type 0} (b : Bool) (x y z : A) → (if b then x else y) ≡ z → (b ≡ true → x ≡ z → P) → (b ≡ false → y ≡ z → P) → P
either true x y z e first second = first refl e
either false x y z e first second = second refl e

-- ---- tests of numbers

pub is_apart : (m n : ℕ) → n < m → (m == n) ≡ false
is_apart m n lt = grind (arith, nat_tests)

pub over : (m n : ℕ) → nat_lt m n ≡ false → (m == n) ≡ false → n < m
over m n lt eq = grind (arith, nat_tests)

pub some_by : (n : ℕ) → (n == 0) ≡ false → 0 < n
some_by n is = grind (arith, nat_tests)
