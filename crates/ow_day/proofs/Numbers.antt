-- Numbers that were written as decimal digits are read back, and what is read as a number was written so.
use Rattle.std.proofs.Common.{◌≡◌, ℕ, zero, suc, ◌==◌, ◌+◌, ◌*◌, ◌^◌, ◌<◌, List, [], ◌∷◌, false, length, get_or, ◌-◌, Some, refl, sym, ap, ◌∙◌, true≢false, arith}
use Rattle.std.specs.Char.{digit_value}
use Rattle.std.specs.Fmt.{decimal}
use Rattle.std.specs.Str.Parse.{AllDigits, digits_value, digits_value_after}
use Rattle.std.proofs.lemmas.Bool.{eq-eqb}
use Rattle.std.proofs.lemmas.Bool.Decides.{nat_tests}
use Rattle.std.proofs.lemmas.Fmt.{decimal-digits_value, decimal_digit, first_decimal}
use Rattle.std.proofs.lemmas.Option.{cond_some, none-some, option_and_then_some, same_Some}
use Rattle.std.proofs.lemmas.Str.Parse.{numerals_by_value, tells_digits}
use Rattle.ow_value.specs.Decimal.{decimal_of, digit_after, digits_of, number_after}
use Rattle.ow_records.proofs.IdLaws.{digits_of-decimal}
use Rattle.ow_day.proofs.Choices.{if_later}

not_zero : (c : ℕ) → 48 < c → (c == 48) ≡ false
not_zero c more = grind (arith, nat_tests)

-- where the first digit isn't 0, they are digits like any others
as_digits : (ds : List ℕ) → 48 < get_or ds 0 0 → decimal_of ds ≡ digits_of ds
as_digits [] first = refl
as_digits (c ∷ []) first = refl
as_digits (c ∷ d ∷ cs) first = rw (not_zero c first) refl

pub decimal_of-decimal : (n : ℕ) → n < 2 ^ 64 → decimal_of (decimal n) ≡ Some n
decimal_of-decimal zero small = ap decimal_of (decimal_digit 0 (omega arith))
decimal_of-decimal (suc n) small = as_digits (decimal (suc n)) (first_decimal (suc n) (omega arith) small) ∙ digits_of-decimal (suc n) small

-- ---- what is read as a number

digit_read : (n c m : ℕ) → digit_after n c ≡ Some m → (digit_value c < 10) × (n * 10 + digit_value c ≡ m) × (m < 2 ^ 64)
digit_read n c m e =
    let both = cond_some _ (n * 10 + (c - 48)) m e in
    let test = both.0 in
    let value = both.1 in
    (grind (arith, nat_tests), grind (arith, nat_tests), grind (arith, nat_tests))

number_read : (n : ℕ) (ds : List ℕ) (m : ℕ) → n < 2 ^ 64 → number_after n ds ≡ Some m → AllDigits 10 ds × (digits_value_after 10 n ds ≡ m) × (m < 2 ^ 64)
number_read n [] m small e = let same = same_Some n m e in (tt, same, omega (arith, same))
number_read n (d ∷ ds) m small e = option_and_then_some (λ x. number_after x ds) (digit_after n d) m e (λ x is rest.
    let one = digit_read n d x is in
    let more = number_read x ds m one.2 rest in
    ((one.0, more.0), rw one.1 more.1, more.2))

digits_read : (ds : List ℕ) (n : ℕ) → 0 < length ds → (get_or ds 0 0 ≡ 48 → length ds ≡ 1) → number_after 0 ds ≡ Some n → (n < 2 ^ 64) × (decimal n ≡ ds)
digits_read ds n some first e =
    let k = number_read 0 ds n (omega arith) e in
    let is : digits_value 10 ds ≡ n = k.1 in
    (k.2, ap decimal (sym is) ∙ decimal-digits_value (numerals_by_value (AllDigits 10) tells_digits) ds k.0 some first (omega (arith, is, k.2)))

pub decimal_read : (ds : List ℕ) (n : ℕ) → decimal_of ds ≡ Some n → (n < 2 ^ 64) × (decimal n ≡ ds)
decimal_read [] n e = absurd (none-some n e)
decimal_read (c ∷ []) n e = digits_read (c ∷ []) n (omega arith) (λ _. refl) e
decimal_read (c ∷ d ∷ cs) n e =
    let later = if_later (c == 48) (number_after 0 (c ∷ d ∷ cs)) n e in
    digits_read (c ∷ d ∷ cs) n (omega arith) (λ is. absurd (true≢false (sym (eq-eqb c 48 is) ∙ later.0))) later.1
