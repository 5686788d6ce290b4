-- The numbers below 2 ^ 64, written as decimal digits.
use Rattle.std.specs.Prelude.{◌==◌, ◌+◌, ◌-◌, ◌*◌, ◌^◌, ◌&&◌, ℕ, nat_le, nat_lt, List, [], ◌∷◌, Option, Some, None, if◌then◌else◌, option_and_then}
use Rattle.std.specs.Char.{is_ascii_digit}

-- a number with one more digit
abbrev pub digit_after : ℕ → ℕ → Option ℕ
digit_after n c = if is_ascii_digit c && nat_lt (n * 10 + (c - 48)) (2 ^ 64) then Some (n * 10 + (c - 48)) else None

-- a number followed by more digits
abbrev pub number_after : ℕ → List ℕ → Option ℕ
number_after n [] = Some n
number_after n (c ∷ cs) = option_and_then (λ m. number_after m cs) (digit_after n c)

-- the number of at least one digit, leading zeros allowed
abbrev pub digits_of : List ℕ → Option ℕ
digits_of [] = None
digits_of (c ∷ cs) = number_after 0 (c ∷ cs)

-- the number of at least one digit, with no leading zero
abbrev pub decimal_of : List ℕ → Option ℕ
decimal_of [] = None
decimal_of (c ∷ []) = number_after 0 (c ∷ [])
decimal_of (c ∷ d ∷ cs) = if c == 48 then None else number_after 0 (c ∷ d ∷ cs)

-- n, where it lies between these two
abbrev pub if_within : ℕ → ℕ → ℕ → Option ℕ
if_within least most n = if nat_le least n && nat_le n most then Some n else None

-- the number of digits with no leading zero, where it lies between these two
abbrev pub number_within : ℕ → ℕ → List ℕ → Option ℕ
number_within least most text = option_and_then (if_within least most) (decimal_of text)
