-- The integers of 64 bits, with a sign or without.
use Rattle.std.specs.Prelude.{ℕ, ℤ, pos, negsuc, ◌<◌, ◌^◌, Option, Some, None}

abbrev pub IsWhole : ℤ → Type 0
IsWhole (pos n) = n < 2 ^ 64
IsWhole (negsuc n) = n < 2 ^ 63

-- the number, unless it is negative
abbrev pub natural : ℤ → Option ℕ
natural (pos n) = Some n
natural (negsuc n) = None
