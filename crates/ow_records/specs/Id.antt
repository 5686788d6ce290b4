-- The id of an activation, and which id a text is.
use Rattle.std.specs.Prelude.{◌&&◌, ◌==◌, ◌++◌, ℕ, Bool, List, length, take, drop, nat_lt, if◌then◌else◌, option_map, option_and_then, Option, Some, None, Result, Ok, Err}
use Rattle.std.specs.Int.{to_be_bytes, from_be_bytes, w64}
use Rattle.hex.specs.Hex.{encode_lower, decode_sized}
use Rattle.hex.specs.declared.error.FromHexError.{FromHexError}
use Rattle.ow_records.specs.declared.ids.Id.{Id}

-- sixteen lower-case hexadecimal digits of a number of 64 bits: two of each byte, the greatest first
abbrev pub hex_16 : ℕ → List ℕ
hex_16 n = encode_lower (to_be_bytes w64 n)

-- the digits of the namespace's number, then those of the count
unfoldable pub id_text : Id → List ℕ
id_text id = hex_16 id.namespace ++ hex_16 id.count

-- whether two ids are equal
abbrev pub same_id : Id → Id → Bool
same_id a b = (a.namespace == b.namespace) && (a.count == b.count)

-- ---- the same way back

abbrev pub number_of_bytes : Result (List ℕ) FromHexError → Option ℕ
number_of_bytes (Ok bytes) = Some (from_be_bytes w64 bytes)
number_of_bytes (Err e) = None

-- the number of sixteen hexadecimal digits, of either case
abbrev pub hex_number : List ℕ → Option ℕ
hex_number s = number_of_bytes (decode_sized s 8)

abbrev pub id_with : Option ℕ → Option ℕ → Option Id
id_with namespace count = option_and_then (λ n. option_map (λ c. record { namespace = n; count = c }) count) namespace

-- the id of thirty-two hexadecimal digits, of either case
unfoldable pub id_of : List ℕ → Option Id
id_of s = if nat_lt (length s) 16 then None else id_with (hex_number (take 16 s)) (hex_number (drop 16 s))
