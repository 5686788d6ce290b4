-- The id that a text is, where it is written as ids are: in lower case.
use Rattle.std.specs.Prelude.{ℕ, List, Option, Some, None, Result, Ok, Err, if◌then◌else◌, take, drop}
use Rattle.std.specs.Int.{from_be_bytes, w64}
use Rattle.std.specs.Str.{bytes_eq}
use Rattle.hex.specs.Hex.{decode_sized, encode_lower}
use Rattle.hex.specs.declared.error.FromHexError.{FromHexError}
use Rattle.ow_records.specs.declared.ids.Id.{Id}

-- the numbers that sixteen bytes are, the greatest byte of each first
abbrev pub id_of_bytes : List ℕ → Id
id_of_bytes bytes = record { namespace = from_be_bytes w64 (take 8 bytes); count = from_be_bytes w64 (drop 8 bytes) }

-- where the text has the bytes' lower-case digits
abbrev pub id_with_bytes : List ℕ → List ℕ → Option Id
id_with_bytes text bytes = if bytes_eq (encode_lower bytes) text then Some (id_of_bytes bytes) else None

abbrev pub id_decoded : List ℕ → Result (List ℕ) FromHexError → Option Id
id_decoded text (Ok bytes) = id_with_bytes text bytes
id_decoded text (Err e) = None

-- the id of thirty-two lower-case hexadecimal digits
unfoldable pub id_of_lower : List ℕ → Option Id
id_of_lower text = id_decoded text (decode_sized text 16)
