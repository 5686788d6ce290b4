-- In which form a request's body is read.
use Rattle.std.specs.Prelude.{ℕ, ◌-◌, List, Bool, ◌==◌, length, take, drop, codes, if◌then◌else◌, Option, Some, None}
use Rattle.std.specs.Char.{is_ascii_whitespace}
use Rattle.std.specs.List.{before_first, prefix_len, suffix_len}
use Rattle.std.specs.Str.{bytes_eq}
use Rattle.ow_web.specs.declared.media.Media.{Media}
use Rattle.ow_web.specs.declared.media.Media.TheVariants.{Form, Json, Other}

abbrev pub is_semicolon : ℕ → Bool
is_semicolon b = b == 59

-- without the white space at the start
abbrev pub trimmed_start : List ℕ → List ℕ
trimmed_start s = drop (prefix_len is_ascii_whitespace s) s

-- without the white space at the end
abbrev pub trimmed_end : List ℕ → List ℕ
trimmed_end s = take (length s - suffix_len is_ascii_whitespace s) s

-- the type without its parameters, and without the white space round it
abbrev pub bare_type : List ℕ → List ℕ
bare_type value = trimmed_end (trimmed_start (before_first is_semicolon value))

unfoldable pub media_named : List ℕ → Media
media_named kind =
    if bytes_eq kind (codes "application/x-www-form-urlencoded") then Form
    else if bytes_eq kind (codes "application/json") then Json
    else Other

-- a body without a type is read as JSON
abbrev pub media_of : Option (List ℕ) → Media
media_of None = Json
media_of (Some value) = media_named (bare_type value)
