-- What the headers of a request say.
use Rattle.std.specs.Prelude.{ℕ, [], ◌∷◌, Bool, ◌&&◌, ◌||◌, not, ◌==◌, nat_lt, if◌then◌else◌, List, codes, count_by, find, Option, Some, None}
use Rattle.std.specs.List.{list_any}
use Rattle.std.specs.Str.{str_eq_ignore_ascii_case, bytes_eq, is_utf8}
use Rattle.ow_value.specs.Decimal.{digits_of}
use Rattle.ow_http.specs.Pair.{Pair}

-- the header has this name, in any case
abbrev pub is_named : List ℕ → Pair → Bool
is_named name h = str_eq_ignore_ascii_case h.0 name

-- a header with which no request is served
unfoldable pub is_refused : Pair → Bool
is_refused h =
    is_named (codes "transfer-encoding") h
    || (is_named (codes "content-encoding") h && not (bytes_eq h.1 (codes "identity")))

unfoldable pub is_length : Pair → Bool
is_length h = is_named (codes "content-length") h

-- without a length there is no body
abbrev pub told_length : Option Pair → Option ℕ
told_length None = Some 0
told_length (Some h) = digits_of h.1

-- how long the body is, unless a header isn't served or the length is given twice. The length may begin with zeros
unfoldable pub body_length : List Pair → Option ℕ
body_length hs =
    if list_any is_refused hs || nat_lt 1 (count_by is_length hs) then None
    else told_length (find is_length hs)

-- name and value are text
abbrev pub is_text : Pair → Bool
is_text h = is_utf8 h.0 && is_utf8 h.1

unfoldable pub is_close : Pair → Bool
is_close h = is_named (codes "connection") h && str_eq_ignore_ascii_case h.1 (codes "close")

-- the connection is to end: version 1.0, or a header that says so
abbrev pub closes : ℕ → List Pair → Bool
closes minor hs = minor == 0 || list_any is_close hs

-- the value of the last header of this name, or the one found before
abbrev pub last_or : Option (List ℕ) → List ℕ → List Pair → Option (List ℕ)
last_or before name [] = before
last_or before name (h ∷ hs) = last_or (if is_named name h then Some h.1 else before) name hs

abbrev pub last_named : List ℕ → List Pair → Option (List ℕ)
last_named name hs = last_or None name hs
