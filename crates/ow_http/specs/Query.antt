-- A target's path and query, and the pairs of a query.
use Rattle.std.specs.Prelude.{ℕ, List, map, Bool, ◌==◌}
use Rattle.std.specs.List.{before_first, after_first}
use Rattle.std.specs.Str.Lossy.{utf8_lossy}
use Rattle.form_urlencoded.specs.Form.{raw_pairs, decode}
use Rattle.ow_http.specs.Pair.{Pair}

abbrev pub is_question_mark : ℕ → Bool
is_question_mark b = b == 63

abbrev pub path_of : List ℕ → List ℕ
path_of target = before_first is_question_mark target

abbrev pub query_of : List ℕ → List ℕ
query_of target = after_first is_question_mark target

-- a pair as text, with U+FFFD for what is not UTF-8
abbrev pub decoded_pair : Pair → Pair
decoded_pair p = (utf8_lossy (decode p.0), utf8_lossy (decode p.1))

abbrev pub pairs_of : List ℕ → List Pair
pairs_of input = map decoded_pair (raw_pairs input)
