-- Parameters that are texts.
use Rattle.std.specs.Prelude.{ℕ, ◌+◌, List, [], ◌∷◌, ◌++◌, Bool, not, nat_eq, map, filter, find, codes, if◌then◌else◌, Option, Some, None, Result, Ok, Err}
use Rattle.std.specs.List.{fold, starts_with}
use Rattle.std.specs.Map.{keys_of}
use Rattle.std.specs.Str.{str_to_ascii_lowercase}
use Rattle.ow_value.specs.Value.{V, Pairs, text}
use Rattle.ow_value.specs.Find.{with_pair}
use Rattle.ow_http.specs.Headers.{is_named}
use Rattle.ow_http.specs.Pair.{Pair}
use Rattle.ow_web.specs.declared.refusal.WebRefusal.{WebRefusal}
use Rattle.ow_web.specs.declared.refusal.WebRefusal.TheVariants.{Reserved}

-- the pairs put in one after another, so of equal names the later one counts
abbrev pub texts_of : List Pair → Pairs
texts_of pairs = fold (λ ps p. with_pair ps p.0 (text p.1)) [] pairs

-- ---- headers

-- the header has the caller's key, which an action doesn't see
abbrev pub is_secret : Pair → Bool
is_secret h = is_named (codes "x-whisk-key") h

abbrev pub lowered : Pair → Pair
lowered h = (str_to_ascii_lowercase h.0, h.1)

-- the headers that an action sees, their names in lower case
abbrev pub seen_headers : List Pair → List Pair
seen_headers headers = map lowered (filter (λ h. not (is_secret h)) headers)

-- ---- reserved names

-- only the service itself gives parameters of such names
abbrev pub is_reserved : List ℕ → Bool
is_reserved name = starts_with nat_eq name (codes "__ow_")

abbrev pub unless_reserved : Option (List ℕ) → Pairs → Result Pairs WebRefusal
unless_reserved None ps = Ok ps
unless_reserved (Some name) ps = Err (Reserved name)

-- the parameters, unless a name is reserved: the first in the order of the names then
abbrev pub unreserved : Pairs → Result Pairs WebRefusal
unreserved ps = unless_reserved (find is_reserved (keys_of ps)) ps
