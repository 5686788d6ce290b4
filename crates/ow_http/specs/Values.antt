-- The values of a query that count for what is called for.
use Rattle.std.specs.Prelude.{ℕ, Bool, true, false, ◌&&◌, ◌||◌, not, ◌==◌, nat_le, if◌then◌else◌, List, codes, find, Option, Some, None, option_map, unwrap_or}
use Rattle.std.specs.Str.{bytes_eq}
use Rattle.ow_value.specs.Decimal.{decimal_of}
use Rattle.ow_http.specs.declared.call_kind.CallKind.{CallKind}
use Rattle.ow_http.specs.declared.call_kind.CallKind.TheVariants.{ListEntities, ListActivations, PutEntity, Invoke}
use Rattle.ow_http.specs.declared.values.TheConstants.{LISTED, MOST_LISTED, MOST_SKIPPED}
use Rattle.ow_http.specs.Pair.{Pair}

-- the value of the first pair of this name
abbrev pub first_named : List ℕ → List Pair → Option (List ℕ)
first_named name query = option_map (λ p. p.1) (find (λ p. bytes_eq p.0 name) query)

abbrev pub is_flag : List ℕ → Bool
is_flag value = bytes_eq value (codes "true") || bytes_eq value (codes "false")

abbrev pub is_most : ℕ → Option ℕ → Bool
is_most most None = false
is_most most (Some n) = nat_le n most

-- a number from 0 to the greatest one, without a leading zero
abbrev pub is_number_to : ℕ → List ℕ → Bool
is_number_to most value = is_most most (decimal_of value)

unfoldable pub is_page : List ℕ → List ℕ → Bool
is_page name value =
    if bytes_eq name (codes "limit") then is_number_to MOST_LISTED value
    else if bytes_eq name (codes "skip") then is_number_to MOST_SKIPPED value
    else true

unfoldable pub is_invocation : List ℕ → List ℕ → Bool
is_invocation name value =
    if bytes_eq name (codes "blocking") || bytes_eq name (codes "result") then is_flag value else true

-- the value is right where its name is looked at
abbrev pub is_right : CallKind → List ℕ → List ℕ → Bool
is_right (ListEntities kind) name value = is_page name value
is_right ListActivations name value = is_page name value
is_right (PutEntity kind) name value = not (bytes_eq name (codes "overwrite")) || is_flag value
is_right Invoke name value = is_invocation name value
is_right other name value = true

abbrev pub is_wrong_value : CallKind → List ℕ → Option (List ℕ) → Bool
is_wrong_value kind name None = false
is_wrong_value kind name (Some value) = not (is_right kind name value)

-- a wrong value, of a name whose first value is wrong
unfoldable pub is_wrong : CallKind → List Pair → Pair → Bool
is_wrong kind query p = not (is_right kind p.0 p.1) && is_wrong_value kind p.0 (first_named p.0 query)

-- the pair that a refusal names
abbrev pub first_wrong : CallKind → List Pair → Option Pair
first_wrong kind query = find (is_wrong kind query) query

abbrev pub is_true : Option (List ℕ) → Bool
is_true None = false
is_true (Some value) = bytes_eq value (codes "true")

abbrev pub flag_of : List ℕ → List Pair → Bool
flag_of name query = is_true (first_named name query)

abbrev pub number_or : ℕ → Option (List ℕ) → ℕ
number_or default None = default
number_or default (Some value) = unwrap_or (decimal_of value) default

-- 0 is read as the most
unfoldable pub limit_of : List Pair → ℕ
limit_of query =
    if number_or LISTED (first_named (codes "limit") query) == 0 then MOST_LISTED else number_or LISTED (first_named (codes "limit") query)
