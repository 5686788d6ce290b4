-- What the six fields of a row of the office table say, and which rows are bad by themselves.
-- A field that is a number, a name, a key or one of the table's own words is ASCII; of each other field it is said that it is UTF-8.
use Rattle.std.specs.Prelude.{◌&&◌, ℕ, List, [], ◌∷◌, Bool, true, false, not, length, nat_le, codes, if◌then◌else◌, Option, Some, None, option_and_then, option_map, is_none}
use Rattle.std.specs.List.{list_all}
use Rattle.std.specs.Str.{bytes_eq, is_utf8}
use Rattle.ow_value.specs.Decimal.{number_within}
use Rattle.ow_names.specs.Name.{first_fault}
use Rattle.ow_traits.specs.declared.prewarms.Prewarm.{Prewarm}
use Rattle.ow_traits.specs.declared.replies.Kind.{Kind}
use Rattle.ow_traits.specs.declared.replies.Kind.TheVariants as kinds
use Rattle.ow_tenant.specs.declared.limits.NamespaceLimits.{NamespaceLimits}
use Rattle.ow_tenant.specs.declared.line.Line.{Line}
use Rattle.ow_tenant.specs.declared.line.Line.TheVariants.{Namespace, Key, Grant, Pool, Prewarming, Program, Retain}
use Rattle.ow_tenant.specs.declared.rights.Right.{Right}
use Rattle.ow_tenant.specs.declared.rights.Right.TheVariants.{Read, Write, Invoke}

-- ---- fields

abbrev pub is_empty : List ℕ → Bool
is_empty [] = true
is_empty (c ∷ cs) = false

-- the number of a limit, which may be left out
abbrev pub limit_or : ℕ → List ℕ → Option ℕ
limit_or default [] = Some default
limit_or default (c ∷ cs) = number_within 0 4294967295 (c ∷ cs)

abbrev pub is_name : List ℕ → Bool
is_name text = is_none (first_fault text)

-- a name, but not the one that means a reader's own namespace, nor the service's own
abbrev pub may_be_listed : List ℕ → Bool
may_be_listed text = is_name text && not (bytes_eq text (codes "_")) && not (bytes_eq text (codes "whisk.system"))

-- visible ASCII
abbrev pub is_key_byte : ℕ → Bool
is_key_byte b = nat_le 33 b && nat_le b 126

-- 1 to 128 of these
abbrev pub is_key : List ℕ → Bool
is_key text = nat_le 1 (length text) && nat_le (length text) 128 && list_all is_key_byte text

-- some text
abbrev pub is_text : List ℕ → Bool
is_text text = not (is_empty text) && is_utf8 text

abbrev pub right_of : List ℕ → Option Right
right_of text =
    if bytes_eq text (codes "read") then Some Read
    else if bytes_eq text (codes "write") then Some Write
    else if bytes_eq text (codes "invoke") then Some Invoke
    else None

abbrev pub kind_of : List ℕ → Option Kind
kind_of text =
    if bytes_eq text (codes "plain:1") then Some kinds.Plain
    else if bytes_eq text (codes "program:1") then Some kinds.Program
    else None

-- ---- rows, by what follows their first word

abbrev pub limits_of_fields : List ℕ → List ℕ → List ℕ → Option NamespaceLimits
limits_of_fields a b c = option_and_then (λ per_minute. option_and_then (λ concurrent. option_map (λ fires. record { per_minute = per_minute; concurrent = concurrent; fires = fires })
    (limit_or 60 c)) (limit_or 100 b)) (limit_or 120 a)

-- number, name, and the three limits
abbrev pub namespace_row : List ℕ → List ℕ → List ℕ → List ℕ → List ℕ → Option Line
namespace_row a b c d e = option_and_then (λ number. option_and_then (λ limits. if may_be_listed b then Some (Namespace number b limits) else None)
    (limits_of_fields c d e)) (number_within 1 4294967295 a)

-- key, subject, and the key's own namespace
abbrev pub key_row : List ℕ → List ℕ → List ℕ → Option Line
key_row a b c = if is_key a && is_utf8 a && is_text b && is_name c then Some (Key a b c) else None

-- key, namespace, and a right on it
abbrev pub grant_row : List ℕ → List ℕ → List ℕ → Option Line
grant_row a b c = option_and_then (λ right. if is_utf8 a && is_name b then Some (Grant a b right) else None) (right_of c)

-- the memory of all containers
abbrev pub pool_row : List ℕ → Option Line
pool_row a = option_map Pool (number_within 512 65536 a)

-- kind, memory, and how many
abbrev pub prewarm_of : List ℕ → List ℕ → List ℕ → Option Prewarm
prewarm_of a b c = option_and_then (λ kind. option_and_then (λ memory. option_map (λ count. record { kind = kind; memory = memory; count = count })
    (number_within 1 512 c)) (number_within 128 512 b)) (kind_of a)

abbrev pub prewarm_row : List ℕ → List ℕ → List ℕ → Option Line
prewarm_row a b c = option_map Prewarming (prewarm_of a b c)

-- name and path
abbrev pub program_row : List ℕ → List ℕ → Option Line
program_row a b = if is_text a && is_text b then Some (Program a b) else None

-- for how many days records are retained
abbrev pub retain_row : List ℕ → Option Line
retain_row a = option_map Retain (number_within 1 3650 a)

-- a row that uses one field after its first word, by that word
abbrev pub one_field_row : List ℕ → List ℕ → Option Line
one_field_row word a =
    if bytes_eq word (codes "pool") then pool_row a
    else if bytes_eq word (codes "retain") then retain_row a
    else None

-- by the first word; what a row of its kind doesn't use is empty
abbrev pub row_by : List ℕ → List ℕ → List ℕ → List ℕ → List ℕ → List ℕ → Option Line
row_by word a b c d e =
    if bytes_eq word (codes "namespace") then namespace_row a b c d e
    else if not (is_empty d && is_empty e) then None
    else if bytes_eq word (codes "key") then key_row a b c
    else if bytes_eq word (codes "grant") then grant_row a b c
    else if bytes_eq word (codes "prewarm") then prewarm_row a b c
    else if not (is_empty c) then None
    else if bytes_eq word (codes "program") then program_row a b
    else if not (is_empty b) then None
    else one_field_row word a

-- what a row says by itself, which has six fields; none where it is bad
unfoldable pub row_of : List (List ℕ) → Option Line
row_of (word ∷ a ∷ b ∷ c ∷ d ∷ e ∷ []) = row_by word a b c d e
row_of fields = None
