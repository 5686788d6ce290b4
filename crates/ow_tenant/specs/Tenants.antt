-- What the office table says to those who ask.
use Rattle.std.specs.Prelude.{◌≡◌, ℕ, Bool, List, codes, map, is_some, if◌then◌else◌, Option, Some, None, option_map, slice_get, Result, Ok, Err}
use Rattle.std.specs.Option.{unwrap_or}
use Rattle.std.specs.Str.{bytes_eq}
use Rattle.ow_value.specs.Value.{V, text}
use Rattle.ow_value.specs.ByText.{StandsAt, value_at}
use Rattle.ow_tenant.specs.Limits.{default_limits}
use Rattle.ow_tenant.specs.Rights.{has_right, rights_or_none}
use Rattle.ow_tenant.specs.Table.{Table}
use Rattle.ow_tenant.specs.declared.entries.Holder.{Holder}
use Rattle.ow_tenant.specs.declared.entries.Space.{Space}
use Rattle.ow_tenant.specs.declared.limits.NamespaceLimits.{NamespaceLimits}
use Rattle.ow_tenant.specs.declared.refusal.TenantRefusal.{TenantRefusal}
use Rattle.ow_tenant.specs.declared.refusal.TenantRefusal.TheVariants.{UnknownKey, NotGranted}
use Rattle.ow_tenant.specs.declared.rights.Right.{Right}
use Rattle.ow_tenant.specs.declared.rights.Rights.{Rights}
use Rattle.ow_tenant.specs.declared.tenants.KeyNumber.{KeyNumber}

-- ---- keys

-- who holds a key, where one is given
abbrev pub holder_of : Option (List ℕ) → Table → Option Holder
holder_of None t = None
holder_of (Some key) t = value_at key t.keys

-- who holds the key of a number, which is its place among the keys
abbrev pub holder_at : ℕ → Table → Option Holder
holder_at number t = option_map (λ e. e.1) (slice_get t.keys number)

-- a key has this number
abbrev pub IsNumberOf : Option (List ℕ) → Table → ℕ → Type 0
IsNumberOf None t number = ⊥
IsNumberOf (Some key) t number = StandsAt key t.keys number

-- what a key is answered: its number, or that it is unknown
abbrev pub Knows : Option (List ℕ) → Table → Result KeyNumber TenantRefusal → Type 0
Knows key t (Ok number) = IsNumberOf key t number.place
Knows key t (Err e) = (e ≡ UnknownKey) × (holder_of key t ≡ None)

-- ---- rights

abbrev pub rights_in : List ℕ → Holder → Rights
rights_in namespace h = rights_or_none (value_at namespace h.rights)

-- the rights of a key in a namespace
abbrev pub rights_of : Table → ℕ → List ℕ → Rights
rights_of t number namespace = rights_or_none (option_map (rights_in namespace) (holder_at number t))

-- whether a key has a right in a namespace, and else the refusal
abbrev pub may : Table → ℕ → List ℕ → Right → Result (Unit {0}) TenantRefusal
may t number namespace right = if has_right right (rights_of t number namespace) then Ok tt else Err NotGranted

-- the name of a namespace, as a JSON text
abbrev pub name_value : List ℕ × Rights → V
name_value e = text e.0

-- the namespaces in which a key has a right, by their names
abbrev pub granted_names : Table → ℕ → Option (List V)
granted_names t number = option_map (λ h. map name_value h.rights) (holder_at number t)

-- ---- namespaces

abbrev pub limits_or_default : Option Space → NamespaceLimits
limits_or_default None = default_limits
limits_or_default (Some s) = s.limits

abbrev pub limits_of : List ℕ → Table → NamespaceLimits
limits_of namespace t = limits_or_default (value_at namespace t.namespaces)

-- the number of a namespace, 0 of the service's own
abbrev pub number_of : List ℕ → Table → Option ℕ
number_of namespace t = if bytes_eq namespace (codes "whisk.system") then Some 0 else option_map (λ s. s.number) (value_at namespace t.namespaces)

-- the table has a row of the namespace. The service's own has none
abbrev pub is_listed : List ℕ → Table → Bool
is_listed namespace t = is_some (value_at namespace t.namespaces)

-- the memory of all containers, in MB
abbrev pub pool_of : Table → ℕ
pool_of t = unwrap_or t.pool 2048
