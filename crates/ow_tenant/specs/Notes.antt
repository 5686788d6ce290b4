-- What was noted of invocations and of fires, and how many of them count.
use Rattle.std.specs.Prelude.{◌+◌, ◌-◌, ◌&&◌, ℕ, List, [], ◌∷◌, Bool, false, max, nat_lt, nat_le, count_by, if◌then◌else◌, Result, Ok, Err}
use Rattle.std.specs.Str.{bytes_eq}
use Rattle.ow_tenant.specs.declared.limits.NamespaceLimits.{NamespaceLimits}
use Rattle.ow_tenant.specs.declared.refusal.WindowRefusal.{WindowRefusal}
use Rattle.ow_tenant.specs.declared.refusal.WindowRefusal.TheVariants.{MinuteLimit, ConcurrentLimit, FireLimit}

-- an invocation of a namespace was accepted at a moment; a trigger of a namespace was fired at a moment; an invocation of a namespace ended
pub data Note : Type 0 where
  invoked : List ℕ → ℕ → Note
  fired : List ℕ → ℕ → Note
  ended : List ℕ → Note

-- all that was noted, the newest first
abbrev pub Notes : Type 0
Notes = List Note

-- how long one counts, in milliseconds
abbrev pub minute_long : ℕ
minute_long = 60000

-- whether what happened at `at` counts in the minute at `now`
abbrev pub counts_at : ℕ → ℕ → Bool
counts_at now at = nat_lt now (at + minute_long)

abbrev pub is_recent : List ℕ → ℕ → Note → Bool
is_recent namespace now (invoked n at) = bytes_eq n namespace && counts_at now at
is_recent namespace now note = false

abbrev pub is_recent_fire : List ℕ → ℕ → Note → Bool
is_recent_fire namespace now (fired n at) = bytes_eq n namespace && counts_at now at
is_recent_fire namespace now note = false

abbrev pub is_invoked : List ℕ → Note → Bool
is_invoked namespace (invoked n at) = bytes_eq n namespace
is_invoked namespace note = false

abbrev pub is_ended : List ℕ → Note → Bool
is_ended namespace (ended n) = bytes_eq n namespace
is_ended namespace note = false

-- ---- the counts

-- the invocations of the namespace in the minute at `now`
abbrev pub minute : Notes → List ℕ → ℕ → ℕ
minute notes namespace now = count_by (is_recent namespace now) notes

-- the fires of the namespace in the minute at `now`
abbrev pub fires : Notes → List ℕ → ℕ → ℕ
fires notes namespace now = count_by (is_recent_fire namespace now) notes

-- the invocations of the namespace that have not ended
abbrev pub concurrent : Notes → List ℕ → ℕ
concurrent notes namespace = count_by (is_invoked namespace) notes - count_by (is_ended namespace) notes

abbrev pub moment_of : Note → ℕ
moment_of (invoked n at) = at
moment_of (fired n at) = at
moment_of (ended n) = 0

-- the latest moment that was noted
abbrev pub latest : Notes → ℕ
latest [] = 0
latest (note ∷ notes) = max (moment_of note) (latest notes)

-- ---- the limits

-- the first limit that one more invocation would pass
abbrev pub admitted : Notes → List ℕ → NamespaceLimits → ℕ → Result (Unit {0}) WindowRefusal
admitted notes namespace limits now =
    if nat_le limits.per_minute (minute notes namespace now) then Err (MinuteLimit (minute notes namespace now) limits.per_minute)
    else if nat_le limits.concurrent (concurrent notes namespace) then Err (ConcurrentLimit (concurrent notes namespace) limits.concurrent)
    else Ok tt

-- the limit that one more fire would pass
abbrev pub fire_admitted : Notes → List ℕ → NamespaceLimits → ℕ → Result (Unit {0}) WindowRefusal
fire_admitted notes namespace limits now =
    if nat_le limits.fires (fires notes namespace now) then Err (FireLimit (fires notes namespace now) limits.fires) else Ok tt
