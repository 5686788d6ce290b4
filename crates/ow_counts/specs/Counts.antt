-- What counts against the limits: filters over the activations that were accepted, and over fires.
use Rattle.std.specs.Prelude.{◌&&◌, ℕ, List, Bool, count_by, is_none, is_some, nat_le, if◌then◌else◌, Result, Ok, Err}
use Rattle.std.specs.Str.{bytes_eq}
use Rattle.ow_records.specs.declared.activations.Activation.{Activation}
use Rattle.ow_records.specs.declared.record.Record.{Record}
use Rattle.ow_floor.specs.Trace.{Trace, accepted, fired, standing}
use Rattle.ow_tenant.specs.Notes.{counts_at}
use Rattle.ow_tenant.specs.declared.limits.NamespaceLimits.{NamespaceLimits}
use Rattle.ow_tenant.specs.declared.refusal.WindowRefusal.TheVariants.{MinuteLimit, ConcurrentLimit, FireLimit}
use Rattle.ow_counts.specs.declared.refusal.LimitRefusal.{LimitRefusal}
use Rattle.ow_counts.specs.declared.refusal.LimitRefusal.TheVariants.{OfficeBusy, OfNamespace}

-- no other activation caused it
abbrev pub is_uncaused : Activation → Bool
is_uncaused a = is_none a.cause

-- and it is charged to a namespace
abbrev pub is_charged : List ℕ → Activation → Bool
is_charged namespace a = is_none a.cause && bytes_eq a.namespace namespace

-- and it was accepted in the minute at `now`
abbrev pub is_recent : List ℕ → ℕ → Activation → Bool
is_recent namespace now a = is_none a.cause && (bytes_eq a.namespace namespace && counts_at now a.at)

-- it has not ended
abbrev pub is_open : Trace → Activation → Bool
is_open T a = is_some (standing T a.id)

-- ---- the counts

-- the invocations of the namespace in the minute at `now`
unfoldable pub minute : Trace → List ℕ → ℕ → ℕ
minute T namespace now = count_by (is_recent namespace now) (accepted T)

-- the invocations of the namespace that have not ended
unfoldable pub concurrent : Trace → List ℕ → ℕ
concurrent T namespace = count_by (λ a. is_charged namespace a && is_open T a) (accepted T)

-- the invocations of all namespaces that have not ended
unfoldable pub busy : Trace → ℕ
busy T = count_by (λ a. is_uncaused a && is_open T a) (accepted T)

-- a fire that is charged to a namespace, in the minute at `now`
abbrev pub is_recent_fire : List ℕ → ℕ → Record → Bool
is_recent_fire namespace now r = bytes_eq r.namespace namespace && counts_at now r.span.start

-- the fires of the namespace in the minute at `now`
unfoldable pub fires : Trace → List ℕ → ℕ → ℕ
fires T namespace now = count_by (is_recent_fire namespace now) (fired T)

-- how many invocations of all namespaces the service admits at once
abbrev pub most_busy : ℕ
most_busy = 1000

-- the first limit that one more invocation of the namespace would pass
abbrev pub admitted : Trace → List ℕ → NamespaceLimits → ℕ → Result (Unit {0}) LimitRefusal
admitted T namespace limits now =
    if nat_le most_busy (busy T) then Err OfficeBusy
    else if nat_le limits.per_minute (minute T namespace now) then Err (OfNamespace (MinuteLimit (minute T namespace now) limits.per_minute))
    else if nat_le limits.concurrent (concurrent T namespace) then Err (OfNamespace (ConcurrentLimit (concurrent T namespace) limits.concurrent))
    else Ok tt

-- the limit that one more fire of the namespace would pass
abbrev pub fire_admitted : Trace → List ℕ → NamespaceLimits → ℕ → Result (Unit {0}) LimitRefusal
fire_admitted T namespace limits now =
    if nat_le limits.fires (fires T namespace now) then Err (OfNamespace (FireLimit (fires T namespace now) limits.fires)) else Ok tt

-- what `admitted` answers, by these counts
abbrev pub admitted_by : ℕ → ℕ → ℕ → NamespaceLimits → Result (Unit {0}) LimitRefusal
admitted_by busy minute concurrent limits =
    if nat_le most_busy busy then Err OfficeBusy
    else if nat_le limits.per_minute minute then Err (OfNamespace (MinuteLimit minute limits.per_minute))
    else if nat_le limits.concurrent concurrent then Err (OfNamespace (ConcurrentLimit concurrent limits.concurrent))
    else Ok tt
