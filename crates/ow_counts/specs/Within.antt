-- That no acceptance and no fire passes the limits of its namespace.
use Rattle.std.specs.Prelude.{◌≡◌, ◌<◌, ℕ, true, List, [], ◌∷◌, is_none}
use Rattle.ow_records.specs.declared.activations.Activation.{Activation}
use Rattle.ow_floor.specs.Trace.{Item, Trace, Accepted, Fired}
use Rattle.ow_tenant.specs.declared.limits.NamespaceLimits.{NamespaceLimits}
use Rattle.ow_counts.specs.Counts.{busy, concurrent, fires, minute, most_busy}

-- the limits of each namespace
abbrev pub LimitsByName : Type 0
LimitsByName = List ℕ → NamespaceLimits

-- as it was accepted, after these items, its namespace and the service had not reached their limits
pub record HadRoom (limits : LimitsByName) (a : Activation) (T : Trace) : Type 0 where
  pub busy : busy T < most_busy
  pub minute : minute T a.namespace a.at < (limits a.namespace).per_minute
  pub concurrent : concurrent T a.namespace < (limits a.namespace).concurrent

-- one that no other activation caused had room; as a fire was recorded, its namespace had not reached its limit of fires
abbrev pub IsWithin : LimitsByName → Item → Trace → Type 0
IsWithin limits (Accepted a) T = is_none a.cause ≡ true → HadRoom limits a T
IsWithin limits (Fired r) T = fires T r.namespace r.span.start < (limits r.namespace).fires
IsWithin limits item T = Unit {0}

-- each of them had
abbrev pub AreWithin : LimitsByName → Trace → Type 0
AreWithin limits [] = Unit {0}
AreWithin limits (item ∷ T) = IsWithin limits item T × AreWithin limits T
