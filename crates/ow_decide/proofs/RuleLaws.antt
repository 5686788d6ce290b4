-- The limits after what was made so far.
use Rattle.std.proofs.Common.{◌≡◌, ◌∙◌, ◌++◌, ℕ, List, Result, ap, subst, sym}
use Rattle.ow_entity.specs.declared.rows.Row.{Row}
use Rattle.ow_floor.specs.Calls.{moved}
use Rattle.ow_floor.specs.Laws.{IsSound}
use Rattle.ow_floor.specs.Trace.{Trace}
use Rattle.ow_floor.specs.View.{Shown}
use Rattle.ow_floor.specs.declared.moves.Moved.{Moved}
use Rattle.ow_counts.specs.Counts.{admitted}
use Rattle.ow_counts.specs.View.{AreUpTo, CountsView, StandsFor, notes_of}
use Rattle.ow_counts.specs.declared.refusal.LimitRefusal.{LimitRefusal}
use Rattle.ow_tenant.specs.Table.{Table}
use Rattle.ow_tenant.specs.Tenants.{limits_of}
use Rattle.ow_tenant.specs.declared.limits.NamespaceLimits.{NamespaceLimits}
use Rattle.ow_decide.specs.Firing.{seeing}
use Rattle.ow_decide.specs.Making.{IsUnderway}
use Rattle.ow_decide.specs.Sight.{Sight, or_limit, within_limits}
use Rattle.ow_decide.specs.declared.step.Now.{Now}

-- what the counts answer after these moves is what the limits say after their items
pub within_after : (S : Sight) (items : Trace) (t : Table) (rs : List Row) (k : CountsView) (now : Now) (v : Shown) (ms : List Moved) (namespace : List ℕ) (at : ℕ) (limits : NamespaceLimits) (answer : Result (Unit {0}) LimitRefusal)
    → now.at ≡ at → IsUnderway S items t rs k now v ms → limits ≡ limits_of namespace t
    → ((T xs : Trace) → StandsFor k (notes_of T) → IsSound (xs ++ T) → AreUpTo at (xs ++ T) → AreUpTo at T → ms ≡ moved xs → answer ≡ admitted (xs ++ T) namespace limits at)
    → or_limit answer ≡ within_limits (seeing items S) namespace
within_after S items t rs k now v ms namespace at limits answer same u is answers =
    let said = answers S.trace items u.counts.stands u.stands.sound (subst (λ (m : ℕ). AreUpTo m (items ++ S.trace)) same u.up_to) (subst (λ (m : ℕ). AreUpTo m S.trace) same u.counts.up_to) u.moves in
    ap or_limit (said ∙ (ap (λ (l : NamespaceLimits). admitted (items ++ S.trace) namespace l at) (is ∙ ap (limits_of namespace) (sym u.tenants))
    ∙ ap (admitted (items ++ S.trace) namespace (limits_of namespace S.tenants)) (sym (u.moment ∙ same))))
