-- No acceptance and no fire that is decided passes the limits of its namespace.
use Rattle.std.proofs.Common.{◌≡◌, ◌++◌, ℕ, [], ◌∷◌, Ok, inl, inr, sym, subst}
use Rattle.ow_records.specs.declared.activations.Activation.{Activation}
use Rattle.ow_tables.specs.Rows.{standing}
use Rattle.ow_floor.specs.Trace.{Accepted, Fired, Item, Trace}
use Rattle.ow_tenant.specs.Tenants.{limits_of}
use Rattle.ow_counts.specs.Counts.{admitted, fire_admitted}
use Rattle.ow_counts.specs.Within.{AreWithin, IsWithin}
use Rattle.ow_counts.proofs.Rooms.{fires_had_room, had_room}
use Rattle.ow_decide.specs.declared.events.Event.{Event}
use Rattle.ow_decide.specs.Chain.{AreSteps, IsDecided, IsStep}
use Rattle.ow_decide.specs.Sight.{Sight}
use Rattle.ow_decide.specs.Decisions.{decide}
use Rattle.ow_decide.proofs.ChainLaws.{by_decision}
use Rattle.ow_decide.proofs.DrivenLaws.{driven_caused}

-- what another activation caused is under no limit
within_accepted : (S : Sight) (a : Activation) (T : Trace) → a.at ≡ S.moment → IsDecided S (Accepted a) T → IsWithin (λ n. limits_of n S.tenants) (Accepted a) T
within_accepted S a T now (inl ok) = λ uncaused.
    had_room (λ n. limits_of n S.tenants) a T (subst (λ (m : ℕ). admitted T a.namespace (limits_of a.namespace S.tenants) m ≡ Ok tt) (sym now) ok.admitted)
within_accepted S a T now (inr driven) = λ uncaused. let caused = driven_caused (standing S.rows) S.moment a T driven in cc

within_step : (S : Sight) (item : Item) (T : Trace) → IsStep S item T → IsWithin (λ n. limits_of n S.tenants) item T
within_step S (Accepted a) T step = within_accepted S a T step.at step.is
within_step S (Fired r) T step =
    fires_had_room (λ n. limits_of n S.tenants) r T (subst (λ (m : ℕ). fire_admitted T r.namespace (limits_of r.namespace S.tenants) m ≡ Ok tt) (sym step.at) step.is.admitted)
within_step S item T step = tt

steps_within : (S : Sight) (items : Trace) → AreSteps S items → AreWithin (λ n. limits_of n S.tenants) S.trace → AreWithin (λ n. limits_of n S.tenants) (items ++ S.trace)
steps_within S [] steps within = within
steps_within S (item ∷ items) steps within = (within_step S item (items ++ S.trace) steps.0, steps_within S items steps.1 within)

-- what is decided at an event keeps the limits of the office table
pub decided_within : (S : Sight) (event : Event) → AreWithin (λ n. limits_of n S.tenants) S.trace → AreWithin (λ n. limits_of n S.tenants) ((decide S event).items ++ S.trace)
decided_within S event within =
    by_decision S (λ (items : Trace). AreWithin (λ n. limits_of n S.tenants) (items ++ S.trace)) (λ items steps. steps_within S items steps within) (λ counts rs. (tt, within)) event
