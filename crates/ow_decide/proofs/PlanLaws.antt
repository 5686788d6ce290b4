-- What is planned, and what is done of it.
use Rattle.std.proofs.Common.{◌≡◌, ◌∙◌, ◌+◌, ◌++◌, ℕ, [], Bool, false, List, Option, Result, Ok, Err, refl, ap, sym, subst}
use Rattle.ow_entity.specs.declared.rows.Row.{Row}
use Rattle.ow_floor.specs.Calls.{accept_items, moved}
use Rattle.ow_floor.specs.Laws.{Stands}
use Rattle.ow_floor.specs.View.{Shown}
use Rattle.ow_floor.specs.declared.activations.Plan.{Plan}
use Rattle.ow_floor.specs.declared.moves.Moved.{Moved}
use Rattle.ow_http.specs.Steps.{◌>>=◌}
use Rattle.ow_http.specs.declared.reason.Reason.{Reason}
use Rattle.ow_row_text.specs.Bytes.{bytes_of}
use Rattle.ow_commits.specs.Kept.{kept, others_bytes}
use Rattle.ow_tables.specs.Rows.{standing}
use Rattle.ow_tenant.specs.Tenants.{limits_of}
use Rattle.ow_traits.specs.Changes.{changed}
use Rattle.ow_trees.specs.Steps.{steps_after}
use Rattle.ow_counts.specs.Counts.{admitted}
use Rattle.ow_counts.specs.declared.refusal.LimitRefusal.{LimitRefusal}
use Rattle.ow_floor.specs.Trace.{is_draining, last}
use Rattle.ow_value.specs.Value.{Pairs}
use Rattle.ow_decide.specs.declared.call_steps.Callee.{Callee}
use Rattle.ow_decide.specs.Calling.{admitted_plan, merged_plan, next_id, plan_for, plan_items, until_of}
use Rattle.ow_decide.specs.Decision.{items_changes}
use Rattle.ow_decide.specs.Making.{admits_made}
use Rattle.ow_decide.specs.Reasons.{draining, store_full}
use Rattle.ow_decide.specs.Sight.{Sight, is_store_full, or_limit}
use Rattle.ow_reads.specs.Steps.{unless}

pub then_then : {X Y Z : Type 0} (r : Result X Reason) (f : X → Result Y Reason) (g : Y → Result Z Reason) → ((r >>= f) >>= g) ≡ (r >>= (λ (x : X). f x >>= g))
then_then (Ok x) f g = refl
then_then (Err reason) f g = refl

-- what is true of rows and a moment is true of the rows and the moment that are seen
pub as_seen : (P : List Row → ℕ → Type 0) (S : Sight) (rs : List Row) (at : ℕ) → S.rows ≡ rs → S.moment ≡ at → P rs at → P S.rows S.moment
as_seen P S rs at rows now p = subst (λ (xs : List Row). P xs S.moment) (sym rows) (subst (λ (m : ℕ). P rs m) (sym now) p)

-- what is planned where the floor takes calls
pub merged_so : (S : Sight) (subject namespace : List ℕ) (blocking : Bool) (c : Callee) (merged : Pairs) (plan : Plan) → is_draining S.trace ≡ false
    → plan ≡ plan_for subject (until_of S.moment blocking c.effective.action) (next_id S c.number) namespace c.effective merged → Ok plan ≡ merged_plan S subject namespace blocking c merged
merged_so S subject namespace blocking c merged plan takes is =
    ap Ok is
    ∙ ap (λ (b : Bool). unless b draining >>= (λ (taken : Unit {0}). Ok (plan_for subject (until_of S.moment blocking c.effective.action) (next_id S c.number) namespace c.effective merged))) (sym takes)

-- the plan of this id, at the moment that is seen
pub planned_so : (S : Sight) (subject namespace : List ℕ) (blocking : Bool) (c : Callee) (merged : Pairs) (plan : Plan) (until : Option ℕ) (at count : ℕ) → S.moment ≡ at
    → until ≡ until_of at blocking c.effective.action → count ≡ last S.trace c.number + 1 → plan ≡ plan_for subject until (record { namespace = c.number; count = count }) namespace c.effective merged
    → plan ≡ plan_for subject (until_of S.moment blocking c.effective.action) (next_id S c.number) namespace c.effective merged
planned_so S subject namespace blocking c merged plan until at count now waits next is =
    is ∙ (ap (λ (u : Option ℕ). plan_for subject u (record { namespace = c.number; count = count }) namespace c.effective merged)
    (waits ∙ ap (λ (m : ℕ). until_of m blocking c.effective.action) (sym now))
    ∙ ap (λ (n : ℕ). plan_for subject (until_of S.moment blocking c.effective.action) (record { namespace = c.number; count = n }) namespace c.effective merged) next)

-- ---- what is done on the floor

-- a plan is admitted, or refused, as the bytes of its commit and the limits say
pub plan_so : (S : Sight) (plan : Plan) (bytes : ℕ) (limit : Result (Unit {0}) LimitRefusal) (r : Result (Unit {0}) Reason)
    → bytes ≡ others_bytes S.others + bytes_of (changed (items_changes (plan_items S plan)) (kept S.rows S.trace)) → limit ≡ admitted S.trace plan.namespace (limits_of plan.namespace S.tenants) S.moment → r ≡ admits_made bytes limit
    → (r >>= (λ (u : Unit {0}). Ok plan)) ≡ admitted_plan S plan
plan_so S plan bytes limit r is allowed same =
    let done : Unit {0} → Result Plan Reason = λ u. Ok plan in
    ap (λ (x : Result (Unit {0}) Reason). x >>= done) same
    ∙ (then_then (unless (is_store_full bytes) store_full) (λ (room : Unit {0}). or_limit limit) done
    ∙ (ap (λ (n : ℕ). unless (is_store_full n) store_full >>= (λ (room : Unit {0}). or_limit limit >>= done)) is
    ∙ ap (λ (l : Result (Unit {0}) LimitRefusal). unless (is_store_full (others_bytes S.others + bytes_of (changed (items_changes (plan_items S plan)) (kept S.rows S.trace)))) store_full >>= (λ (room : Unit {0}). or_limit l >>= done)) allowed))

-- all that moved is of the items of the plan
pub plan_moved : (S : Sight) (plan : Plan) (rs : List Row) (at : ℕ) (ms ns : List Moved) → S.rows ≡ rs → S.moment ≡ at → ms ≡ [] → ns ≡ ms ++ moved (steps_after (standing rs) at S.trace (accept_items at plan))
    → ns ≡ moved (plan_items S plan)
plan_moved S plan rs at ms ns rows now none more =
    as_seen (λ (xs : List Row) (m : ℕ). ns ≡ moved (steps_after (standing xs) m S.trace (accept_items m plan))) S rs at rows now
    (more ∙ ap (λ (os : List Moved). os ++ moved (steps_after (standing rs) at S.trace (accept_items at plan))) none)

-- and the floor has them
pub plan_stands : (S : Sight) (plan : Plan) (rs : List Row) (at : ℕ) (v : Shown) → S.rows ≡ rs → S.moment ≡ at → Stands v (steps_after (standing rs) at S.trace (accept_items at plan) ++ S.trace)
    → Stands v (plan_items S plan ++ S.trace)
plan_stands S plan rs at v rows now stands =
    as_seen (λ (xs : List Row) (m : ℕ). Stands v (steps_after (standing xs) m S.trace (accept_items m plan) ++ S.trace)) S rs at rows now stands
