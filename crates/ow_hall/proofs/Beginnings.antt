-- Each legal book and each of its beginnings keeps every activation, the limits, and the steps of composites.
use Rattle.std.proofs.Common.{◌≡◌, ◌++◌, [], ◌∷◌, Option, None, refl, subst}
use Rattle.ow_records.specs.declared.ids.Id.{Id}
use Rattle.ow_records.specs.declared.outcomes.Ending.{Ending}
use Rattle.ow_floor.specs.Trace.{Accepted, Ended, Item, Trace, firing}
use Rattle.ow_floor.specs.Laws.{IsSound}
use Rattle.ow_floor.proofs.Coming.{calls_keep_sound}
use Rattle.ow_floor.proofs.Soundness.{all_recorded, parted, runs_once}
use Rattle.ow_tables.specs.Rows.{standing}
use Rattle.ow_tenant.specs.Table.{Table}
use Rattle.ow_tenant.specs.Tenants.{limits_of, pool_of}
use Rattle.ow_trees.specs.Owed.{AreOwed, IsCalled, IsComposed, IsOwed}
use Rattle.ow_counts.specs.Within.{AreWithin}
use Rattle.ow_hall.specs.declared.entry.Entry.{Entry}
use Rattle.ow_hall.specs.History.{History, counted, seen, sight}
use Rattle.ow_hall.specs.Beginnings.{ChildrenAreSteps, EndsAreSteps, IsKept, KeepsEach, KeepsLimits, KeepsSteps, items_at}
use Rattle.ow_decide.proofs.LimitLaws.{decided_within}
use Rattle.ow_decide.proofs.OwedLaws.{decided_owed}
use Rattle.ow_decide.proofs.SoundLaws.{decided_sound}
use Rattle.ow_decide.proofs.CloseLaws.{decided_closes}

pub seen_sound : (t : Table) (B : History) → IsSound (seen t B).trace
seen_sound t [] = calls_keep_sound.start (pool_of t) t.wants
seen_sound t (e ∷ B) = decided_sound (sight t (seen t B) (counted B) e.at) e.event (seen_sound t B)

seen_closed : (t : Table) (B : History) → firing (seen t B).trace ≡ None
seen_closed t [] = refl
seen_closed t (e ∷ B) = decided_closes (sight t (seen t B) (counted B) e.at) e.event (seen t B).trace (seen_closed t B)

-- ---- what is kept

kept : (T : Trace) → IsSound T → firing T ≡ None → IsKept T
kept T sound closed =
    record { parted = parted T sound; once = runs_once T sound; known = sound.known; drained = all_recorded T sound; closed = closed; within = sound.slotted.within }

pub keeps_each : (t : Table) (B : History) → KeepsEach t B
keeps_each t [] = kept (seen t []).trace (seen_sound t []) (seen_closed t [])
keeps_each t (e ∷ B) = (kept (seen t (e ∷ B)).trace (seen_sound t (e ∷ B)) (seen_closed t (e ∷ B)), keeps_each t B)

seen_within : (t : Table) (B : History) → AreWithin (λ namespace. limits_of namespace t) (seen t B).trace
seen_within t [] = (tt, tt)
seen_within t (e ∷ B) = decided_within (sight t (seen t B) (counted B) e.at) e.event (seen_within t B)

pub keeps_limits : (t : Table) (B : History) → KeepsLimits t B
keeps_limits t [] = seen_within t []
keeps_limits t (e ∷ B) = (seen_within t (e ∷ B), keeps_limits t B)

-- ---- what composites do

owed_at : (t : Table) (e : Entry) (B : History) → AreOwed (standing (seen t B).rows) e.at (items_at t e B) (seen t B).trace
owed_at t e B = decided_owed (sight t (seen t B) (counted B) e.at) e.event

pub keeps_steps : (t : Table) (B : History) → KeepsSteps t B
keeps_steps t [] = tt
keeps_steps t (e ∷ B) = (owed_at t e B, keeps_steps t B)

-- one of many items is owed
owed_one : (t : Table) (e : Entry) (B : History) (later : Trace) (item : Item) (before : Trace) → AreOwed (standing (seen t B).rows) e.at (later ++ (item ∷ before)) (seen t B).trace
    → IsOwed (standing (seen t B).rows) e.at item (before ++ (seen t B).trace)
owed_one t e B [] item before owed = owed.0
owed_one t e B (x ∷ later) item before owed = owed_one t e B later item before owed.1

one_of : (t : Table) (e : Entry) (B : History) (later : Trace) (item : Item) (before : Trace) → items_at t e B ≡ later ++ (item ∷ before)
    → IsOwed (standing (seen t B).rows) e.at item (before ++ (seen t B).trace)
one_of t e B later item before is =
    owed_one t e B later item before (subst (λ (items : Trace). AreOwed (standing (seen t B).rows) e.at items (seen t B).trace) is (owed_at t e B))

pub children_steps : (t : Table) (e : Entry) (B : History) → ChildrenAreSteps t e B
children_steps t e B later before a cause is caused =
    subst (λ (o : Option Id). IsCalled (standing (seen t B).rows) e.at a o (before ++ (seen t B).trace)) caused (one_of t e B later (Accepted a) before is)

pub ends_steps : (t : Table) (e : Entry) (B : History) → EndsAreSteps t e B
ends_steps t e B later before end response children is composed =
    subst (λ (x : Ending). IsComposed (standing (seen t B).rows) e.at end x (before ++ (seen t B).trace)) composed (one_of t e B later (Ended end) before is)
