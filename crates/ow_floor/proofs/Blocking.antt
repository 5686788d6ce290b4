-- For whose end a request waits.
use Rattle.std.proofs.Common.{◌≡◌, ◌<◌, ◌++◌, ℕ, zero, suc, Bool, true, false, cond, List, [], ◌∷◌, Option, Some, None, length, drop, drop-cons, get_or, refl, ap, ◌∙◌}
use Rattle.std.specs.List.{find}
use Rattle.ow_records.specs.declared.ids.Id.{Id}
use Rattle.ow_records.specs.Id.{same_id}
use Rattle.ow_records.specs.declared.record.Record.{Record}
use Rattle.ow_floor.specs.declared.lists.Blocking.{Blocking}
use Rattle.ow_floor.specs.Collecting.{collected, collected_by}
use Rattle.ow_floor.specs.Laws.{Stands}
use Rattle.ow_records.specs.Records.{is_of_id}
use Rattle.std.specs.Option.{option_or}
use Rattle.ow_floor.specs.View.{Shown, wait_in}
use Rattle.ow_floor.specs.Trace.{Trace, Item, Opened, Resumed, Accepted, Ordered, Prewarming, Removed, Begun, Answered, Lost, Gone, Ended, Drawn, Fired, Swept, Drained, Reopened, Archived, blocked_by, blocking, wait_of}

newest_more : {X : Type 0} (a b c : Option X) → option_or (option_or a b) c ≡ option_or a (option_or b c)
newest_more None b c = refl
newest_more (Some x) b c = refl

wait_push : (id : Id) (bs : List Blocking) (b : Blocking) → wait_in id (bs ++ b ∷ []) ≡ option_or (cond (same_id b.id id) (Some b.until) None) (wait_in id bs)
wait_push id [] b = none (cond (same_id b.id id) (Some b.until) None)
  where
    none : (o : Option ℕ) → option_or None o ≡ option_or o None
    none None = refl
    none (Some n) = refl
wait_push id (x ∷ bs) b =
    ap (λ w. option_or w (cond (same_id x.id id) (Some x.until) None)) (wait_push id bs b)
    ∙ newest_more (cond (same_id b.id id) (Some b.until) None) (wait_in id bs) (cond (same_id x.id id) (Some x.until) None)

wait_none : (b : Bool) (w : Option ℕ) → w ≡ option_or (cond b None None) w
wait_none true w = refl
wait_none false w = refl

wait_accepted : (id own : Id) (until : Option ℕ) (bs : List Blocking) → wait_in id (blocked_by own until bs) ≡ option_or (cond (same_id own id) until None) (wait_in id bs)
wait_accepted id own None bs = wait_none (same_id own id) (wait_in id bs)
wait_accepted id own (Some until) bs = wait_push id bs (record { id = own; until = until })

-- the moment until which a request waits, as the trace gives it
pub wait_told : (T : Trace) (id : Id) → wait_in id (blocking T) ≡ wait_of T id
wait_told [] id = refl
wait_told (item ∷ T) id = of_item item T id (wait_told T id)
  where
    of_item : (item : Item) (T : Trace) (id : Id) → wait_in id (blocking T) ≡ wait_of T id → wait_in id (blocking (item ∷ T)) ≡ wait_of (item ∷ T) id
    of_item (Opened pool wants) T id e = e
    of_item (Resumed counts rs) T id e = e
    of_item (Accepted a) T id e = wait_accepted id a.id a.until (blocking T) ∙ ap (option_or (cond (same_id a.id id) a.until None)) e
    of_item (Ordered run key) T id e = e
    of_item (Prewarming order at) T id e = e
    of_item (Removed containers at) T id e = e
    of_item (Begun run at) T id e = e
    of_item (Answered run alive at) T id e = e
    of_item (Lost run at) T id e = e
    of_item (Gone slot generation at) T id e = e
    of_item (Ended end) T id e = e
    of_item (Drawn own at) T id e = e
    of_item (Fired r) T id e = e
    of_item (Swept at) T id e = e
    of_item (Drained at) T id e = e
    of_item (Reopened at) T id e = refl
    of_item (Archived until at) T id e = e

-- ---- from the newest backwards

-- what is found among the last ones is found
pub wait_found : (id : Id) (n : ℕ) (bs : List Blocking) (until : ℕ) → wait_in id (drop n bs) ≡ Some until → wait_in id bs ≡ Some until
wait_found id n [] until found = empty n found
  where
    empty : (n : ℕ) → wait_in id (drop n []) ≡ Some until → wait_in id [] ≡ Some until
    empty zero h = h
    empty (suc n) h = h
wait_found id zero (b ∷ bs) until found = found
wait_found id (suc n) (b ∷ bs) until found = rw (wait_found id n bs until found) refl

-- one place further back
pub wait_back : (id : Id) (bs : List Blocking) (i : ℕ) (d : Blocking) (b : Bool) → i < length bs → same_id (get_or bs i d).id id ≡ b → wait_in id (drop (suc i) bs) ≡ None
    → wait_in id (drop i bs) ≡ cond b (Some (get_or bs i d).until) None
wait_back id bs i d b lt is none = ap (wait_in id) (drop-cons bs i d lt) ∙ rw (none, is) refl

-- ---- the answers

pub collected_told : (v : Shown) (at : ℕ) (id : Id) (wait : Option ℕ) (ended : Option Record) → wait ≡ wait_in id v.blocking → ended ≡ find (is_of_id id) v.records
    → (T : Trace) → Stands v T → collected_by at wait ended ≡ collected at id T
collected_told v at id wait ended waits has T st =
    let w : wait ≡ wait_of T id = waits ∙ (ap (λ (u : Shown). wait_in id u.blocking) st.is ∙ wait_told T id) in
    ap (λ o. collected_by at o ended) w ∙ ap (collected_by at (wait_of T id)) (has ∙ ap (λ (u : Shown). find (is_of_id id) u.records) st.is)
