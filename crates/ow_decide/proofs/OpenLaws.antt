-- What is taken over at an opening may be taken over by a floor, and what kept rows hold is taken over.
use Rattle.std.proofs.Common.{◌≡◌, ◌≤◌, ◌&&◌, ℕ, Bool, true, false, not, List, [], ◌∷◌, Result, Ok, Err, refl, ap}
use Rattle.std.specs.List.{AllByRecursion, IsDistinct}
use Rattle.std.proofs.lemmas.Bool.{and_from, and_parts, le-leb, leb-true, not-true}
use Rattle.ow_floor.specs.Growth.{AreResumable, AreRight, IsFresh}
use Rattle.ow_floor.specs.Trace.{Item as Happened, Opened, Trace, shown}
use Rattle.ow_floor.specs.View.{last_of, same_namespace, same_record}
use Rattle.ow_row_text.specs.declared.item.Item.{Item}
use Rattle.ow_keep.specs.Split.{Parts, split}
use Rattle.ow_commits.specs.Opening.{resumed_records}
use Rattle.ow_records.specs.declared.ids.Id.{Id}
use Rattle.ow_records.specs.declared.record.Record.{Record}
use Rattle.ow_decide.specs.Opening.{all_pass, are_distinct, are_resumable, is_first, is_fresh, opened_decision, parts_taken, taken_if, taken_over}

-- ---- tests

all_by : {X : Type 0} (p : X → Bool) (P : X → Type 0) (xs : List X) → ((x : X) → p x ≡ true → P x) → all_pass p xs ≡ true → AllByRecursion P xs
all_by p P [] each h = tt
all_by p P (x ∷ xs) each h = let both = and_parts (p x) (all_pass p xs) h in (each x both.0, all_by p P xs each both.1)

pass_by : {X : Type 0} (p : X → Bool) (P : X → Type 0) (xs : List X) → ((x : X) → P x → p x ≡ true) → AllByRecursion P xs → all_pass p xs ≡ true
pass_by p P [] each h = refl
pass_by p P (x ∷ xs) each h = and_from (p x) (all_pass p xs) (each x h.0) (pass_by p P xs each h.1)

distinct_by : {X : Type 0} (same : X → X → Bool) (xs : List X) → are_distinct same xs ≡ true → IsDistinct same xs
unfolding IsDistinct
distinct_by same [] h = tt
distinct_by same (x ∷ xs) h =
    let both = and_parts (all_pass (λ y. not (same x y)) xs) (are_distinct same xs) h in
    (all_by (λ y. not (same x y)) (λ y. same x y ≡ false) xs (λ y. not-true (same x y)) both.0, distinct_by same xs both.1)

by_distinct : {X : Type 0} (same : X → X → Bool) (xs : List X) → IsDistinct same xs → are_distinct same xs ≡ true
unfolding IsDistinct
by_distinct same [] h = refl
by_distinct same (x ∷ xs) h =
    and_from (all_pass (λ y. not (same x y)) xs) (are_distinct same xs) (pass_by (λ y. not (same x y)) (λ y. same x y ≡ false) xs (λ y e. ap not e) h.0) (by_distinct same xs h.1)

-- what passes the test may be taken over by a floor
pub resumable : (counts : List Id) (rs : List Record) → are_resumable counts rs ≡ true → AreResumable counts rs
resumable counts rs h =
    let both = and_parts (are_distinct same_namespace counts) _ h in
    let rest = and_parts (are_distinct same_record rs) _ both.1 in
    record {
      namespaces = distinct_by same_namespace counts both.0;
      apart = distinct_by same_record rs rest.0;
      drawn = all_by _ (λ r. r.id.count ≤ last_of counts r.id.namespace) rs (λ r. leb-true _ _) rest.1;
    }

-- and what may passes it
pub by_resumable : (counts : List Id) (rs : List Record) → AreResumable counts rs → are_resumable counts rs ≡ true
by_resumable counts rs h =
    and_from (are_distinct same_namespace counts) _ (by_distinct same_namespace counts h.namespaces)
    (and_from (are_distinct same_record rs) _ (by_distinct same_record rs h.apart) (pass_by _ (λ r. r.id.count ≤ last_of counts r.id.namespace) rs (λ r. le-leb _ _) h.drawn))

-- ---- openings

fresh_at : (item : Happened) (T : Trace) → is_first item T ≡ true → IsFresh (shown (item ∷ T))
fresh_at (Opened pool wants) [] h = record { open_items = refl; live = refl; records = refl; recorded = refl; drawn = refl }
fresh_at (Opened pool wants) (x ∷ T) h = cc
fresh_at item T h = cc

fresh_so : (T : Trace) → is_fresh T ≡ true → IsFresh (shown T)
fresh_so [] h = cc
fresh_so (item ∷ T) h = fresh_at item T h

right_if : (at : ℕ) (T : Trace) (p : Parts) (b : Bool) → (is_fresh T && are_resumable p.counts (resumed_records at p.unrecorded p.records)) ≡ b → AreRight (opened_decision at (taken_if b p)).items (shown T)
right_if at T p true e = let both = and_parts (is_fresh T) _ e in (((fresh_so T both.0, resumable p.counts (resumed_records at p.unrecorded p.records) both.1), tt), tt)
right_if at T p false e = tt

-- what is taken over may be
pub right_opened : (at : ℕ) (T : Trace) (held : Result (List Item) (List ℕ)) → AreRight (opened_decision at (parts_taken at T held)).items (shown T)
right_opened at T (Ok items) = right_if at T (split items) _ refl
right_opened at T (Err key) = tt

-- what rows hold is taken over where nothing happened yet
pub held_taken : (at : ℕ) (T : Trace) (items : List Item) → is_fresh T ≡ true → AreResumable (split items).counts (resumed_records at (split items).unrecorded (split items).records)
    → opened_decision at (parts_taken at T (Ok items)) ≡ taken_over at (split items)
held_taken at T items fresh may =
    ap (λ (b : Bool). opened_decision at (taken_if b (split items))) (and_from (is_fresh T) _ fresh (by_resumable (split items).counts (resumed_records at (split items).unrecorded (split items).records) may))
