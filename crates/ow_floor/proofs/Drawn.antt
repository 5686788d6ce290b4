-- The last count of each namespace.
use Rattle.std.proofs.Common.{◌≡◌, ◌==◌, ℕ, Bool, true, false, cond, List, [], ◌∷◌, ◌++◌, Option, Some, None, refl, ap, ◌∙◌, arith}
use Rattle.std.specs.List.{find, AllByRecursion, IsDistinct}
use Rattle.std.proofs.lemmas.Bool.Decides.{nat_tests}
use Rattle.ow_records.specs.declared.ids.Id.{Id}
use Rattle.ow_slots.specs.Slots.{change_first}
use Rattle.ow_floor.specs.View.{count_or_zero, is_in, last_of, put_id, same_namespace}
use Rattle.ow_floor.specs.Trace.{Trace, Item, Opened, Resumed, Accepted, Ordered, Prewarming, Removed, Begun, Answered, Lost, Gone, Ended, Drawn, Fired, Swept, Drained, Reopened, Archived, drawn, last}

last_here : (id x : Id) (n before after : ℕ) (b c : Bool) → (x.namespace == id.namespace) ≡ false → (x.namespace == n) ≡ b → (id.namespace == n) ≡ c
    → after ≡ cond c id.count before → cond b x.count after ≡ cond c id.count (cond b x.count before)
last_here id x n before after true true differ e f h = absurd (grind (arith, nat_tests))
last_here id x n before after true false differ e f h = refl
last_here id x n before after false c differ e f h = h

last_same : (id x : Id) (n before : ℕ) (b c : Bool) → (x.namespace == id.namespace) ≡ true → (x.namespace == n) ≡ b → (id.namespace == n) ≡ c
    → cond c id.count before ≡ cond c id.count (cond b x.count before)
last_same id x n before b true same e f = refl
last_same id x n before true false same e f = absurd (grind (arith, nat_tests))
last_same id x n before false false same e f = refl

count_at : (b : Bool) (x : Id) (rest : Option Id) → count_or_zero (cond b (Some x) rest) ≡ cond b x.count (count_or_zero rest)
count_at true x rest = refl
count_at false x rest = refl

last_step : (id x : Id) (xs : List Id) (n : ℕ) (b : Bool) → (x.namespace == id.namespace) ≡ b
    → last_of (put_id id xs) n ≡ cond (id.namespace == n) id.count (last_of xs n)
    → last_of (put_id id (x ∷ xs)) n ≡ cond (id.namespace == n) id.count (last_of (x ∷ xs) n)
unfolding put_id
last_step id x xs n true same rest =
    rw (same, count_at (id.namespace == n) id (find (is_in n) xs), count_at (x.namespace == n) x (find (is_in n) xs))
    (last_same id x n (last_of xs n) (x.namespace == n) (id.namespace == n) same refl refl)
last_step id x xs n false differ rest =
    rw (differ, count_at (x.namespace == n) x (find (is_in n) (put_id id xs)), count_at (x.namespace == n) x (find (is_in n) xs))
    (last_here id x n (last_of xs n) (last_of (put_id id xs) n) (x.namespace == n) (id.namespace == n) differ refl refl rest)

-- an id that is noted is the last of its namespace, and the others stay
pub last_put : (id : Id) (xs : List Id) (n : ℕ) → last_of (put_id id xs) n ≡ cond (id.namespace == n) id.count (last_of xs n)
unfolding put_id
last_put id [] n = count_at (id.namespace == n) id None
last_put id (x ∷ xs) n = last_step id x xs n (x.namespace == id.namespace) refl (last_put id xs n)

put_there_at : (id x : Id) (xs : List Id) (b : Bool) (d : Id) → is_in id.namespace x ≡ b → find (is_in id.namespace) (x ∷ xs) ≡ Some d
    → (find (is_in id.namespace) xs ≡ Some d → change_first (is_in id.namespace) (λ y. id) xs ≡ put_id id xs)
    → change_first (is_in id.namespace) (λ y. id) (x ∷ xs) ≡ put_id id (x ∷ xs)
unfolding put_id change_first
put_there_at id x xs true d e found rest = rw e refl
put_there_at id x xs false d e found rest = rw e (ap (λ ys. x ∷ ys) (rest (rw e at found)))

-- where its namespace has an id already, that one is replaced
pub put_there : (id : Id) (xs : List Id) (d : Id) → find (is_in id.namespace) xs ≡ Some d
    → change_first (is_in id.namespace) (λ y. id) xs ≡ put_id id xs
put_there id [] d found = cc
put_there id (x ∷ xs) d found = put_there_at id x xs (is_in id.namespace x) d refl found (put_there id xs d)

put_new_at : (id x : Id) (xs : List Id) (b : Bool) → is_in id.namespace x ≡ b → find (is_in id.namespace) (x ∷ xs) ≡ None
    → (find (is_in id.namespace) xs ≡ None → xs ++ id ∷ [] ≡ put_id id xs) → (x ∷ xs) ++ id ∷ [] ≡ put_id id (x ∷ xs)
unfolding put_id
put_new_at id x xs true e found rest = let h : Some x ≡ None = rw e at found in cc
put_new_at id x xs false e found rest = rw e (ap (λ ys. x ∷ ys) (rest (rw e at found)))

-- where its namespace has none, the id is added at the end
pub put_new : (id : Id) (xs : List Id) → find (is_in id.namespace) xs ≡ None → xs ++ id ∷ [] ≡ put_id id xs
unfolding put_id
put_new id [] found = refl
put_new id (x ∷ xs) found = put_new_at id x xs (is_in id.namespace x) refl found (put_new id xs)

-- the last count of each namespace, as the trace gives it
pub drawn_last : (T : Trace) (n : ℕ) → last_of (drawn T) n ≡ last T n
drawn_last [] n = refl
drawn_last (item ∷ T) n = of_item item T n (drawn_last T n)
  where
    of_item : (item : Item) (T : Trace) (n : ℕ) → last_of (drawn T) n ≡ last T n → last_of (drawn (item ∷ T)) n ≡ last (item ∷ T) n
    of_item (Opened pool wants) T n e = e
    of_item (Resumed counts rs) T n e = refl
    of_item (Accepted a) T n e = last_put a.id (drawn T) n ∙ ap (λ k. cond (a.id.namespace == n) a.id.count k) e
    of_item (Ordered run key) T n e = e
    of_item (Prewarming order at) T n e = e
    of_item (Removed containers at) T n e = e
    of_item (Begun run at) T n e = e
    of_item (Answered run alive at) T n e = e
    of_item (Lost run at) T n e = e
    of_item (Gone slot generation at) T n e = e
    of_item (Ended end) T n e = e
    of_item (Drawn id at) T n e = last_put id (drawn T) n ∙ ap (λ k. cond (id.namespace == n) id.count k) e
    of_item (Fired r) T n e = e
    of_item (Swept at) T n e = e
    of_item (Drained at) T n e = e
    of_item (Reopened at) T n e = e
    of_item (Archived until at) T n e = e

-- ---- each namespace once

others_at : (y id x : Id) (xs : List Id) (b : Bool) → is_in id.namespace x ≡ b → same_namespace y id ≡ false → same_namespace y x ≡ false → AllByRecursion (λ z. same_namespace y z ≡ false) xs
    → AllByRecursion (λ z. same_namespace y z ≡ false) (put_id id xs) → AllByRecursion (λ z. same_namespace y z ≡ false) (put_id id (x ∷ xs))
unfolding put_id
others_at y id x xs true e new here all rest = rw e (new, all)
others_at y id x xs false e new here all rest = rw e (here, rest)

others_put : (y id : Id) (xs : List Id) → same_namespace y id ≡ false → AllByRecursion (λ z. same_namespace y z ≡ false) xs → AllByRecursion (λ z. same_namespace y z ≡ false) (put_id id xs)
unfolding put_id
others_put y id [] new all = (new, tt)
others_put y id (x ∷ xs) new all = others_at y id x xs (is_in id.namespace x) refl new all.0 all.1 (others_put y id xs new all.1)

others_of : (id x : Id) (xs : List Id) → is_in id.namespace x ≡ true → AllByRecursion (λ z. same_namespace x z ≡ false) xs → AllByRecursion (λ z. same_namespace id z ≡ false) xs
others_of id x xs e all = let same : x.namespace ≡ id.namespace = grind (arith, nat_tests) in rw (← same) all

once_at : (id x : Id) (xs : List Id) (b : Bool) → is_in id.namespace x ≡ b → IsDistinct same_namespace (x ∷ xs) → IsDistinct same_namespace (put_id id xs) → IsDistinct same_namespace (put_id id (x ∷ xs))
unfolding put_id IsDistinct
once_at id x xs true e once rest = rw e (others_of id x xs e once.0, once.1)
once_at id x xs false e once rest = rw e (others_put x id xs e once.0, rest)

-- one last id of each namespace
pub once_put : (id : Id) (xs : List Id) → IsDistinct same_namespace xs → IsDistinct same_namespace (put_id id xs)
unfolding put_id IsDistinct
once_put id [] once = (tt, tt)
once_put id (x ∷ xs) once = once_at id x xs (is_in id.namespace x) refl once (once_put id xs once.1)
