-- How often an id occurs in a list.
use Rattle.std.proofs.Common.{◌≡◌, ◌+◌, ◌≤◌, ◌++◌, ℕ, suc, Bool, true, false, cond, List, [], ◌∷◌, Some, length, map, refl, sym, ap, ◌∙◌, arith, subst}
use Rattle.std.specs.List.{find, filter}
use Rattle.std.proofs.lemmas.Bool.Decides.{nat_tests}
use Rattle.ow_records.specs.declared.ids.Id.{Id}
use Rattle.ow_records.specs.Id.{same_id}
use Rattle.ow_records.specs.declared.activations.Activation.{Activation}
use Rattle.ow_floor.specs.declared.activations.Open.{Open}
use Rattle.ow_floor.specs.declared.activations.State.{State}
use Rattle.ow_slots.specs.Slots.{change_first}
use Rattle.ow_floor.specs.View.{waits, runs_now, ids_of, with_state, remove_first}
use Rattle.ow_floor.specs.Laws.{times, IsApart, AreApart}

abbrev pub one_if : Bool → ℕ
one_if b = cond b 1 0

-- one more at the end
pub times-push : {X : Type 0} (f : X → Id) (id : Id) (xs : List X) (x : X) → times id (map f (xs ++ x ∷ [])) ≡ times id (map f xs) + one_if (same_id id (f x))
times-push f id [] x = omega arith
times-push f id (y ∷ ys) x = let h = times-push f id ys x in omega (arith, h)

-- a run that starts leaves the ids
pub ids_of-started : (p : Open → Bool) (q : State) (os : List Open) → ids_of (change_first p (with_state q) os) ≡ ids_of os
unfolding change_first
ids_of-started p q [] = refl
ids_of-started p q (o ∷ os) = at (p o) (ids_of-started p q os)
  where
    at : (b : Bool) → ids_of (change_first p (with_state q) os) ≡ ids_of os
        → ids_of (cond b (with_state q o ∷ os) (o ∷ change_first p (with_state q) os)) ≡ ids_of (o ∷ os)
    at true rest = refl
    at false rest = ap (λ xs. o.task.id ∷ xs) rest

pub length-started : (p : Open → Bool) (q : State) (os : List Open) → length (change_first p (with_state q) os) ≡ length os
unfolding change_first
length-started p q [] = refl
length-started p q (o ∷ os) = at (p o) (length-started p q os)
  where
    at : (b : Bool) → length (change_first p (with_state q) os) ≡ length os
        → length (cond b (with_state q o ∷ os) (o ∷ change_first p (with_state q) os)) ≡ length (o ∷ os)
    at true rest = refl
    at false rest = ap suc rest

removed_at : (p : Open → Bool) (id : Id) (x o : Open) (os : List Open) (b : Bool) → p x ≡ b → find p (x ∷ os) ≡ Some o
    → (find p os ≡ Some o → times id (ids_of os) ≡ times id (ids_of (remove_first p os)) + one_if (same_id id o.task.id))
    → times id (ids_of (x ∷ os)) ≡ times id (ids_of (remove_first p (x ∷ os))) + one_if (same_id id o.task.id)
unfolding remove_first
removed_at p id x o os true e found rest =
    let h : Some x ≡ Some o = rw e at found in
    let same : x ≡ o = cc in
    rw e (subst (λ (z : Open). times id (ids_of (x ∷ os)) ≡ times id (ids_of os) + one_if (same_id id z.task.id)) same (omega arith))
removed_at p id x o os false e found rest = let h = rest (rw e at found) in rw e (omega (arith, h))

-- the id of what is taken out occurred once more before
pub times-removed : (p : Open → Bool) (id : Id) (os : List Open) (o : Open) → find p os ≡ Some o
    → times id (ids_of os) ≡ times id (ids_of (remove_first p os)) + one_if (same_id id o.task.id)
times-removed p id [] o found = cc
times-removed p id (x ∷ os) o found = removed_at p id x o os (p x) refl found (times-removed p id os o)

shorter_at : (p : Open → Bool) (x o : Open) (os : List Open) (b : Bool) → p x ≡ b → find p (x ∷ os) ≡ Some o
    → (find p os ≡ Some o → length os ≡ length (remove_first p os) + 1) → length (x ∷ os) ≡ length (remove_first p (x ∷ os)) + 1
unfolding remove_first
shorter_at p x o os true e found rest = rw e (omega arith)
shorter_at p x o os false e found rest = let h = rest (rw e at found) in rw e (omega (arith, h))

pub length-removed : (p : Open → Bool) (os : List Open) (o : Open) → find p os ≡ Some o → length os ≡ length (remove_first p os) + 1
length-removed p [] o found = cc
length-removed p (x ∷ os) o found = shorter_at p x o os (p x) refl found (length-removed p os o)

split_at : (id : Id) (o : Open) (os : List Open) (b : Bool) → waits o ≡ b
    → times id (ids_of (filter waits os)) + times id (ids_of (filter runs_now os)) ≡ times id (ids_of os)
    → times id (ids_of (filter waits (o ∷ os))) + times id (ids_of (filter runs_now (o ∷ os))) ≡ times id (ids_of (o ∷ os))
split_at id o os true e rest = rw e (omega (arith, rest))
split_at id o os false e rest = rw e (omega (arith, rest))

-- what is open waits or runs
pub times-split : (id : Id) (os : List Open)
    → times id (ids_of (filter waits os)) + times id (ids_of (filter runs_now os)) ≡ times id (ids_of os)
times-split id [] = refl
times-split id (o ∷ os) = split_at id o os (waits o) refl (times-split id os)

abbrev ids : List Activation → List Id
ids xs = map (λ a. a.id) xs

times_apart : (x : Id) (xs : List Activation) → IsApart x xs → times x (ids xs) ≡ 0
times_apart x [] apart = refl
times_apart x (a ∷ xs) apart = rw apart.0.0 (omega (arith, times_apart x xs apart.1))

pub eq_of : (x y : Id) → same_id x y ≡ true → x ≡ y
eq_of x y h =
    let a : x.namespace ≡ y.namespace = grind (arith, nat_tests) in
    let b : x.count ≡ y.count = grind (arith, nat_tests) in
    let f : ℕ → Id = λ n. record { namespace = n; count = x.count } in
    let g : ℕ → Id = λ n. record { namespace = y.namespace; count = n } in
    ap f a ∙ ap g b

once_at : (id : Id) (a : Activation) (xs : List Activation) (b : Bool) → same_id id a.id ≡ b → IsApart a.id xs → times id (ids xs) ≤ 1
    → times id (ids (a ∷ xs)) ≤ 1
once_at id a xs true e apart rest =
    let none : times id (ids xs) ≡ 0 = subst (λ (z : Id). times z (ids xs) ≡ 0) (sym (eq_of id a.id e)) (times_apart a.id xs apart) in
    rw e (omega (arith, none))
once_at id a xs false e apart rest = rw e (omega (arith, rest))

-- where ids are apart, none occurs twice
pub times_once : (id : Id) (xs : List Activation) → AreApart xs → times id (ids xs) ≤ 1
times_once id [] apart = omega arith
times_once id (a ∷ xs) apart = once_at id a xs (same_id id a.id) refl apart.0 (times_once id xs apart.1)
