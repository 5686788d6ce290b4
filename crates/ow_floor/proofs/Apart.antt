-- Open activations whose ids differ, and their order by ids.
use Rattle.std.proofs.Common.{◌≡◌, suc, Bool, true, false, cond, List, [], ◌∷◌, Option, Some, None, length, refl, ap, ◌∙◌, arith}
use Rattle.std.specs.List.{find, cons_option, AllByRecursion, IsDistinct}
use Rattle.std.specs.Ordering.{is_lt}
use Rattle.std.proofs.lemmas.Bool.Decides.{nat_tests}
use Rattle.ow_value.specs.Value.{text_cmp}
use Rattle.ow_records.specs.declared.ids.Id.{Id}
use Rattle.ow_records.specs.Id.{same_id}
use Rattle.ow_records.specs.Records.{id_numbers}
use Rattle.ow_records.specs.declared.activations.Activation.{Activation}
use Rattle.ow_floor.specs.declared.activations.Open.{Open}
use Rattle.ow_floor.specs.declared.activations.State.{State}
use Rattle.ow_floor.specs.View.{is_of, remove_first, same_open}
use Rattle.ow_floor.specs.Trace.{Trace, accepted, open_items, open_of, standing}
use Rattle.ow_floor.specs.Laws.{AreApart, IsApart, IsSound}
use Rattle.ow_floor.specs.Calls.{put_by_id, sorted_by_id}
use Rattle.ow_floor.proofs.Alters.{opens, same_id_refl}
use Rattle.ow_floor.proofs.Firsts.{all_more, all_removed, find_other}

pub turned : (x y : Id) → same_id x y ≡ false → same_id y x ≡ false
turned x y h = grind (arith, nat_tests)

-- one that differs from all of these
abbrev pub IsOther : Open → List Open → Type 0
IsOther o os = AllByRecursion (λ x. same_open o x ≡ false) os

-- each is found by its id
abbrev pub AreFound : List Open → List Open → Type 0
AreFound all os = AllByRecursion (λ o. find (is_of o.task.id) all ≡ Some o) os

pub all_both : {X : Type 0} (P Q : X → Type 0) (xs : List X) → AllByRecursion P xs → AllByRecursion Q xs → AllByRecursion (λ x. P x × Q x) xs
all_both P Q [] p q = tt
all_both P Q (x ∷ xs) p q = ((p.0, q.0), all_both P Q xs p.1 q.1)

-- ---- in a trace

other_at : (o : Open) (a : Activation) (s : Option State) (os : List Open) → same_id o.task.id a.id ≡ false → IsOther o os → IsOther o (cons_option (open_of a s) os)
other_at o a None os e rest = rest
other_at o a (Some q) os e rest = (e, rest)

other_opens : (o : Open) (f : Id → Option State) (xs : List Activation) → IsApart o.task.id xs → IsOther o (opens f xs)
other_opens o f [] apart = tt
other_opens o f (a ∷ xs) apart = other_at o a (f a.id) (opens f xs) apart.0.0 (other_opens o f xs apart.1)

distinct_at : (a : Activation) (s : Option State) (os : List Open) → ((q : State) → IsOther (record { task = a; state = q }) os) → IsDistinct same_open os → IsDistinct same_open (cons_option (open_of a s) os)
unfolding IsDistinct
distinct_at a None os other rest = rest
distinct_at a (Some q) os other rest = (other q, rest)

distinct_opens : (f : Id → Option State) (xs : List Activation) → AreApart xs → IsDistinct same_open (opens f xs)
unfolding IsDistinct
distinct_opens f [] apart = tt
distinct_opens f (a ∷ xs) apart = distinct_at a (f a.id) (opens f xs) (λ q. other_opens (record { task = a; state = q }) f xs apart.0) (distinct_opens f xs apart.1)

-- what is open in a sound trace differs
pub open_distinct : (T : Trace) → IsSound T → IsDistinct same_open (open_items T)
open_distinct T sound = distinct_opens (standing T) (accepted T) sound.apart

-- ---- what is found

pub first_found : (o : Open) (os : List Open) → find (is_of o.task.id) (o ∷ os) ≡ Some o
first_found o os = rw (same_id_refl o.task.id) refl

found_behind : (o x : Open) (os : List Open) → same_open o x ≡ false → find (is_of x.task.id) os ≡ Some x → find (is_of x.task.id) (o ∷ os) ≡ Some x
found_behind o x os e found = rw e found

-- where they differ each is found by its id
pub each_by_id : (os : List Open) → IsDistinct same_open os → AreFound os os
unfolding IsDistinct
each_by_id [] apart = tt
each_by_id (o ∷ os) apart =
    (first_found o os, all_more _ _ os (λ x both. found_behind o x os both.0 both.1) (all_both _ _ os apart.0 (each_by_id os apart.1)))

-- and also once another is taken out
pub found_left : (o : Open) (all os : List Open) → find (is_of o.task.id) all ≡ Some o → IsOther o os → AreFound all os → AreFound (remove_first (is_of o.task.id) all) os
found_left o all os found other each =
    all_more _ _ os (λ x both. find_other (is_of o.task.id) (is_of x.task.id) o all both.0 found ∙ both.1) (all_both _ _ os other each)

removed_at : (p : Open → Bool) (o : Open) (os : List Open) (b : Bool) → IsOther o os → IsDistinct same_open os → IsDistinct same_open (remove_first p os) → IsDistinct same_open (cond b os (o ∷ remove_first p os))
unfolding IsDistinct
removed_at p o os true other apart rest = apart
removed_at p o os false other apart rest = (all_removed _ p os other, rest)

pub distinct_removed : (p : Open → Bool) (os : List Open) → IsDistinct same_open os → IsDistinct same_open (remove_first p os)
unfolding IsDistinct remove_first
distinct_removed p [] apart = tt
distinct_removed p (o ∷ os) apart = removed_at p o os (p o) apart.0 apart.1 (distinct_removed p os apart.1)

-- ---- by their ids

put_at : (P : Open → Type 0) (o x : Open) (xs : List Open) (b : Bool) → P o → P x → AllByRecursion P xs → AllByRecursion P (put_by_id o xs) → AllByRecursion P (cond b (o ∷ x ∷ xs) (x ∷ put_by_id o xs))
put_at P o x xs true new here all rest = (new, (here, all))
put_at P o x xs false new here all rest = (here, rest)

all_put : (P : Open → Type 0) (o : Open) (xs : List Open) → P o → AllByRecursion P xs → AllByRecursion P (put_by_id o xs)
all_put P o [] new all = (new, tt)
all_put P o (x ∷ xs) new all = put_at P o x xs (is_lt (text_cmp (id_numbers o.task.id) (id_numbers x.task.id))) new all.0 all.1 (all_put P o xs new all.1)

-- what holds of all holds of them by their ids
pub all_sorted : (P : Open → Type 0) (os : List Open) → AllByRecursion P os → AllByRecursion P (sorted_by_id os)
all_sorted P [] all = tt
all_sorted P (o ∷ os) all = all_put P o (sorted_by_id os) all.0 (all_sorted P os all.1)

distinct_put_at : (o x : Open) (xs : List Open) (b : Bool) → IsOther o (x ∷ xs) → IsDistinct same_open (x ∷ xs) → IsDistinct same_open (put_by_id o xs) → IsDistinct same_open (cond b (o ∷ x ∷ xs) (x ∷ put_by_id o xs))
unfolding IsDistinct
distinct_put_at o x xs true other apart rest = (other, apart)
distinct_put_at o x xs false other apart rest = (all_put (λ y. same_open x y ≡ false) o xs (turned o.task.id x.task.id other.0) apart.0, rest)

distinct_put : (o : Open) (xs : List Open) → IsOther o xs → IsDistinct same_open xs → IsDistinct same_open (put_by_id o xs)
unfolding IsDistinct
distinct_put o [] other apart = (tt, tt)
distinct_put o (x ∷ xs) other apart = distinct_put_at o x xs (is_lt (text_cmp (id_numbers o.task.id) (id_numbers x.task.id))) other apart (distinct_put o xs other.1 apart.1)

pub distinct_sorted : (os : List Open) → IsDistinct same_open os → IsDistinct same_open (sorted_by_id os)
unfolding IsDistinct
distinct_sorted [] apart = tt
distinct_sorted (o ∷ os) apart = distinct_put o (sorted_by_id os) (all_sorted (λ x. same_open o x ≡ false) os apart.0) (distinct_sorted os apart.1)

length_put_at : (o x : Open) (xs : List Open) (b : Bool) → length (put_by_id o xs) ≡ suc (length xs) → length (cond b (o ∷ x ∷ xs) (x ∷ put_by_id o xs)) ≡ suc (suc (length xs))
length_put_at o x xs true rest = refl
length_put_at o x xs false rest = ap suc rest

length_put : (o : Open) (xs : List Open) → length (put_by_id o xs) ≡ suc (length xs)
length_put o [] = refl
length_put o (x ∷ xs) = length_put_at o x xs (is_lt (text_cmp (id_numbers o.task.id) (id_numbers x.task.id))) (length_put o xs)

pub length_sorted : (os : List Open) → length (sorted_by_id os) ≡ length os
length_sorted [] = refl
length_sorted (o ∷ os) = length_put o (sorted_by_id os) ∙ ap suc (length_sorted os)
