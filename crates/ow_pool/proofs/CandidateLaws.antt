-- The candidates are the slots whose containers can be removed, in their order.
use Rattle.std.proofs.Common.{◌≡◌, ◌==◌, ◌+◌, ◌-◌, ◌≤◌, ◌&&◌, ◌||◌, ℕ, zero, suc, Bool, true, false, cond, List, [], ◌∷◌, Option, Some, None, refl, sym, ap, arith, subst}
use Rattle.std.specs.Prelude.{nat_lt}
use Rattle.std.specs.List.{slice_get, AllByRecursion}
use Rattle.std.proofs.lemmas.Bool.Decides.{nat_tests}
use Rattle.std.proofs.Math.Bool.{or-true}
use Rattle.ow_slots.specs.declared.states.State.{State}
use Rattle.ow_slots.specs.declared.states.State.TheVariants.{Vacant, Opening, Prewarmed, Busy, Idle, Closing}
use Rattle.ow_slots.specs.declared.states.Slot.{Slot}
use Rattle.ow_slots.specs.Slots.{IsThere}
use Rattle.ow_pool.specs.declared.candidates.Candidate.{Candidate}
use Rattle.ow_pool.specs.Candidates.{AreCandidates, AreInOrder, IsCandidate, candidate_in, candidates_from, is_among, is_before, put, put_if}
use Rattle.ow_pool.proofs.Room.{all_put, among_put, facts, first_false, self_same, unmet}

-- the order, on its parts: whether each is prewarmed, their last uses, and their numbers
abbrev before : Bool → Bool → ℕ → ℕ → ℕ → ℕ → Bool
before p q a b i j = cond p (q && nat_lt i j) (q || (nat_lt a b || ((a == b) && nat_lt i j)))

later_trans : (a b c i j k : ℕ) → (nat_lt a b || ((a == b) && nat_lt i j)) ≡ true → (nat_lt b c || ((b == c) && nat_lt j k)) ≡ true → (nat_lt a c || ((a == c) && nat_lt i k)) ≡ true
later_trans a b c i j k e f = grind (arith, nat_tests)

less_trans : (i j k : ℕ) → nat_lt i j ≡ true → nat_lt j k ≡ true → nat_lt i k ≡ true
less_trans i j k e f = grind (arith, nat_tests)

before_trans : (p q r : Bool) (a b c i j k : ℕ) → before p q a b i j ≡ true → before q r b c j k ≡ true → before p r a c i k ≡ true
before_trans true true true a b c i j k e f = less_trans i j k e f
before_trans true true false a b c i j k e f = cc
before_trans true false r a b c i j k e f = cc
before_trans false true true a b c i j k e f = refl
before_trans false true false a b c i j k e f = cc
before_trans false false true a b c i j k e f = refl
before_trans false false false a b c i j k e f = later_trans a b c i j k e f

less_total : (i j : ℕ) → (i == j) ≡ false → nat_lt i j ≡ false → nat_lt j i ≡ true
less_total i j apart e = grind (arith, nat_tests)

later_total : (a b i j : ℕ) → (i == j) ≡ false → (nat_lt a b || ((a == b) && nat_lt i j)) ≡ false → (nat_lt b a || ((b == a) && nat_lt j i)) ≡ true
later_total a b i j apart e = grind (arith, nat_tests)

before_total : (p q : Bool) (a b i j : ℕ) → (i == j) ≡ false → before p q a b i j ≡ false → before q p b a j i ≡ true
before_total true true a b i j apart e = less_total i j apart e
before_total true false a b i j apart e = refl
before_total false true a b i j apart e = cc
before_total false false a b i j apart e = later_total a b i j apart e

trans : (x y z : Candidate) → is_before x y ≡ true → is_before y z ≡ true → is_before x z ≡ true
trans x y z e f = before_trans x.prewarmed y.prewarmed z.prewarmed x.last_used y.last_used z.last_used x.slot y.slot z.slot e f

total : (x y : Candidate) → (x.slot == y.slot) ≡ false → is_before x y ≡ false → is_before y x ≡ true
total x y apart e = before_total x.prewarmed y.prewarmed x.last_used y.last_used x.slot y.slot apart e

all_later : (x y : Candidate) (cs : List Candidate) → is_before x y ≡ true → AllByRecursion (λ c. is_before y c ≡ true) cs → AllByRecursion (λ c. is_before x c ≡ true) cs
all_later x y [] e all = tt
all_later x y (c ∷ cs) e all = (trans x y c e all.0, all_later x y cs e all.1)

put_ordered : (x : Candidate) (cs : List Candidate) → is_among cs x.slot ≡ false → AreInOrder cs → AreInOrder (put x cs)
unfolding put
put_ordered x [] apart ordered = (tt, tt)
put_ordered x (y ∷ ys) apart ordered =
    let h = first_false (y.slot == x.slot) (is_among ys x.slot) apart in
    at (is_before y x) refl h.0 (put_ordered x ys h.1 ordered.1)
  where
    at : (b : Bool) → is_before y x ≡ b → (y.slot == x.slot) ≡ false → AreInOrder (put x ys) → AreInOrder (cond b (y ∷ put x ys) (x ∷ y ∷ ys))
    at true e apart' rest = (all_put (λ (c : Candidate). is_before y c ≡ true) x ys e ordered.0, rest)
    at false e apart' rest =
        let first = total y x apart' e in
        ((first, all_later x y ys first ordered.0), ordered)

put_if_ordered : (n : ℕ) (state : State) (cs : List Candidate) → is_among cs n ≡ false → AreInOrder cs → AreInOrder (put_if (candidate_in n state) cs)
put_if_ordered n Vacant cs apart ordered = ordered
put_if_ordered n (Opening r k m) cs apart ordered = ordered
put_if_ordered n (Prewarmed k m) cs apart ordered = put_ordered (record { slot = n; memory = m; prewarmed = true; last_used = 0 }) cs apart ordered
put_if_ordered n (Busy w) cs apart ordered = ordered
put_if_ordered n (Idle key last) cs apart ordered = put_ordered (record { slot = n; memory = key.memory; prewarmed = false; last_used = last }) cs apart ordered
put_if_ordered n (Closing m) cs apart ordered = ordered

ordered_from : (n : ℕ) (slots : List Slot) → AreInOrder (candidates_from n slots)
ordered_from n [] = tt
ordered_from n (s ∷ slots) = put_if_ordered n s.state (candidates_from (suc n) slots) (unmet n slots (candidates_from (suc n) slots) (facts (suc n) slots)) (ordered_from (suc n) slots)

-- each of them is a slot
abbrev Stands : ℕ → List Slot → Candidate → Type 0
Stands k slots c = (k ≤ c.slot) × IsThere (IsCandidate c.slot c) (slice_get slots (c.slot - k))

lift_stands : (k : ℕ) (s : Slot) (slots : List Slot) (cs : List Candidate) → AllByRecursion (Stands (suc k) slots) cs → AllByRecursion (Stands k (s ∷ slots)) cs
lift_stands k s slots [] all = tt
lift_stands k s slots (c ∷ cs) all =
    let le = all.0.0 in
    let e : suc (c.slot - suc k) ≡ c.slot - k = omega arith in
    ((omega arith, subst (λ (i : ℕ). IsThere (IsCandidate c.slot c) (slice_get (s ∷ slots) i)) e all.0.1), lift_stands k s slots cs all.1)

put_stands : (k : ℕ) (s : Slot) (slots : List Slot) (found : Option Candidate) → candidate_in k s.state ≡ found → ((x : Candidate) → found ≡ Some x → x.slot ≡ k) → (cs : List Candidate)
    → AllByRecursion (Stands k (s ∷ slots)) cs → AllByRecursion (Stands k (s ∷ slots)) (put_if found cs)
put_stands k s slots None e own cs all = all
put_stands k s slots (Some x) e own cs all =
    let here : x.slot ≡ k = own x refl in
    let none : k - k ≡ 0 = omega arith in
    let there = subst (λ (i : ℕ). IsThere (IsCandidate k x) (slice_get (s ∷ slots) i)) (sym none) e in
    all_put (Stands k (s ∷ slots)) x cs (omega (arith, here), subst (λ (m : ℕ). IsThere (IsCandidate m x) (slice_get (s ∷ slots) (m - k))) (sym here) there) all

own_number : (k : ℕ) (state : State) (x : Candidate) → candidate_in k state ≡ Some x → x.slot ≡ k
own_number k Vacant x e = cc
own_number k (Opening r kind m) x e = cc
own_number k (Prewarmed kind m) x e = let same : record { slot = k; memory = m; prewarmed = true; last_used = 0 } ≡ x = cc in sym (ap (λ (c : Candidate). c.slot) same)
own_number k (Busy w) x e = cc
own_number k (Idle key last) x e = let same : record { slot = k; memory = key.memory; prewarmed = false; last_used = last } ≡ x = cc in sym (ap (λ (c : Candidate). c.slot) same)
own_number k (Closing m) x e = cc

stand : (k : ℕ) (slots : List Slot) → AllByRecursion (Stands k slots) (candidates_from k slots)
stand k [] = tt
stand k (s ∷ slots) =
    put_stands k s slots (candidate_in k s.state) refl (λ x e. own_number k s.state x e) (candidates_from (suc k) slots)
    (lift_stands k s slots (candidates_from (suc k) slots) (stand (suc k) slots))

stand_now : (slots : List Slot) (cs : List Candidate) → AllByRecursion (Stands 0 slots) cs → AllByRecursion (λ c. IsThere (IsCandidate c.slot c) (slice_get slots c.slot)) cs
stand_now slots [] all = tt
stand_now slots (c ∷ cs) all =
    let e : c.slot - 0 ≡ c.slot = omega arith in
    (subst (λ (i : ℕ). IsThere (IsCandidate c.slot c) (slice_get slots i)) e all.0.1, stand_now slots cs all.1)

here_among : (k : ℕ) (state : State) (x : Candidate) (cs : List Candidate) → candidate_in k state ≡ Some x → is_among (put_if (candidate_in k state) cs) k ≡ true
here_among k state x cs e =
    let own = own_number k state x e in
    let hit : (x.slot == k) ≡ true = rw own (self_same k) in
    rw (e, among_put x cs k, hit) refl

later_among : (k n : ℕ) (found : Option Candidate) (cs : List Candidate) → is_among cs n ≡ true → is_among (put_if found cs) n ≡ true
later_among k n None cs e = e
later_among k n (Some x) cs e = rw (among_put x cs n, e) (or-true (x.slot == n))

each_from : (k i : ℕ) (slots : List Slot) (x : Candidate) → IsThere (IsCandidate (k + i) x) (slice_get slots i) → is_among (candidates_from k slots) (k + i) ≡ true
each_from k i [] x there = absurd there
each_from k zero (s ∷ slots) x there =
    let e : k + 0 ≡ k = omega arith in
    let there' = subst (λ (m : ℕ). candidate_in m s.state ≡ Some x) e there in
    subst (λ (m : ℕ). is_among (candidates_from k (s ∷ slots)) m ≡ true) (sym e) (here_among k s.state x (candidates_from (suc k) slots) there')
each_from k (suc i) (s ∷ slots) x there =
    let e : k + suc i ≡ suc k + i = omega arith in
    let there' = subst (λ (m : ℕ). IsThere (IsCandidate m x) (slice_get slots i)) e there in
    subst (λ (m : ℕ). is_among (candidates_from k (s ∷ slots)) m ≡ true) (sym e)
    (later_among k (suc k + i) (candidate_in k s.state) (candidates_from (suc k) slots) (each_from (suc k) i slots x there'))

pub are_candidates : (slots : List Slot) → AreCandidates slots (candidates_from 0 slots)
are_candidates slots = record {
  ordered = ordered_from 0 slots;
  only = stand_now slots (candidates_from 0 slots) (stand 0 slots);
  each = λ n x there.
      let e : 0 + n ≡ n = omega arith in
      subst (λ (m : ℕ). is_among (candidates_from 0 slots) m ≡ true) e
      (each_from 0 n slots x (subst (λ (m : ℕ). IsThere (IsCandidate m x) (slice_get slots n)) (sym e) there));
}
