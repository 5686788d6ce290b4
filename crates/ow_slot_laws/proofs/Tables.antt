-- Changes of a table of a function's values.
use Rattle.std.proofs.Common.{◌≡◌, ◌==◌, ◌+◌, ◌≤◌, ◌<◌, ℕ, zero, suc, Bool, true, false, cond, ◌∷◌, Some, length, map, replicate, refl, sym, ap, ◌∙◌, arith, subst, zero-add}
use Rattle.std.specs.List.{find, slice_get}
use Rattle.std.proofs.lemmas.Bool.Decides.{nat_tests}
use Rattle.ow_pool.proofs.Room.{apart_of, apart_up}
use Rattle.ow_slots.specs.declared.states.Slot.{Slot}
use Rattle.ow_slots.specs.Slots.{IsThere, change, change_first}
use Rattle.ow_slots.proofs.Changes.{there_within}
use Rattle.ow_slot_laws.specs.Life.{table}

pub self_same : (a b : ℕ) → a ≡ b → (a == b) ≡ true
self_same a b e = grind (arith, nat_tests)

pub length-table : {X : Type 0} (f : ℕ → X) (k n : ℕ) → length (table f k n) ≡ n
unfolding table
length-table f k zero = refl
length-table f k (suc n) = ap suc (length-table f (suc k) n)

-- where the values are the same, so are the tables
same_table : {X : Type 0} (f g : ℕ → X) (k n : ℕ) → ((j : ℕ) → k ≤ j → f j ≡ g j) → table f k n ≡ table g k n
unfolding table
same_table f g k zero same = refl
same_table {X = X} f g k (suc n) same =
    let here : f k ≡ g k = same k (omega arith) in
    let rest = same_table f g (suc k) n (λ j le. same j (omega arith)) in
    ap (λ (x : X). x ∷ table f (suc k) n) here ∙ ap (λ xs. g k ∷ xs) rest

-- where all values are the same, so is the whole table
pub equal_table : {X : Type 0} (f g : ℕ → X) (k n : ℕ) → ((j : ℕ) → f j ≡ g j) → table f k n ≡ table g k n
equal_table f g k n same = same_table f g k n (λ j le. same j)

-- a change of one slot
pub change_table : {X : Type 0} (f g : ℕ → X) (h : X → X) (s i k n : ℕ) → s ≡ k + i → ((j : ℕ) → g j ≡ cond (s == j) (h (f j)) (f j))
    → change i h (table f k n) ≡ table g k n
unfolding change table
change_table f g h s i k zero at each = refl
change_table {X = X} f g h s zero k (suc n) at each =
    let e : (s == k) ≡ true = self_same s k (omega arith) in
    let here : g k ≡ h (f k) = rw e at (each k) in
    let rest : table f (suc k) n ≡ table g (suc k) n =
    same_table f g (suc k) n (λ j le. let no : (s == j) ≡ false = apart_up s j (omega arith) in let there : g j ≡ f j = rw no at (each j) in sym there) in
    ap (λ (x : X). x ∷ table f (suc k) n) (sym here) ∙ ap (λ xs. g k ∷ xs) rest
change_table {X = X} f g h s (suc i) k (suc n) at each =
    let e : (s == k) ≡ false = apart_of k s (omega arith) in
    let here : g k ≡ f k = rw e at (each k) in
    let rest = change_table f g h s i (suc k) n (omega arith) each in
    ap (λ (x : X). x ∷ change i h (table f (suc k) n)) (sym here) ∙ ap (λ xs. g k ∷ xs) rest

other_same : {X : Type 0} (x y z : X) (b : Bool) → (b ≡ true → ⊥) → x ≡ cond b y z → z ≡ x
other_same x y z true bad e = absurd (bad refl)
other_same x y z false bad e = sym e

-- a change of the one that passes
pub change_first_table : {X : Type 0} (p : X → Bool) (h : X → X) (f g : ℕ → X) (k n : ℕ) → ((j : ℕ) → g j ≡ cond (p (f j)) (h (f j)) (f j))
    → ((i j : ℕ) → p (f i) ≡ true → p (f j) ≡ true → i ≡ j) → change_first p h (table f k n) ≡ table g k n
unfolding change_first table
change_first_table p h f g k zero each one = refl
change_first_table {X = X} p h f g k (suc n) each one = at (p (f k)) refl (change_first_table p h f g (suc k) n each one)
  where
    at : (b : Bool) → p (f k) ≡ b → change_first p h (table f (suc k) n) ≡ table g (suc k) n
        → cond b (h (f k) ∷ table f (suc k) n) (f k ∷ change_first p h (table f (suc k) n)) ≡ g k ∷ table g (suc k) n
    at true e rest =
        let here : g k ≡ h (f k) = rw e at (each k) in
        let later : table f (suc k) n ≡ table g (suc k) n =
        same_table f g (suc k) n (λ j le. other_same (g j) (h (f j)) (f j) (p (f j)) (λ t. let same : k ≡ j = one k j e t in absurd (omega arith)) (each j)) in
        ap (λ (x : X). x ∷ table f (suc k) n) (sym here) ∙ ap (λ xs. g k ∷ xs) later
    at false e rest =
        let here : g k ≡ f k = rw e at (each k) in
        ap (λ (x : X). x ∷ change_first p h (table f (suc k) n)) (sym here) ∙ ap (λ xs. g k ∷ xs) rest

pub map_table : {X : Type 0} (g : X → X) (f h : ℕ → X) (k n : ℕ) → ((j : ℕ) → h j ≡ g (f j)) → map g (table f k n) ≡ table h k n
unfolding table
map_table g f h k zero each = refl
map_table g f h k (suc n) each = let rest = map_table g f h (suc k) n each in rw (each k, rest) refl

pub constant_table : {X : Type 0} (x : X) (k n : ℕ) → table (λ j. x) k n ≡ replicate n x
unfolding table
constant_table x k zero = refl
constant_table x k (suc n) = ap (λ xs. x ∷ xs) (constant_table x (suc k) n)

-- what is found is at some number
pub record FoundIn {X : Type 0} (p : X → Bool) (f : ℕ → X) (x : X) : Type 0 where
  pub number : ℕ
  pub passes : p (f number) ≡ true
  pub is : f number ≡ x

pub found_in : {X : Type 0} (p : X → Bool) (f : ℕ → X) (k n : ℕ) (x : X) → find p (table f k n) ≡ Some x → FoundIn p f x
unfolding table
found_in p f k zero x h = cc
found_in {X = X} p f k (suc n) x h = at (p (f k)) refl h (found_in p f (suc k) n x)
  where
    at : (b : Bool) → p (f k) ≡ b → cond b (Some (f k)) (find p (table f (suc k) n)) ≡ Some x → (find p (table f (suc k) n) ≡ Some x → FoundIn p f x) → FoundIn p f x
    at true e h rest = let same : f k ≡ x = cc in record { number = k; passes = e; is = same }
    at false e h rest = rest h

get_from : {X : Type 0} (f : ℕ → X) (k n i : ℕ) → i < n → slice_get (table f k n) i ≡ Some (f (k + i))
unfolding table
get_from f k zero i lt = absurd (omega arith)
get_from f k (suc n) zero lt = ap (λ j. Some (f j)) (omega arith)
get_from f k (suc n) (suc i) lt =
    let e : suc k + i ≡ k + suc i = omega arith in
    rw (get_from f (suc k) n i (omega arith), e) refl

-- what is there, is there at its number
pub get_table : {X : Type 0} (f : ℕ → X) (n i : ℕ) → i < n → slice_get (table f 0 n) i ≡ Some (f i)
get_table f n i lt = get_from f 0 n i lt ∙ ap (λ j. Some (f j)) (zero-add i)

pub within_table : (P : Slot → Type 0) (f : ℕ → Slot) (n i : ℕ) → IsThere P (slice_get (table f 0 n) i) → i < n
within_table P f n i there =
    let lt = there_within P (table f 0 n) i there in
    let long = length-table f 0 n in
    omega (arith, lt, long)

-- what holds of a slot that is there holds of the value at its number
pub there_in : (P : Slot → Type 0) (f : ℕ → Slot) (n i : ℕ) → IsThere P (slice_get (table f 0 n) i) → P (f i)
there_in P f n i there =
    let e = get_table f n i (within_table P f n i there) in
    subst (IsThere P) e there
