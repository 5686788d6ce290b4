-- What is found among the elements that pass another test.
use Rattle.std.proofs.Common.{◌≡◌, ◌≤◌, Bool, true, false, List, [], ◌∷◌, length, Some, None, refl, sym, ap, subst, arith}
use Rattle.std.specs.List.{filter, find}

none_tail : {X : Type 0} (p : X → Bool) (x : X) (xs : List X) (b : Bool) → p x ≡ b → find p (x ∷ xs) ≡ None → (b ≡ false) × (find p xs ≡ None)
none_tail p x xs true e none = let h : Some x ≡ None = rw e at none in cc
none_tail p x xs false e none = (refl, rw e at none)

-- what is found passes
pub find_passes : {X : Type 0} (p : X → Bool) (x : X) (xs : List X) → find p xs ≡ Some x → p x ≡ true
find_passes p x [] found = cc
find_passes {X = X} p x (y ∷ xs) found = by_test (p y) refl (find_passes p x xs)
  where
    by_test : (b : Bool) → p y ≡ b → (find p xs ≡ Some x → p x ≡ true) → p x ≡ true
    by_test true e rest =
        let h : Some y ≡ Some x = rw e at found in
        let same : y ≡ x = cc in
        subst (λ (z : X). p z ≡ true) same e
    by_test false e rest = rest (rw e at found)

-- where none passes none is found
pub find_uncounted : {X : Type 0} (p : X → Bool) (xs : List X) → length (filter p xs) ≤ 0 → find p xs ≡ None
find_uncounted p [] few = refl
find_uncounted p (x ∷ xs) few = by_test (p x) refl (find_uncounted p xs)
  where
    by_test : (b : Bool) → p x ≡ b → (length (filter p xs) ≤ 0 → find p xs ≡ None) → find p (x ∷ xs) ≡ None
    by_test true e rest = let h : length (x ∷ filter p xs) ≤ 0 = rw e at few in absurd (omega (arith, h))
    by_test false e rest = rw e (rest (rw e at few))

-- a filter by a test is the same after a filter by a wider test
pub filter_filter : {X : Type 0} (p q : X → Bool) (xs : List X) → ((x : X) → p x ≡ true → q x ≡ true) → filter p (filter q xs) ≡ filter p xs
filter_filter p q [] goes = refl
filter_filter {X = X} p q (x ∷ xs) goes = by_tests (p x) (q x) refl refl (filter_filter p q xs goes)
  where
    by_tests : (b c : Bool) → p x ≡ b → q x ≡ c → filter p (filter q xs) ≡ filter p xs → filter p (filter q (x ∷ xs)) ≡ filter p (x ∷ xs)
    by_tests true true e f rest = rw (f, e) (ap (λ ys. x ∷ ys) rest)
    by_tests true false e f rest = let g = goes x e in cc
    by_tests false true e f rest = rw (f, e) rest
    by_tests false false e f rest = rw (f, e) rest

-- the same of what is found
pub find_filter : {X : Type 0} (p q : X → Bool) (xs : List X) → ((x : X) → p x ≡ true → q x ≡ true) → find p (filter q xs) ≡ find p xs
find_filter p q [] goes = refl
find_filter {X = X} p q (x ∷ xs) goes = by_tests (p x) (q x) refl refl (find_filter p q xs goes)
  where
    by_tests : (b c : Bool) → p x ≡ b → q x ≡ c → find p (filter q xs) ≡ find p xs → find p (filter q (x ∷ xs)) ≡ find p (x ∷ xs)
    by_tests true true e f rest = rw (f, e) refl
    by_tests true false e f rest = let g = goes x e in cc
    by_tests false true e f rest = rw (f, e) rest
    by_tests false false e f rest = rw (f, e) rest

-- what isn't there isn't found
pub find_filter_none : {X : Type 0} (p q : X → Bool) (xs : List X) → find p xs ≡ None → find p (filter q xs) ≡ None
find_filter_none p q [] none = refl
find_filter_none {X = X} p q (x ∷ xs) none =
    let h = none_tail p x xs (p x) refl none in
    by_test (q x) refl h.0 (find_filter_none p q xs h.1)
  where
    by_test : (c : Bool) → q x ≡ c → p x ≡ false → find p (filter q xs) ≡ None → find p (filter q (x ∷ xs)) ≡ None
    by_test true f e rest = rw (f, e) rest
    by_test false f e rest = rw f rest

-- what is found and passes is found
pub find_filter_some : {X : Type 0} (p q : X → Bool) (y : X) (xs : List X) → find p xs ≡ Some y → q y ≡ true → find p (filter q xs) ≡ Some y
find_filter_some p q y [] found passes = cc
find_filter_some {X = X} p q y (x ∷ xs) found passes = by_tests (p x) (q x) refl refl (λ h. find_filter_some p q y xs h passes)
  where
    by_tests : (b c : Bool) → p x ≡ b → q x ≡ c → (find p xs ≡ Some y → find p (filter q xs) ≡ Some y) → find p (filter q (x ∷ xs)) ≡ Some y
    by_tests true true e f rest = let h : Some x ≡ Some y = rw e at found in rw (f, e) h
    by_tests true false e f rest =
        let h : Some x ≡ Some y = rw e at found in
        let same : x ≡ y = cc in
        let hidden : q y ≡ false = subst (λ (z : X). q z ≡ false) same f in cc
    by_tests false true e f rest = rw (f, e) (rest (rw e at found))
    by_tests false false e f rest = rw f (rest (rw e at found))

-- what a wider test doesn't pass
pub not_wider : {X : Type 0} (q p : X → Bool) (x : X) → ((x : X) → q x ≡ true → p x ≡ true) → p x ≡ false → q x ≡ false
not_wider q p x narrow hidden = by_test (q x) refl
  where
    by_test : (b : Bool) → q x ≡ b → q x ≡ false
    by_test true e = let h = narrow x e in cc
    by_test false e = e

-- where a wider test finds nothing
pub find_only_none : {X : Type 0} (p q : X → Bool) (xs : List X) → ((x : X) → q x ≡ true → p x ≡ true) → find p xs ≡ None → find q xs ≡ None
find_only_none p q [] narrow none = refl
find_only_none p q (x ∷ xs) narrow none =
    let h = none_tail p x xs (p x) refl none in
    rw (not_wider q p x narrow h.0) (find_only_none p q xs narrow h.1)

-- where what a wider test finds passes
pub find_only_some : {X : Type 0} (p q : X → Bool) (y : X) (xs : List X) → ((x : X) → q x ≡ true → p x ≡ true) → find p xs ≡ Some y → q y ≡ true → find q xs ≡ Some y
find_only_some p q y [] narrow found passes = cc
find_only_some {X = X} p q y (x ∷ xs) narrow found passes = by_test (p x) refl (λ h. find_only_some p q y xs narrow h passes)
  where
    by_test : (b : Bool) → p x ≡ b → (find p xs ≡ Some y → find q xs ≡ Some y) → find q (x ∷ xs) ≡ Some y
    by_test true e rest =
        let h : Some x ≡ Some y = rw e at found in
        let same : x ≡ y = cc in
        let shown : q x ≡ true = subst (λ (z : X). q z ≡ true) (sym same) passes in
        rw shown h
    by_test false e rest = rw (not_wider q p x narrow e) (rest (rw e at found))
