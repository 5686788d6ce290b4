-- The first element that passes.
use Rattle.std.proofs.Common.{◌≡◌, ◌++◌, ◌+◌, ◌≤◌, Bool, true, false, cond, List, [], ◌∷◌, Option, Some, None, refl, sym, ap, arith, subst}
use Rattle.std.specs.List.{find, AllByRecursion}
use Rattle.ow_slots.specs.Slots.{change_first}
use Rattle.ow_floor.specs.View.{remove_first}
use Rattle.ow_floor.specs.Laws.{tally}

pub none_tail : {X : Type 0} (p : X → Bool) (x : X) (xs : List X) (b : Bool) → p x ≡ b → find p (x ∷ xs) ≡ None → (b ≡ false) × (find p xs ≡ None)
none_tail p x xs true e none = let h : Some x ≡ None = rw e at none in cc
none_tail p x xs false e none = (refl, rw e at none)

-- where none passes nothing is changed
pub update_none : {X : Type 0} (p : X → Bool) (f : X → X) (xs : List X) → find p xs ≡ None → change_first p f xs ≡ xs
unfolding change_first
update_none p f [] none = refl
update_none p f (x ∷ xs) none =
    let h = none_tail p x xs (p x) refl none in
    rw h.0 (ap (λ ys. x ∷ ys) (update_none p f xs h.1))

pub remove_none : {X : Type 0} (p : X → Bool) (xs : List X) → find p xs ≡ None → remove_first p xs ≡ xs
unfolding remove_first
remove_none p [] none = refl
remove_none p (x ∷ xs) none =
    let h = none_tail p x xs (p x) refl none in
    rw h.0 (ap (λ ys. x ∷ ys) (remove_none p xs h.1))

-- the first, or else the new one where it passes
abbrev pub or_new : {X : Type 0} → (X → Bool) → X → Option X → Option X
or_new p x None = cond (p x) (Some x) None
or_new p x (Some y) = Some y

push_at : {X : Type 0} (p : X → Bool) (x y : X) (ys : List X) (b : Bool) → p y ≡ b → find p (ys ++ x ∷ []) ≡ or_new p x (find p ys)
    → find p ((y ∷ ys) ++ x ∷ []) ≡ or_new p x (find p (y ∷ ys))
push_at p x y ys true e rest = rw e refl
push_at p x y ys false e rest = rw e rest

pub find_push : {X : Type 0} (p : X → Bool) (x : X) (xs : List X) → find p (xs ++ x ∷ []) ≡ or_new p x (find p xs)
find_push p x [] = refl
find_push p x (y ∷ ys) = push_at p x y ys (p y) refl (find_push p x ys)

passes_at : {X : Type 0} (p : X → Bool) (x y : X) (xs : List X) (b : Bool) → p y ≡ b → (find p xs ≡ Some x → p x ≡ true) → find p (y ∷ xs) ≡ Some x → p x ≡ true
passes_at {X = X} p x y xs true e rest found =
    let h : Some y ≡ Some x = rw e at found in
    let same : y ≡ x = cc in
    subst (λ (z : X). p z ≡ true) same e
passes_at p x y xs false e rest found = rest (rw e at found)

-- what is found passes
pub find_passes : {X : Type 0} (p : X → Bool) (x : X) (xs : List X) → find p xs ≡ Some x → p x ≡ true
find_passes p x [] found = cc
find_passes p x (y ∷ xs) found = passes_at p x y xs (p y) refl (find_passes p x xs) found

other_at : {X : Type 0} (p q : X → Bool) (r x : X) (xs : List X) (b : Bool) → p x ≡ b → q r ≡ false
    → (find p xs ≡ Some r → find q (remove_first p xs) ≡ find q xs) → find p (x ∷ xs) ≡ Some r → find q (remove_first p (x ∷ xs)) ≡ find q (x ∷ xs)
unfolding remove_first
other_at {X = X} p q r x xs true e other rest found =
    let h : Some x ≡ Some r = rw e at found in
    let same : x ≡ r = cc in
    let no : q x ≡ false = subst (λ (z : X). q z ≡ false) (sym same) other in
    rw (e, no) refl
other_at p q r x xs false e other rest found = rw e (ap (λ o. cond (q x) (Some x) o) (rest (rw e at found)))

-- taking out one that doesn't pass another test leaves what that test finds
pub find_other : {X : Type 0} (p q : X → Bool) (r : X) (xs : List X) → q r ≡ false → find p xs ≡ Some r → find q (remove_first p xs) ≡ find q xs
find_other p q r [] other found = cc
find_other p q r (x ∷ xs) other found = other_at p q r x xs (p x) refl other (find_other p q r xs other) found

-- ---- all of a list

pub all_more : {X : Type 0} (P Q : X → Type 0) (xs : List X) → ((x : X) → P x → Q x) → AllByRecursion P xs → AllByRecursion Q xs
all_more P Q [] f all = tt
all_more P Q (x ∷ xs) f all = (f x all.0, all_more P Q xs f all.1)

pub all_push : {X : Type 0} (P : X → Type 0) (x : X) (xs : List X) → P x → AllByRecursion P xs → AllByRecursion P (xs ++ x ∷ [])
all_push P x [] here all = (here, tt)
all_push P x (y ∷ xs) here all = (all.0, all_push P x xs here all.1)

all_cut : {X : Type 0} (P : X → Type 0) (p : X → Bool) (x : X) (xs : List X) (b : Bool) → P x → AllByRecursion P xs → AllByRecursion P (remove_first p xs)
    → AllByRecursion P (cond b xs (x ∷ remove_first p xs))
all_cut P p x xs true here all rest = all
all_cut P p x xs false here all rest = (here, rest)

pub all_removed : {X : Type 0} (P : X → Type 0) (p : X → Bool) (xs : List X) → AllByRecursion P xs → AllByRecursion P (remove_first p xs)
unfolding remove_first
all_removed P p [] all = tt
all_removed P p (x ∷ xs) all = all_cut P p x xs (p x) all.0 all.1 (all_removed P p xs all.1)

all_mark : {X : Type 0} (P : X → Type 0) (p : X → Bool) (f : X → X) (x : X) (xs : List X) (b : Bool) → P x → P (f x) → AllByRecursion P xs → AllByRecursion P (change_first p f xs)
    → AllByRecursion P (cond b (f x ∷ xs) (x ∷ change_first p f xs))
all_mark P p f x xs true here new all rest = (new, all)
all_mark P p f x xs false here new all rest = (here, rest)

pub all_updated : {X : Type 0} (P : X → Type 0) (p : X → Bool) (f : X → X) (xs : List X) → ((x : X) → P x → P (f x)) → AllByRecursion P xs → AllByRecursion P (change_first p f xs)
unfolding change_first
all_updated P p f [] keeps all = tt
all_updated P p f (x ∷ xs) keeps all = all_mark P p f x xs (p x) all.0 (keeps x all.0) all.1 (all_updated P p f xs keeps all.1)

all_here : {X : Type 0} (P : X → Type 0) (p : X → Bool) (x y : X) (xs : List X) (b : Bool) → p y ≡ b → P y → (find p xs ≡ Some x → P x) → find p (y ∷ xs) ≡ Some x → P x
all_here {X = X} P p x y xs true e here rest found =
    let h : Some y ≡ Some x = rw e at found in
    let same : y ≡ x = cc in
    subst (λ (z : X). P z) same here
all_here P p x y xs false e here rest found = rest (rw e at found)

-- what is found is one of them
pub all_found : {X : Type 0} (P : X → Type 0) (p : X → Bool) (x : X) (xs : List X) → AllByRecursion P xs → find p xs ≡ Some x → P x
all_found P p x [] all found = cc
all_found P p x (y ∷ xs) all found = all_here P p x y xs (p y) refl all.0 (all_found P p x xs all.1) found

none_at : {X : Type 0} (p : X → Bool) (x : X) (xs : List X) → p x ≡ false → find p xs ≡ None → find p (x ∷ xs) ≡ None
none_at p x xs e rest = rw e rest

-- where none passes none is found
pub find_none : {X : Type 0} (p : X → Bool) (xs : List X) → AllByRecursion (λ x. p x ≡ false) xs → find p xs ≡ None
find_none p [] all = refl
find_none p (x ∷ xs) all = none_at p x xs all.0 (find_none p xs all.1)

-- ---- how many pass

pub tally_push : {X : Type 0} (q : X → Bool) (x : X) (xs : List X) → tally q (xs ++ x ∷ []) ≡ tally q xs + cond (q x) 1 0
tally_push q x [] = omega arith
tally_push q x (y ∷ ys) = let h = tally_push q x ys in omega (arith, h)

tally_cut : {X : Type 0} (p q : X → Bool) (r x : X) (xs : List X) (b : Bool) → p x ≡ b
    → (find p xs ≡ Some r → tally q (remove_first p xs) + cond (q r) 1 0 ≡ tally q xs)
    → find p (x ∷ xs) ≡ Some r → tally q (remove_first p (x ∷ xs)) + cond (q r) 1 0 ≡ tally q (x ∷ xs)
unfolding remove_first
tally_cut {X = X} p q r x xs true e rest found =
    let h : Some x ≡ Some r = rw e at found in
    let same : x ≡ r = cc in
    rw e (subst (λ (z : X). tally q xs + cond (q z) 1 0 ≡ tally q (x ∷ xs)) same (omega arith))
tally_cut p q r x xs false e rest found = let h = rest (rw e at found) in rw e (omega (arith, h))

pub tally_removed : {X : Type 0} (p q : X → Bool) (r : X) (xs : List X) → find p xs ≡ Some r → tally q (remove_first p xs) + cond (q r) 1 0 ≡ tally q xs
tally_removed p q r [] found = cc
tally_removed p q r (x ∷ xs) found = tally_cut p q r x xs (p x) refl (tally_removed p q r xs) found

fewer_at : {X : Type 0} (p q : X → Bool) (x : X) (xs : List X) (b : Bool) → tally q (remove_first p xs) ≤ tally q xs
    → tally q (cond b xs (x ∷ remove_first p xs)) ≤ tally q (x ∷ xs)
fewer_at p q x xs true rest = omega arith
fewer_at p q x xs false rest = omega (arith, rest)

pub tally_fewer : {X : Type 0} (p q : X → Bool) (xs : List X) → tally q (remove_first p xs) ≤ tally q xs
unfolding remove_first
tally_fewer p q [] = omega arith
tally_fewer p q (x ∷ xs) = fewer_at p q x xs (p x) (tally_fewer p q xs)

tally_mark : {X : Type 0} (p q : X → Bool) (f : X → X) (x : X) (xs : List X) (b : Bool) → q (f x) ≡ q x → tally q (change_first p f xs) ≡ tally q xs
    → tally q (cond b (f x ∷ xs) (x ∷ change_first p f xs)) ≡ tally q (x ∷ xs)
tally_mark p q f x xs true same rest = rw same refl
tally_mark p q f x xs false same rest = ap (λ n. cond (q x) 1 0 + n) rest

pub tally_updated : {X : Type 0} (p q : X → Bool) (f : X → X) (xs : List X) → ((x : X) → q (f x) ≡ q x) → tally q (change_first p f xs) ≡ tally q xs
unfolding change_first
tally_updated p q f [] same = refl
tally_updated p q f (x ∷ xs) same = tally_mark p q f x xs (p x) (same x) (tally_updated p q f xs same)

zero_at : {X : Type 0} (q : X → Bool) (x : X) (xs : List X) (b : Bool) → q x ≡ b → tally q (x ∷ xs) ≡ 0 → (tally q xs ≡ 0 → find q xs ≡ None) → find q (x ∷ xs) ≡ None
zero_at q x xs true e none rest = let h : 1 + tally q xs ≡ 0 = rw e at none in absurd (omega (arith, h))
zero_at q x xs false e none rest = let h : 0 + tally q xs ≡ 0 = rw e at none in rw e (rest (omega (arith, h)))

pub find_zero : {X : Type 0} (q : X → Bool) (xs : List X) → tally q xs ≡ 0 → find q xs ≡ None
find_zero q [] none = refl
find_zero q (x ∷ xs) none = zero_at q x xs (q x) refl none (find_zero q xs)

counted_at : {X : Type 0} (q : X → Bool) (x : X) (xs : List X) (b : Bool) → q x ≡ b → find q (x ∷ xs) ≡ None → (find q xs ≡ None → tally q xs ≡ 0) → tally q (x ∷ xs) ≡ 0
counted_at q x xs true e none rest = let h : Some x ≡ None = rw e at none in cc
counted_at q x xs false e none rest = let h = rest (rw e at none) in rw e (omega (arith, h))

pub tally_none : {X : Type 0} (q : X → Bool) (xs : List X) → find q xs ≡ None → tally q xs ≡ 0
tally_none q [] none = refl
tally_none q (x ∷ xs) none = counted_at q x xs (q x) refl none (tally_none q xs)

some_at : {X : Type 0} (q : X → Bool) (r x : X) (xs : List X) (b : Bool) → q x ≡ b → (find q xs ≡ Some r → 1 ≤ tally q xs) → find q (x ∷ xs) ≡ Some r → 1 ≤ tally q (x ∷ xs)
some_at q r x xs true e rest found = rw e (omega arith)
some_at q r x xs false e rest found = let h = rest (rw e at found) in rw e (omega (arith, h))

-- where one is found, one passes
pub tally_some : {X : Type 0} (q : X → Bool) (r : X) (xs : List X) → find q xs ≡ Some r → 1 ≤ tally q xs
tally_some q r [] found = cc
tally_some q r (x ∷ xs) found = some_at q r x xs (q x) refl (tally_some q r xs) found

-- where one at most passes, none does once that one is taken out
pub none_left : {X : Type 0} (p q : X → Bool) (r : X) (xs : List X) → q r ≡ true → tally q xs ≤ 1 → find p xs ≡ Some r → find q (remove_first p xs) ≡ None
none_left p q r xs here one found =
    let h : tally q (remove_first p xs) + 1 ≡ tally q xs = rw here at (tally_removed p q r xs found) in
    find_zero q _ (omega (arith, h, one))
