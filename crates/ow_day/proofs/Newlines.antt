-- The first place in a list that passes a test, and lists that are appended to one another.
use Rattle.std.proofs.Common.{◌≡◌, ◌≤◌, ◌+◌, ◌-◌, ◌++◌, ℕ, zero, suc, Bool, true, false, List, [], ◌∷◌, Option, Some, None, length, take, drop, refl, sym, ap, ◌∙◌, arith, position, length-take, length-drop}
use Rattle.std.specs.Option.{option_map}
use Rattle.std.proofs.lemmas.List.{take-append-drop, drop-drop, take_rest}
use Rattle.ow_runners.proofs.Lines.{none_of, position-cons_fails, position-cons_passes}

some_of : (o : Option ℕ) (k : ℕ) → option_map suc o ≡ Some k → o ≡ Some (k - 1)
some_of None k is = cc
some_of (Some j) k is = let e : suc j ≡ k = cc in ap Some (omega (arith, e))

suc_back : (o : Option ℕ) (k : ℕ) → option_map suc o ≡ Some k → suc (k - 1) ≡ k
suc_back None k is = cc
suc_back (Some j) k is = let e : suc j ≡ k = cc in omega (arith, e)

plus_zero : (o : Option ℕ) → o ≡ option_map (λ k. zero + k) o
plus_zero None = refl
plus_zero (Some k) = ap Some (omega arith)

plus_suc : (n : ℕ) (o : Option ℕ) → option_map suc (option_map (λ k. n + k) o) ≡ option_map (λ k. suc n + k) o
plus_suc n None = refl
plus_suc n (Some k) = ap Some (omega arith)

none_at : (p : ℕ → Bool) (x : ℕ) (xs ys : List ℕ) (b : Bool) → p x ≡ b → position p (x ∷ xs) ≡ None
    → (position p xs ≡ None → position p (xs ++ ys) ≡ option_map (λ k. length xs + k) (position p ys))
    → position p (x ∷ (xs ++ ys)) ≡ option_map (λ k. suc (length xs) + k) (position p ys)
none_at p x xs ys true is none rest = let e = position-cons_passes p x xs is in cc
none_at p x xs ys false is none rest =
    position-cons_fails p x (xs ++ ys) is
    ∙ ap (option_map suc) (rest (none_of (position p xs) (sym (position-cons_fails p x xs is) ∙ none)))
    ∙ plus_suc (length xs) (position p ys)

-- where no element of the first list passes, the first place is in the second list
pub position-append_none : (p : ℕ → Bool) (xs ys : List ℕ) → position p xs ≡ None → position p (xs ++ ys) ≡ option_map (λ k. length xs + k) (position p ys)
position-append_none p [] ys none = plus_zero (position p ys)
position-append_none p (x ∷ xs) ys none = none_at p x xs ys (p x) refl none (position-append_none p xs ys)

some_at : (p : ℕ → Bool) (x : ℕ) (xs ys : List ℕ) (k : ℕ) (b : Bool) → p x ≡ b → position p (x ∷ xs) ≡ Some k
    → ((j : ℕ) → position p xs ≡ Some j → position p (xs ++ ys) ≡ Some j)
    → position p (x ∷ (xs ++ ys)) ≡ Some k
some_at p x xs ys k true is some rest = position-cons_passes p x (xs ++ ys) is ∙ sym (position-cons_passes p x xs is) ∙ some
some_at p x xs ys k false is some rest =
    let there = sym (position-cons_fails p x xs is) ∙ some in
    position-cons_fails p x (xs ++ ys) is
    ∙ ap (option_map suc) (rest (k - 1) (some_of (position p xs) k there))
    ∙ ap Some (suc_back (position p xs) k there)

-- the first place doesn't depend on what follows it
pub position-append_some : (p : ℕ → Bool) (xs ys : List ℕ) (k : ℕ) → position p xs ≡ Some k → position p (xs ++ ys) ≡ Some k
position-append_some p [] ys k some = cc
position-append_some p (x ∷ xs) ys k some = some_at p x xs ys k (p x) refl some (λ (j : ℕ). position-append_some p xs ys j)

-- the first place of a list that was searched up to `from`
searched : (p : ℕ → Bool) (xs : List ℕ) (from : ℕ) → from ≤ length xs → position p (take from xs) ≡ None
    → position p xs ≡ option_map (λ k. from + k) (position p (drop from xs))
searched p xs from within none =
    let length_is : length (take from xs) ≡ from = omega (arith, length-take from xs) in
    ap (position p) (sym (take-append-drop from xs)) ∙ position-append_none p (take from xs) (drop from xs) none ∙ rw length_is refl

behind_start : (xs : List ℕ) (start from : ℕ) → start ≤ from → drop (from - start) (drop start xs) ≡ take (length xs - from) (drop from xs)
behind_start xs start from le =
    let e : start + (from - start) ≡ from = omega arith in
    drop-drop (from - start) start xs ∙ rw e (sym (take_rest xs from))

pub newline_at : (p : ℕ → Bool) (xs : List ℕ) (start from : ℕ) (o : Option ℕ) → start ≤ from → from ≤ length xs → position p (take (from - start) (drop start xs)) ≡ None
    → o ≡ position p (take (length xs - from) (drop from xs)) → option_map (λ k. from - start + k) o ≡ position p (drop start xs)
newline_at p xs start from o le within none is =
    let fits : from - start ≤ length (drop start xs) = simp length-drop (omega arith) in
    sym (searched p (drop start xs) (from - start) fits none ∙ rw (behind_start xs start from le, ← is) refl)

pub all_searched : (p : ℕ → Bool) (xs : List ℕ) (start end : ℕ) → end ≡ length xs → position p (drop start xs) ≡ None → position p (take (end - start) (drop start xs)) ≡ None
all_searched p xs start end is none = rw (is, take_rest xs start) none
