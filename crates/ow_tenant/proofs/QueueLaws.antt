-- Rising moments: how many of them count, and what is left when the first are dropped and one is appended.
use Rattle.std.proofs.Common.{◌≡◌, ℕ, zero, suc, ◌+◌, ◌<◌, ◌≤◌, List, [], ◌∷◌, ◌++◌, Bool, true, false, cond, length, drop, get_or, refl, sym, ap, ◌∙◌, subst, arith}
use Rattle.std.specs.Prelude.{count_by}
use Rattle.std.specs.List.Sorted.{IsNonDecreasing, IsPartitionPoint}
use Rattle.std.proofs.lemmas.Bool.{le-ltb, lt-ltb}
use Rattle.std.proofs.lemmas.List.Sums.{sum_by-append}
use Rattle.ow_tenant.specs.Notes.{counts_at}
use Rattle.ow_tenant.specs.Queue.{AllFrom, AllUpTo, LetsGo, Rise, with_one}

-- ---- counts

counted : {X : Type 0} (p : X → Bool) (x : X) (xs : List X) → count_by p (x ∷ xs) ≡ (0 + cond (p x) 1 0) + count_by p xs
counted p x xs = sum_by-append (λ y. cond (p y) 1 0) (x ∷ []) xs

pub counted-yes : {X : Type 0} (p : X → Bool) (x : X) (xs : List X) → p x ≡ true → count_by p (x ∷ xs) ≡ count_by p xs + 1
counted-yes p x xs e = counted p x xs ∙ rw e (omega arith)

pub counted-no : {X : Type 0} (p : X → Bool) (x : X) (xs : List X) → p x ≡ false → count_by p (x ∷ xs) ≡ count_by p xs
counted-no p x xs e = counted p x xs ∙ rw e (omega arith)

pub counts-push : (p : ℕ → Bool) (xs : List ℕ) (at : ℕ) → count_by p (xs ++ at ∷ []) ≡ with_one (p at) (count_by p xs)
counts-push p xs at = sum_by-append (λ x. cond (p x) 1 0) xs (at ∷ []) ∙ one (p at)
  where
    one : (b : Bool) → count_by p xs + (0 + cond b 1 0) ≡ with_one b (count_by p xs)
    one true = omega arith
    one false = omega arith

pub still_counts : (now at : ℕ) → now < at + 60000 → counts_at now at ≡ true
still_counts now at h = lt-ltb now (at + 60000) h

pub counts_no_more : (now at : ℕ) → at + 60000 ≤ now → counts_at now at ≡ false
counts_no_more now at h = le-ltb now (at + 60000) h

-- the moments from a place on count
pub counts_from : (now last : ℕ) (p : ℕ → Bool) (low : (t : ℕ) → p t ≡ true → t ≤ last) (high : (t : ℕ) → p t ≡ false → last < t) (xs : List ℕ) (i : ℕ)
    → now ≡ last + 60000 → i ≤ length xs → IsPartitionPoint (λ y. p y ≡ true) (λ y. p y ≡ false) xs i → count_by (counts_at now) xs + i ≡ length xs
counts_from now last p low high [] i e le h = omega arith
counts_from now last p low high (x ∷ xs) zero e le h =
    let above : last < x = high x (h.1 0 x (omega arith) (omega arith)) in
    let rest = counts_from now last p low high xs zero e (omega arith) (λ j d a b. absurd (omega (arith, a, b)), λ j d a b. h.1 (suc j) d (omega arith) (omega arith)) in
    omega (arith, counted-yes (counts_at now) x xs (still_counts now x (omega arith)), rest)
counts_from now last p low high (x ∷ xs) (suc i) e le h =
    let below : x ≤ last = low x (h.0 0 x (omega arith) (omega arith)) in
    let rest = counts_from now last p low high xs i e (omega arith) (λ j d a b. h.0 (suc j) d (omega arith) (omega arith), λ j d a b. h.1 (suc j) d (omega arith) (omega arith)) in
    omega (arith, counted-no (counts_at now) x xs (counts_no_more now x (omega arith)), rest)

-- in the first minute all count
pub counts_all : (now : ℕ) (xs : List ℕ) → now < 60000 → count_by (counts_at now) xs ≡ length xs
counts_all now [] h = refl
counts_all now (x ∷ xs) h = omega (arith, counted-yes (counts_at now) x xs (still_counts now x (omega arith)), counts_all now xs h)

-- ---- order

from_at : (a : ℕ) (xs : List ℕ) (j d : ℕ) → AllFrom a xs → j < length xs → a ≤ get_or xs j d
from_at a [] j d h lt = absurd (omega arith)
from_at a (x ∷ xs) zero d h lt = h.0
from_at a (x ∷ xs) (suc j) d h lt = from_at a xs j d h.1 (omega arith)

pub non_decreasing : (xs : List ℕ) → Rise xs → IsNonDecreasing xs
non_decreasing [] h i j d le lt = absurd (omega arith)
non_decreasing (x ∷ xs) h zero zero d le lt = omega arith
non_decreasing (x ∷ xs) h zero (suc j) d le lt = from_at x xs j d h.0 (omega arith)
non_decreasing (x ∷ xs) h (suc i) zero d le lt = absurd (omega arith)
non_decreasing (x ∷ xs) h (suc i) (suc j) d le lt = non_decreasing xs h.1 i j d (omega arith) (omega arith)

from_push : (a : ℕ) (xs : List ℕ) (at : ℕ) → AllFrom a xs → a ≤ at → AllFrom a (xs ++ at ∷ [])
from_push a [] at h le = (le, tt)
from_push a (x ∷ xs) at h le = (h.0, from_push a xs at h.1 le)

pub Rise-push : (xs : List ℕ) (at : ℕ) → Rise xs → AllUpTo at xs → Rise (xs ++ at ∷ [])
Rise-push [] at h u = (tt, tt)
Rise-push (x ∷ xs) at h u = (from_push x xs at h.0 u.0, Rise-push xs at h.1 u.1)

pub AllUpTo-push : (xs : List ℕ) (at : ℕ) → AllUpTo at xs → AllUpTo at (xs ++ at ∷ [])
AllUpTo-push [] at u = (omega arith, tt)
AllUpTo-push (x ∷ xs) at u = (u.0, AllUpTo-push xs at u.1)

pub AllUpTo-more : (a b : ℕ) (xs : List ℕ) → a ≤ b → AllUpTo a xs → AllUpTo b xs
AllUpTo-more a b [] le u = tt
AllUpTo-more a b (x ∷ xs) le u = let first : x ≤ a = u.0 in (omega arith, AllUpTo-more a b xs le u.1)

-- ---- what is dropped

pub LetsGo-none : (now : ℕ) (xs : List ℕ) → LetsGo now xs xs
LetsGo-none now xs = record { counts = λ m le. refl; rise = λ r. r; up_to = λ at u. u }

pub LetsGo-more : (now : ℕ) (xs ys zs : List ℕ) (x : ℕ) → LetsGo now xs ys → ys ≡ x ∷ zs → x + 60000 ≤ now → LetsGo now xs zs
LetsGo-more now xs ys zs x h e old =
    let g : LetsGo now xs (x ∷ zs) = subst (LetsGo now xs) e h in
    record {
      counts = λ m le. sym (counted-no (counts_at m) x zs (counts_no_more m x (omega arith))) ∙ g.counts m le;
      rise = λ r. (g.rise r).1;
      up_to = λ at u. (g.up_to at u).1;
    }

-- a moment appended to what is left
pub add_counts : (now : ℕ) (xs ys zs : List ℕ) (at : ℕ) → LetsGo at xs ys → zs ≡ ys ++ at ∷ [] → at ≤ now → count_by (counts_at now) zs ≡ with_one (counts_at now at) (count_by (counts_at now) xs)
add_counts now xs ys zs at h e le = ap (count_by (counts_at now)) e ∙ (counts-push (counts_at now) ys at ∙ ap (with_one (counts_at now at)) (h.counts now le))

pub add_rise : (xs ys zs : List ℕ) (at : ℕ) → LetsGo at xs ys → zs ≡ ys ++ at ∷ [] → Rise xs → AllUpTo at xs → Rise zs
add_rise xs ys zs at h e r u = subst Rise (sym e) (Rise-push ys at (h.rise r) (h.up_to at u))

pub add_up_to : (xs ys zs : List ℕ) (at : ℕ) → LetsGo at xs ys → zs ≡ ys ++ at ∷ [] → AllUpTo at xs → AllUpTo at zs
add_up_to xs ys zs at h e u = subst (AllUpTo at) (sym e) (AllUpTo-push ys at (h.up_to at u))

-- the first of some moments was dropped
pub popped : (xs zs : List ℕ) (first : ℕ) → 0 < length xs → first ≡ get_or xs 0 first → zs ≡ drop 1 xs → xs ≡ first ∷ zs
popped [] zs first some at rest = absurd (omega (arith, some))
popped (x ∷ xs) zs first some at rest = ap (λ (y : ℕ). y ∷ xs) (sym at) ∙ ap (λ (ys : List ℕ). first ∷ ys) (sym rest)
