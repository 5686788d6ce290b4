-- The steps of a walk over rows, whatever their keys are.
use Rattle.std.proofs.Common.{◌≡◌, ◌≢◌, ℕ, zero, suc, ◌-◌, List, [], ◌∷◌, ◌++◌, length, drop, Option, Some, None, true, false, cond, refl, ap, arith, ◌==◌}
use Rattle.std.proofs.lemmas.Bool.Decides.{nat_tests}
use Rattle.matchit.specs.Rows.{RowsOf, param_token, catch_all_token}
use Rattle.matchit.specs.Seek.{own, step, or_else, seek, param_step, has_slash}

-- each row with these tokens in front
abbrev pub under : {K : Type 0} → List ℕ → RowsOf K → RowsOf K
under w [] = []
under w ((t, key) ∷ rest) = (w ++ t, key) ∷ under w rest

pub under-nil : {K : Type 0} (r : RowsOf K) → under [] r ≡ r
under-nil [] = refl
under-nil ((t, k) ∷ r) = ap (λ x. (t, k) ∷ x) (under-nil r)

pub own-append : {K : Type 0} (x y : RowsOf K) → own (x ++ y) ≡ or_else (own x) (own y)
own-append [] y = refl
own-append (([], k) ∷ r) y = refl
own-append ((a ∷ t, k) ∷ r) y = own-append r y

pub step-append : {K : Type 0} (b : ℕ) (x y : RowsOf K) → step b (x ++ y) ≡ step b x ++ step b y
step-append b [] y = refl
step-append b (([], k) ∷ r) y = step-append b r y
step-append b ((a ∷ t, k) ∷ r) y =
    elim (a == b) as (λ v. cond v ((t, k) ∷ step b (r ++ y)) (step b (r ++ y)) ≡ cond v ((t, k) ∷ step b r) (step b r) ++ step b y) [
      | true ↦ ap (λ x. (t, k) ∷ x) (step-append b r y)
      | false ↦ step-append b r y
    ]

pub own-under : {K : Type 0} (x : ℕ) (w : List ℕ) (r : RowsOf K) → own (under (x ∷ w) r) ≡ None
own-under x w [] = refl
own-under x w ((t, k) ∷ r) = own-under x w r

pub step-hit : {K : Type 0} (b : ℕ) (w : List ℕ) (r : RowsOf K) → step b (under (b ∷ w) r) ≡ under w r
step-hit b w [] = refl
step-hit b w ((t, k) ∷ r) =
    let e : (b == b) ≡ true = grind (arith, nat_tests) in
    rw e (ap (λ x. (w ++ t, k) ∷ x) (step-hit b w r))

pub step-miss : {K : Type 0} (b x : ℕ) (w : List ℕ) (r : RowsOf K) → x ≢ b → step b (under (x ∷ w) r) ≡ []
step-miss b x w [] n = refl
step-miss b x w ((t, k) ∷ r) n =
    let e : (x == b) ≡ false = grind (arith, nat_tests) in
    rw e (step-miss b x w r n)

pub or_else-none : {K : Type 0} (a : Option K) → or_else a None ≡ a
or_else-none None = refl
or_else-none (Some k) = refl

pub param_step-empty : {K : Type 0} (p : List ℕ) → (param_step {K = K} [] p).1 ≡ []
unfolding param_step
param_step-empty {K} p =
    elim (has_slash p) as (λ v. (cond {A = ℕ × RowsOf K} v (0, []) (length p, [])).1 ≡ []) [
      | true ↦ refl
      | false ↦ refl
    ]

pub seek-empty : {K : Type 0} (k : ℕ) (p : List ℕ) → seek {K = K} k [] p ≡ None
unfolding seek
seek-empty k [] = refl
seek-empty (suc k) (b ∷ p) = seek-empty k p
seek-empty {K} zero (b ∷ p) =
    simp (seek-empty {K = K} 0 p, param_step-empty {K = K} (b ∷ p), seek-empty {K = K} (((param_step {K = K} [] (b ∷ p)).0) - 1) p)

pub seek-drop : {K : Type 0} (k : ℕ) (r : RowsOf K) (p : List ℕ) → seek k r p ≡ seek 0 r (drop k p)
unfolding seek
seek-drop zero r p = refl
seek-drop (suc k) r [] = refl
seek-drop (suc k) r (b ∷ p) = seek-drop k r p

-- a byte that has no parameter and no rest beside it
pub seek-byte : {K : Type 0} (r : RowsOf K) (b : ℕ) (p : List ℕ) → step param_token r ≡ [] → step catch_all_token r ≡ []
    → seek 0 r (b ∷ p) ≡ seek 0 (step b r) p
unfolding seek
seek-byte {K} r b p e f =
    rw (e, f) (simp (param_step-empty {K = K} (b ∷ p), seek-empty {K = K} ((param_step {K = K} [] (b ∷ p)).0 - 1) p, or_else-none {K = K}))
