-- Places that hold nothing any more.
use Rattle.std.proofs.Common.{◌≡◌, ◌<◌, ◌≤◌, ◌+◌, ℕ, zero, suc, Bool, true, false, List, [], ◌∷◌, ◌++◌, Option, Some, None, length, get_or, take, refl, ap, ◌∙◌, arith}
use mathlib.Core.Logic.{dite}
use native.Mathlib.Decide.{ℕ_discrete}
use Rattle.std.specs.Prelude.{slice_set}
use Rattle.std.specs.List.{find}
use Rattle.ow_records.specs.declared.activations.Activation.{Activation}
use Rattle.ow_floor.specs.declared.activations.Open.{Open}
use Rattle.ow_floor.specs.declared.lists.Spot.{Spot}
use Rattle.ow_floor.specs.Store.{AreGone, IsCell, empty_of, opens, there}
use Rattle.ow_floor.specs.Places.{has}
use Rattle.ow_floor.proofs.Finding.{cell_at, none_there}

pub gone_within : {X : Type 0} (k : ℕ) (xs : List (Option X)) → AreGone k xs → k ≤ length xs
gone_within zero xs gone = omega arith
gone_within (suc k) [] gone = absurd gone
gone_within (suc k) (x ∷ xs) gone = omega (arith, gone_within k xs gone.1)

pub gone_less : {X : Type 0} (j k : ℕ) (xs : List (Option X)) → j ≤ k → AreGone k xs → AreGone j xs
gone_less zero k xs le gone = tt
gone_less (suc j) zero xs le gone = absurd (omega (arith, le))
gone_less (suc j) (suc k) [] le gone = gone
gone_less (suc j) (suc k) (x ∷ xs) le gone = (gone.0, gone_less j k xs (omega (arith, le)) gone.1)

pub gone_added : {X : Type 0} (k : ℕ) (xs ys : List (Option X)) → AreGone k xs → AreGone k (xs ++ ys)
gone_added zero xs ys gone = tt
gone_added (suc k) [] ys gone = absurd gone
gone_added (suc k) (x ∷ xs) ys gone = (gone.0, gone_added k xs ys gone.1)

pub gone_set_none : {X : Type 0} (k p : ℕ) (xs : List (Option X)) → AreGone k xs → AreGone k (slice_set xs p None)
gone_set_none zero p xs gone = tt
gone_set_none (suc k) p [] gone = absurd gone
gone_set_none (suc k) zero (x ∷ xs) gone = (refl, gone.1)
gone_set_none (suc k) (suc p) (x ∷ xs) gone = (gone.0, gone_set_none k p xs gone.1)

pub gone_set_behind : {X : Type 0} (k p : ℕ) (xs : List (Option X)) (x : Option X) → k ≤ p → AreGone k xs → AreGone k (slice_set xs p x)
gone_set_behind zero p xs x le gone = tt
gone_set_behind (suc k) p [] x le gone = absurd gone
gone_set_behind (suc k) zero (y ∷ xs) x le gone = absurd (omega (arith, le))
gone_set_behind (suc k) (suc p) (y ∷ xs) x le gone = (gone.0, gone_set_behind k p xs x (omega (arith, le)) gone.1)

pub gone_one_more : {X : Type 0} (k : ℕ) (xs : List (Option X)) (d : Option X) → k < length xs → get_or xs k d ≡ None → AreGone k xs → AreGone (suc k) xs
gone_one_more zero [] d lt here gone = absurd (omega arith)
gone_one_more zero (x ∷ xs) d lt here gone = (here, tt)
gone_one_more (suc k) [] d lt here gone = absurd gone
gone_one_more (suc k) (x ∷ xs) d lt here gone = (gone.0, gone_one_more k xs d (omega arith) here gone.1)

pub gone_empty : {X : Type 0} (Y : Type 0) (k : ℕ) (xs : List (Option X)) → k ≤ length xs → AreGone {X = Y} k (empty_of xs)
gone_empty Y zero xs le = tt
gone_empty Y (suc k) [] le = absurd (omega (arith, le))
gone_empty Y (suc k) (x ∷ xs) le = (refl, gone_empty Y k xs (omega (arith, le)))

-- nothing is open there
pub gone_open : (k : ℕ) (ss : List Spot) (ts : List (Option Activation)) → AreGone k ts → opens (take k ss) (take k ts) ≡ []
gone_open zero ss ts gone = refl
gone_open (suc k) [] ts gone = refl
gone_open (suc k) (s ∷ ss) [] gone = absurd gone
gone_open (suc k) (s ∷ ss) (None ∷ ts) gone = gone_open k ss ts gone.1
gone_open (suc k) (s ∷ ss) (Some t ∷ ts) gone = cc

pub none_open : (p : Open → Bool) (k : ℕ) (ss : List Spot) (ts : List (Option Activation)) → AreGone k ts → find p (opens (take k ss) (take k ts)) ≡ None
none_open p k ss ts gone = rw (gone_open k ss ts gone) refl

-- and nothing passes there
pub none_has : {X Y : Type 0} (g : X → Y) (p : Y → Bool) (k : ℕ) (xs : List (Option X)) → AreGone k xs → (d : Option X) (j : ℕ) → j < k → has g p (get_or xs j d) ≡ false
none_has g p zero xs gone d j lt = absurd (omega (arith, lt))
none_has g p (suc k) [] gone d j lt = absurd gone
none_has g p (suc k) (None ∷ xs) gone d zero lt = refl
none_has g p (suc k) (Some x ∷ xs) gone d zero lt = cc
none_has g p (suc k) (x ∷ xs) gone d (suc j) lt = none_has g p k xs gone.1 d j (omega (arith, lt))

pub has_more : {X Y : Type 0} (g : X → Y) (p : Y → Bool) (k : ℕ) (xs : List (Option X)) (c : Option X) → ((d : Option X) → get_or xs k d ≡ c) → has g p c ≡ false
    → ((d : Option X) (j : ℕ) → j < k → has g p (get_or xs j d) ≡ false) → (d : Option X) (j : ℕ) → j < k + 1 → has g p (get_or xs j d) ≡ false
has_more g p k xs c is fails before d j lt = dite (ℕ_discrete j k)
    (λ e. ap (λ n. has g p (get_or xs n d)) e ∙ (ap (has g p) (is d) ∙ fails))
    (λ ne. before d j (omega (arith, lt, ne)))

none_of_all : {X : Type 0} (p : X → Bool) (xs : List X) → ((d : X) (j : ℕ) → j < length xs → p (get_or xs j d) ≡ false) → find p xs ≡ None
none_of_all p [] fails = refl
none_of_all p (x ∷ xs) fails = rw (fails x 0 (omega arith)) (none_of_all p xs (λ d j lt. fails d (suc j) (omega (arith, lt))))

pub none_there_at : {X Y : Type 0} (g : X → Y) (p : Y → Bool) (xs : List (Option X)) → ((d : Option X) (j : ℕ) → j < length xs → has g p (get_or xs j d) ≡ false) → find p (there g xs) ≡ None
none_there_at g p xs fails = none_there g p xs (none_of_all (has g p) xs fails)

pub cell_found : {X Y : Type 0} (g : X → Y) (p : Y → Bool) (xs : List (Option X)) (k : ℕ) (c : Option X) → k < length xs → ((d : Option X) → get_or xs k d ≡ c) → has g p c ≡ true
    → ((d : Option X) (j : ℕ) → j < k → has g p (get_or xs j d) ≡ false) → IsCell g p xs k
cell_found g p xs k c lt is passes before = cell_at g p xs k lt (λ d. ap (has g p) (is d) ∙ passes) before
