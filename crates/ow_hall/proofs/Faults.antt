-- The store's count of faults doesn't fall, whether changes are kept or not.
use Rattle.std.proofs.Common.{◌≡◌, ◌≤◌, ℕ, List, [], ◌∷◌, ap, arith, inl, inr}
use Rattle.ow_traits.specs.Telling.{Telling}
use Rattle.ow_traits.specs.declared.change_list.Change.{Change}
use Rattle.ow_hall.specs.Comes.{Holds, Stays}

module _ {P : Type 0} (telling : P → Telling) where
  pub holds_later : (changes : List Change) (old new : P) → Holds telling changes old new → (telling old).faults ≤ (telling new).faults
  holds_later [] old new same = let e : (telling new).faults ≡ (telling old).faults = ap (λ s. (telling s).faults) same in omega arith
  holds_later (c ∷ cs) old new holds = holds.later

  pub stays_later : (changes : List Change) (old new : P) → Stays telling changes old new → (telling old).faults ≤ (telling new).faults
  stays_later [] old new same = let e : (telling new).faults ≡ (telling old).faults = ap (λ s. (telling s).faults) same in omega arith
  stays_later (c ∷ cs) old new (inl same) = let e : (telling new).faults ≡ (telling old).faults = ap (λ s. (telling s).faults) same in omega arith
  stays_later (c ∷ cs) old new (inr refuses) = refuses.later
