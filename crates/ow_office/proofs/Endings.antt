-- How the office ends.
use Rattle.std.proofs.Common.{◌≡◌, ◌⊎◌, Ok, Err, Result, Some, OnOk, ap, inl, inr, refl}
use Rattle.std.specs.Result.{IsErr}
use Rattle.ow_traits.specs.declared.streams.Failed.{Failed}

-- a call that may not have failed has done what it does on success
pub took_whole : (r : Result (Unit {0}) Failed) (P Q : Type 0) → OnOk r P → (IsErr r → Q) → (Q → ⊥) → P
took_whole (Ok u) P Q ok rose still = ok
took_whole (Err e) P Q ok rose still = absurd (still (rose refl))

-- a store that comes back is handed back
pub handed_back : {X A B D E : Type 0} (x y : X) → A ⊎ (B × (x ≡ y) × D × E) → A ⊎ (B × (Some x ≡ Some y) × D × E)
handed_back x y (inl a) = inl a
handed_back x y (inr (b, same, d, e)) = inr (b, ap Some same, d, e)
