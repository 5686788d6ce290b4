-- How a failure that was counted is a cause.
use Rattle.std.proofs.Common.{◌≡◌, ◌≤◌, ℕ, Err, subst}
use Rattle.ow_traits.specs.Keeper.{KeepsCause}
use Rattle.ow_traits.specs.Streams.{Rose}
use Rattle.ow_traits.specs.declared.keepers.KeeperError.{KeeperError}
use Rattle.ow_traits.specs.declared.keepers.KeeperError.TheVariants.{Failed}

pub counted_cause : {T : Type 0} (before mid now : ℕ) (e : KeeperError) → mid ≡ before → mid ≤ now → (e ≡ Failed → Rose mid now) → KeepsCause {T = T} before now (Err e)
counted_cause {T} before mid now e same later rose =
    let P : ℕ → Type 0 = λ n. KeepsCause {T = T} n now (Err e) in
    subst P same (record { later = later; rose = λ is. rose cc })
