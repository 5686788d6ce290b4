-- Why a service wasn't opened.
use Rattle.std.proofs.Common.{◌≡◌, Option, Some, subst, sym}
use Rattle.ow_traits.specs.Telling.{Telling}
use Rattle.ow_hall.specs.Openings.{HasStartCause}
use Rattle.ow_hall.specs.declared.refusals.StartFault.{StartFault}
use Rattle.ow_hall.specs.declared.refusals.StartFault.TheVariants as starts
use Rattle.ow_serve.specs.declared.served.ServedEnd.{ServedEnd}
use Rattle.ow_serve.specs.Ended.{IsUnopened, unopened}

pub why_unopened : {P : Type 0} (telling : P → Telling) (store back : P) (why : StartFault) (end : ServedEnd) (handed : Option P) → end ≡ unopened why → handed ≡ Some back
    → HasStartCause telling store back why → (telling back).rows ≡ (telling store).rows → (telling back).old_rows ≡ (telling store).old_rows → IsUnopened telling store end handed
why_unopened telling store back why end handed is same cause rows old_rows =
    subst (λ e. IsUnopened telling store e handed) (sym is) (subst (λ o. IsUnopened telling store (unopened why) o) (sym same) (by_why why cause))
  where
    by_why : (w : StartFault) → HasStartCause telling store back w → IsUnopened telling store (unopened w) (Some back)
    by_why (starts.BadKept key) cause = (cause, rows, old_rows)
    by_why starts.StoreFault cause = (cause, rows, old_rows)
    by_why starts.NoMemory cause = tt
