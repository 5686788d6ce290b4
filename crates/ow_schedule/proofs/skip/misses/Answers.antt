use Rattle.std.proofs.Common.{arith, ◌≡◌, ◌∙◌, sym, ◌*◌, ◌-◌, pos, ◌+ℤ◌}
use Rattle.jiff.specs.Words.{civil_nanos, nanos_of_seconds}
use Rattle.ow_schedule.proofs.Skipped.{miss_day, miss_hour}
use Rattle.ow_schedule.proofs.skip.misses.Goals as goal

pub returns-then-not-fits_date-clause-misses : goal.returns-then-not-fits_date-clause-misses
returns-then-not-fits_date-clause-misses c =
    let shown = c.to_datetime-shown.result in
    let is : civil_nanos shown ≡ pos (c.args.at * 1000000) +ℤ nanos_of_seconds c.args.offset.seconds = rw c.instant.ensures at c.to_datetime-shown.ensures in
    miss_day c.args.fields.now c.args.offset.seconds c.args.at (1440 - c.minute_of_day.result) shown is (sym c.fits_date.ensures ∙ c.if-not-fits_date.true) (omega arith)

pub returns-then-not-fits_hour-clause-misses : goal.returns-then-not-fits_hour-clause-misses
returns-then-not-fits_hour-clause-misses c =
    let shown = c.to_datetime-shown.result in
    let is : civil_nanos shown ≡ pos (c.args.at * 1000000) +ℤ nanos_of_seconds c.args.offset.seconds = rw c.instant.ensures at c.to_datetime-shown.ensures in
    miss_hour c.args.fields.now c.args.offset.seconds c.args.at (60 - c.minute_of.result) shown is (sym c.fits_hour.ensures ∙ c.if-not-fits_hour.true) (omega arith)
