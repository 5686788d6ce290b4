-- Minutes that are skipped.
use Rattle.std.proofs.Common.{◌≡◌, ◌<◌, ◌≤◌, ◌+◌, ◌-◌, ◌*◌, ◌/◌, ◌%◌, ℕ, inl, inr, arith, ◌∙◌, ap, true, false, ℤ, pos, ◌+ℤ◌, ◌&&◌}
use Rattle.std.proofs.lemmas.Bool.{cases_order, and_parts}
use Rattle.jiff.specs.Types.{DateTime, TimeZone}
use Rattle.jiff.specs.Words.{civil_nanos, nanos_of_seconds, epoch_day}
use Rattle.jiff.proofs.Family.{civil_nanos-parts, same_date}
use Rattle.jiff.proofs.SpanFacts.{signed_arith}
use Rattle.ow_schedule.specs.declared.due.Fields.{Fields}
use Rattle.ow_schedule.specs.Fields.{has}
use Rattle.ow_schedule.specs.Due.{IsCronDue, fits_date}
use Rattle.ow_schedule.specs.Next.{NoneBelow}
use Rattle.ow_schedule.proofs.Nexts.{minute_step}
use Rattle.ow_schedule.specs.Skips.{HasOffsets, Misses}

-- a clock that goes on by j minutes within an hour, and within a day
pub same_hour : (a b : DateTime) (j : ℕ) → civil_nanos b ≡ civil_nanos a +ℤ pos (j * 60000000000) → a.time.minute + j < 60 → b.time.hour ≡ a.time.hour
same_hour a b j e l =
    omega (arith, signed_arith, civil_nanos-parts a, civil_nanos-parts b)

pub same_day : (a b : DateTime) (j : ℕ) → civil_nanos b ≡ civil_nanos a +ℤ pos (j * 60000000000) → a.time.hour * 60 + a.time.minute + j < 1440 → epoch_day b.date ≡ epoch_day a.date
same_day a b j e l =
    omega (arith, signed_arith, civil_nanos-parts a, civil_nanos-parts b)

pub miss_hour : (f : Fields) (offset : ℤ) (at n : ℕ) (shown : DateTime) → civil_nanos shown ≡ pos (at * 1000000) +ℤ nanos_of_seconds offset
    → has f.hour.items shown.time.hour ≡ false → n + shown.time.minute ≤ 60 → Misses f offset at n
miss_hour f offset at n shown is out room j lt dt e t =
    let far : civil_nanos dt ≡ civil_nanos shown +ℤ pos (j * 60000000000) = omega (arith, signed_arith, is, e) in
    let same = same_hour shown dt j far (omega arith) in
    let m = has f.minute.items dt.time.minute in
    let h = has f.hour.items dt.time.hour in
    let d = fits_date f dt.date in
    let hour : h ≡ true = (and_parts h d (and_parts m (h && d) t).1).0 in
    cc

pub miss_day : (f : Fields) (offset : ℤ) (at n : ℕ) (shown : DateTime) → civil_nanos shown ≡ pos (at * 1000000) +ℤ nanos_of_seconds offset
    → fits_date f shown.date ≡ false → n + (shown.time.hour * 60 + shown.time.minute) ≤ 1440 → Misses f offset at n
miss_day f offset at n shown is out room j lt dt e t =
    let far : civil_nanos dt ≡ civil_nanos shown +ℤ pos (j * 60000000000) = omega (arith, signed_arith, is, e) in
    let same : dt.date ≡ shown.date = same_date dt.date shown.date (same_day shown dt j far (omega arith)) in
    let m = has f.minute.items dt.time.minute in
    let h = has f.hour.items dt.time.hour in
    let d = fits_date f dt.date in
    let day : d ≡ true = (and_parts h d (and_parts m (h && d) t).1).1 in
    let other : fits_date f dt.date ≡ fits_date f shown.date = ap (fits_date f) same in
    cc

-- fewer minutes are missed too
pub miss_fewer : (f : Fields) (offset : ℤ) (at m n : ℕ) → m ≤ n → Misses f offset at n → Misses f offset at m
miss_fewer f offset at m n le h j lt = h j (omega arith)

pub at_or_above : (f : Fields) (zone : TimeZone) (from at n : ℕ) (a b : ℤ) → HasOffsets zone a b → at % 60000 ≡ 0
    → Misses f a at n → Misses f b at n → (e : ℕ) → at ≤ e → e < at + n * 60000 → ¬ IsCronDue f zone from e
at_or_above f zone from at n a b two whole first second e ge lt due =
    let minute = due.minute in
    let j = (e - at) / 60000 in
    let is : e ≡ at + j * 60000 = omega arith in
    let low : j < n = omega arith in
    let dt = due.shown.0 in
    let shows = due.shown.1 in
    let fit = due.shown.2 in
    elim (two (pos (e * 1000000))) [
      | inl x ↦ first j low dt (rw (← is) (shows ∙ ap (λ s. pos (e * 1000000) +ℤ nanos_of_seconds s) x)) fit
      | inr x ↦ second j low dt (rw (← is) (shows ∙ ap (λ s. pos (e * 1000000) +ℤ nanos_of_seconds s) x)) fit
    ]

-- what is free up to a moment and from it on is free
pub joined : (f : Fields) (zone : TimeZone) (from since at end : ℕ)
    → NoneBelow (IsCronDue f zone from) since at → NoneBelow (IsCronDue f zone from) at end → NoneBelow (IsCronDue f zone from) since end
joined f zone from since at end one two e ge lt due =
    elim (cases_order e at) [
      | inl same ↦ two e (omega (arith, same)) lt due
      | inr apart ↦ elim apart [ inl below ↦ one e ge below due | inr above ↦ two e (omega (arith, above)) lt due ]
    ]

-- a minute that isn't due
pub one_free : (f : Fields) (zone : TimeZone) (from at : ℕ) → at % 60000 ≡ 0 → ¬ IsCronDue f zone from at → NoneBelow (IsCronDue f zone from) at (at + 60000)
one_free f zone from at whole not = minute_step f zone from at at whole (λ e ge lt due. omega arith) not
