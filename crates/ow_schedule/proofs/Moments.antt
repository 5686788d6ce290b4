-- Moments at equal distances, and moments by a clock.
use Rattle.std.proofs.Common.{◌≡◌, ◌≤◌, ◌-◌, ◌*◌, ◌/◌, ◌%◌, ℕ, arith, sym, ◌∙◌, IsTrue, subst}
use Rattle.std.proofs.lemmas.Nat.{div-add-mod'}
use Rattle.std.proofs.Math.Nat.{mul-mod_left}
use Rattle.jiff.specs.Types.{DateTime, TimeZone}
use Rattle.jiff.proofs.Family.{same_datetime}
use Rattle.ow_schedule.specs.declared.due.Fields.{Fields}
use Rattle.ow_schedule.specs.Due.{Shows, IsEveryDue, IsCronDue, fits}
use Rattle.ow_schedule.specs.Laws.{ShowsOne}

pub every_due : (from every at : ℕ) → from ≤ at → (at - from) % every ≡ 0 → IsEveryDue from every at
every_due from every at le e = ((at - from) / every, omega (arith, div-add-mod' (at - from) every))

pub every_due_rest : (from every at : ℕ) → IsEveryDue from every at → (at - from) % every ≡ 0
every_due_rest from every at due =
    let far : at - from ≡ due.0 * every = omega (arith, due.1) in
    rw far (mul-mod_left due.0 every)

pub every_due_begun : (from every at : ℕ) → IsEveryDue from every at → from ≤ at
every_due_begun from every at due = omega (arith, due.1)

pub shows_one : ShowsOne
shows_one zone at a b x y = same_datetime a b (x ∙ sym y)

-- what is due by the fields fits what the clock shows
pub cron_due_fits : (f : Fields) (zone : TimeZone) (from at : ℕ) (dt : DateTime) → Shows zone at dt → IsCronDue f zone from at → IsTrue (fits f dt)
cron_due_fits f zone from at dt shows due =
    let P : DateTime → Type 0 = λ t. IsTrue (fits f t) in
    subst P (shows_one zone at due.shown.0 dt due.shown.1 shows) due.shown.2
