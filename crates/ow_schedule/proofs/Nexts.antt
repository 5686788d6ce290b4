-- The first moment in a range.
use Rattle.std.proofs.Common.{◌≡◌, ◌<◌, ◌≤◌, ◌+◌, ◌-◌, ◌*◌, ◌/◌, ◌%◌, ℕ, inl, inr, arith, ◌∙◌, ap, subst, List, [], ◌∷◌, refl}
use Rattle.std.proofs.lemmas.Bool.{cases_order}
use Rattle.std.proofs.lemmas.Nat.{div-add-mod'}
use Rattle.std.proofs.Math.Nat.{mul-le-mul_right, add-mul}
use Rattle.jiff.specs.Types.{TimeZone}
use Rattle.ow_schedule.specs.declared.due.Fields.{Fields}
use Rattle.ow_schedule.specs.Due.{IsEveryDue, IsCronDue}
use Rattle.ow_schedule.specs.Next.{NoneBelow, IsFirst, AreAll}

-- a step from a minute that isn't due to the next
pub minute_step : (f : Fields) (zone : TimeZone) (from since at : ℕ) → at % 60000 ≡ 0
    → NoneBelow (IsCronDue f zone from) since at → ¬ IsCronDue f zone from at → NoneBelow (IsCronDue f zone from) since (at + 60000)
minute_step f zone from since at whole none not e ge lt due =
    let minute = due.minute in
    elim (cases_order e at) [
      | inl same ↦ not (let P : ℕ → Type 0 = λ x. IsCronDue f zone from x in subst P same due)
      | inr apart ↦ elim apart [ inl below ↦ none e ge below due | inr above ↦ omega arith ]
    ]

-- the multiple above the ones below `since`
abbrev pub gap_of : (from since : ℕ) → ℕ
gap_of from since = since - from - 1

pub after_gap : (from every since : ℕ) → 0 < every → from < since
    → since + (every - 1 - gap_of from since % every) ≡ from + (gap_of from since / every + 1) * every
after_gap from every since p lt =
    let gap = gap_of from since in
    let rest : gap % every < every = omega arith in
    omega (arith, div-add-mod' gap every, add-mul (gap / every) 1 every)

pub none_in_gap : (from every since e : ℕ) → 0 < every → from < since → since ≤ e
    → e < since + (every - 1 - gap_of from since % every) → ¬ IsEveryDue from every e
none_in_gap from every since e p low ge lt due =
    let gap = gap_of from since in
    let k = due.0 in
    let q = gap / every in
    let is : e ≡ from + k * every = due.1 in
    let next = after_gap from every since p low in
    let split = div-add-mod' gap every in
    elim (cases_order k q) [
      | inl same ↦ (let less : k * every ≤ q * every = mul-le-mul_right every (omega (arith, same)) in omega arith)
      | inr apart ↦ elim apart [
        | inl below ↦ (let less : k * every ≤ q * every = mul-le-mul_right every (omega (arith, below)) in omega arith)
        | inr above ↦ (let more : (q + 1) * every ≤ k * every = mul-le-mul_right every (omega (arith, above)) in omega arith)
      ]
    ]

pub period_after_gap : (from every since : ℕ) → 0 < every → from < since
    → IsEveryDue from every (since + (every - 1 - gap_of from since % every))
period_after_gap from every since p lt = (gap_of from since / every + 1, after_gap from every since p lt)

-- two firsts are one
pub first_is_one : (P : ℕ → Type 0) (since until a b : ℕ) → IsFirst P since until a → IsFirst P since until b → a ≡ b
first_is_one P since until a b x y =
    elim (cases_order a b) [
      | inl same ↦ same
      | inr apart ↦ elim apart [
        | inl below ↦ absurd (y.none_before a x.not_before below x.due)
        | inr above ↦ absurd (x.none_before b y.not_before above y.due)
      ]
    ]

pub all_are_one : (P : ℕ → Type 0) (since until : ℕ) (xs ys : List ℕ) → AreAll P since until xs → AreAll P since until ys → xs ≡ ys
all_are_one P since until [] [] x y = refl
all_are_one P since until [] (b ∷ ys) x y = absurd (x b y.0.not_before y.0.not_after y.0.due)
all_are_one P since until (a ∷ xs) [] x y = absurd (y a x.0.not_before x.0.not_after x.0.due)
all_are_one P since until (a ∷ xs) (b ∷ ys) x y =
    let same = first_is_one P since until a b x.0 y.0 in
    let Q : ℕ → Type 0 = λ n. AreAll P (n + 1) until xs in
    let more : AreAll P (b + 1) until xs = subst Q same x.1 in
    let rest = all_are_one P (b + 1) until xs ys more y.1 in
    ap (λ n. n ∷ xs) same ∙ ap (λ ns. b ∷ ns) rest
