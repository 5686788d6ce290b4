-- The moments of a range as a list.
use Rattle.std.proofs.Common.{◌≡◌, ◌<◌, ◌≤◌, ◌+◌, ◌-◌, ℕ, zero, suc, inl, inr, arith, sym, subst, List, [], ◌∷◌, length, Bool, true, false, Option, None, Some, refl, if◌then◌else◌, max, nat_lt}
use Rattle.std.specs.Prelude.{Contains, filter, slice_index_or}
use Rattle.std.specs.List.Sorted.{IsStrictlyIncreasing}
use Rattle.std.proofs.lemmas.Bool.{cases_order}
use Rattle.std.proofs.lemmas.Bool.Decides.{nat_tests}
use Rattle.ow_schedule.specs.declared.due.Schedule.{Schedule}
use Rattle.ow_schedule.specs.Due.{IsDue}
use Rattle.ow_schedule.specs.Next.{IsFirst, AreAll}
use Rattle.ow_schedule.specs.Window.{ArePending, earliest}
use Rattle.ow_schedule.proofs.Nexts.{all_are_one}

pub rises : (P : ℕ → Type 0) (since until : ℕ) (xs : List ℕ) → AreAll P since until xs → IsStrictlyIncreasing xs
rises P since until [] h k l = omega arith
rises P since until (a ∷ []) h k l = omega arith
rises P since until (a ∷ b ∷ xs) h zero l = omega (arith, h.1.0.not_before)
rises P since until (a ∷ b ∷ xs) h (suc k) l =
    let next : suc k + 1 ≡ suc (k + 1) = omega arith in
    rw next (rises P (a + 1) until (b ∷ xs) h.1 k (omega (arith, l)))

sound_at : (P : ℕ → Type 0) (since until : ℕ) (xs : List ℕ) → AreAll P since until xs
    → (at k : ℕ) → k < length xs → slice_index_or xs k at ≡ at → (since ≤ at) × (at ≤ until) × P at
sound_at P since until [] h at k l e = let no : ⊥ = omega (arith, l) in absurd no
sound_at P since until (a ∷ xs) h at zero l e =
    let Q : ℕ → Type 0 = λ n. (since ≤ n) × (n ≤ until) × P n in
    subst Q e (h.0.not_before, h.0.not_after, h.0.due)
sound_at P since until (a ∷ xs) h at (suc k) l e =
    let rest = sound_at P (a + 1) until xs h.1 at k (omega (arith, l)) e in
    (omega (arith, h.0.not_before, rest.0), rest.1, rest.2)

pub sound : (P : ℕ → Type 0) (since until : ℕ) (xs : List ℕ) → AreAll P since until xs
    → (at : ℕ) → Contains xs at → (since ≤ at) × (at ≤ until) × P at
sound P since until xs h at c = sound_at P since until xs h at c.0 c.1 c.2

pub complete : (P : ℕ → Type 0) (since until : ℕ) (xs : List ℕ) → AreAll P since until xs
    → (at : ℕ) → since ≤ at → at ≤ until → P at → Contains xs at
complete P since until [] h at ge le p = absurd (h at ge le p)
complete P since until (a ∷ xs) h at ge le p =
    elim (cases_order at a) [
      | inl same ↦ (0, omega arith, sym same)
      | inr apart ↦ elim apart [
        | inl below ↦ absurd (h.0.none_before at ge below p)
        | inr above ↦ (let rest = complete P (a + 1) until xs h.1 at (omega (arith, above)) le p in (suc rest.0, omega (arith, rest.1), rest.2))
      ]
    ]

abbrev after : ℕ → List ℕ → List ℕ
after noted xs = filter (λ d. nat_lt noted d) xs

-- one moment more, which is after the noted one or isn't
filtered_step : (P : ℕ → Type 0) (since until noted d : ℕ) (xs : List ℕ) → IsFirst P since until d
    → AreAll P (max (d + 1) (noted + 1)) until (after noted xs)
    → (b : Bool) → nat_lt noted d ≡ b → AreAll P (max since (noted + 1)) until (if b then d ∷ after noted xs else after noted xs)
filtered_step P since until noted d xs first rest true e =
    let lt : noted < d = grind (arith, nat_tests) in
    let Q : ℕ → Type 0 = λ n. AreAll P n until (after noted xs) in
    let begin : max (d + 1) (noted + 1) ≡ d + 1 = omega (arith, lt) in (
      record {
        due = first.due;
        not_before = omega (arith, lt, first.not_before);
        not_after = first.not_after;
        none_before = λ at ge below p. first.none_before at (omega (arith, ge)) below p;
      },
      subst Q begin rest,
    )
filtered_step P since until noted d xs first rest false e =
    let le : d ≤ noted = grind (arith, nat_tests) in
    let Q : ℕ → Type 0 = λ n. AreAll P n until (after noted xs) in
    let begin : max (d + 1) (noted + 1) ≡ max since (noted + 1) = omega (arith, le, first.not_before) in
    subst Q begin rest

pub filtered : (P : ℕ → Type 0) (since until noted : ℕ) (xs : List ℕ) → AreAll P since until xs
    → AreAll P (max since (noted + 1)) until (after noted xs)
filtered P since until noted [] h = λ at ge le p. h at (omega (arith, ge)) le p
filtered P since until noted (d ∷ xs) h =
    filtered_step P since until noted d xs h.0 (filtered P (d + 1) until noted xs h.1) (nat_lt noted d) refl

pub pending_is_filtered : (P : ℕ → Type 0) (since until noted : ℕ) (all pending : List ℕ) → AreAll P since until all
    → AreAll P (max since (noted + 1)) until pending → pending ≡ after noted all
pending_is_filtered P since until noted all pending a p =
    all_are_one P (max since (noted + 1)) until pending (after noted all) p (filtered P since until noted all a)

earliest_is_late : (noted : Option ℕ) (at : ℕ) → at - 604800000 ≤ earliest noted at
earliest_is_late None at = omega arith
earliest_is_late (Some n) at = omega arith

pub rest_is_pending : (s : Schedule) (noted : Option ℕ) (at first : ℕ) (rest : List ℕ) → ArePending s noted at (first ∷ rest) → ArePending s (Some first) at rest
rest_is_pending s noted at first rest h =
    let Q : ℕ → Type 0 = λ n. AreAll (IsDue s) n at rest in
    let begin : first + 1 ≡ earliest (Some first) at = omega (arith, earliest_is_late noted at, h.0.not_before) in
    subst Q begin h.1

-- how many moments may still come
abbrev pub left_of : ℕ → Option ℕ → ℕ
left_of until None = 0
left_of until (Some moment) = until + 1 - moment
