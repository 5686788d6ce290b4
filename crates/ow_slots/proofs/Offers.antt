-- What the tests that callers make decide.
use Rattle.std.proofs.Common.{◌≡◌, ◌↔◌, Bool, true, false, List, Option, Some, None, refl, arith, IsTrue, ◌∙◌, sym, ap, get_or, ℕ, ◌<◌, subst}
use Rattle.std.specs.Prelude.{is_some, nat_lt, not}
use Rattle.std.proofs.lemmas.Bool.Decides.{nat_tests}
use Rattle.std.proofs.lemmas.Bool.{and_parts, and_from}
use Rattle.ow_slots.specs.declared.states.TheConstants.{GREATEST_GENERATION}
use Rattle.ow_slots.specs.declared.states.Slot.{Slot}
use Rattle.ow_slots.specs.Slots.{IsPlace, IsThere, first_with, has}
use Rattle.ow_slots.specs.State.{IsUnrecorded, IsVacant, can_open, is_vacant, recorded_of, runs}

lt_told : (a b : ℕ) → (nat_lt a b ≡ true) ↔ (a < b)
lt_told a b = (λ e. grind (arith, nat_tests), λ lt. grind (arith, nat_tests))

-- whether a new container can be opened
pub open_told : (s : Slot) (r : Bool) → r ≡ can_open s → IsTrue r ↔ IsVacant s
open_told s r e =
    let lt = lt_told s.generation GREATEST_GENERATION in (
      λ t. let h = and_parts (is_vacant s.state) (nat_lt s.generation GREATEST_GENERATION) (sym e ∙ t) in (h.0, lt.0 h.1),
      λ v. e ∙ and_from (is_vacant s.state) (nat_lt s.generation GREATEST_GENERATION) v.0 (lt.1 v.1),
    )

none_told : (o : Option ℕ) (r : Bool) → is_some o ≡ not r → IsTrue r ↔ (o ≡ None)
none_told None true e = (λ t. refl, λ f. refl)
none_told None false e = (λ t. refl, λ f. cc)
none_told (Some n) true e = (λ t. cc, λ f. cc)
none_told (Some n) false e = (λ t. cc, λ f. cc)

-- whether the run of the first slot that is busy with it is recorded
pub unrecorded_told : (run : ℕ) (xs now read : List Slot) (k : ℕ) (x : Slot) (r : Bool) → read ≡ now → xs ≡ now → IsPlace (has (runs run)) read k → x ≡ get_or xs k x
    → is_some (recorded_of x.state) ≡ not r → IsTrue r ↔ IsThere IsUnrecorded (first_with (runs run) now)
unrecorded_told run xs now read k x r er ex place rx is =
    let there = subst (λ (zs : List Slot). IsPlace (has (runs run)) zs k) er place in
    let same : x ≡ there.item = rx ∙ ap (λ (zs : List Slot). get_or zs k x) ex ∙ there.here x in
    rw (there.found, ← same) (none_told (recorded_of x.state) r is)
