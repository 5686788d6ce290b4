-- The numbers of live runs.
use Rattle.std.proofs.Common.{◌≡◌, ◌==◌, ◌≤◌, ◌+◌, ℕ, Bool, true, false, List, [], ◌∷◌, Some, refl, sym, arith, rules, subst}
use Rattle.std.specs.List.{find, AllByRecursion}
use Rattle.std.proofs.lemmas.Bool.Decides.{nat_tests}
use Rattle.ow_floor.specs.declared.runs.Run.{Run}
use Rattle.ow_floor.specs.View.{is_number}
use Rattle.ow_floor.specs.Laws.{tally}
use Rattle.ow_floor.proofs.Firsts.{all_more, find_passes, tally_some}

-- what is found by a number has it
pub number_is : (run : ℕ) (r : Run) (rs : List Run) → find (is_number run) rs ≡ Some r → r.number ≡ run
number_is run r rs found = let h = find_passes (is_number run) r rs found in grind (arith, nat_tests)

pub found_by_own : (run : ℕ) (r : Run) (rs : List Run) → find (is_number run) rs ≡ Some r → find (is_number r.number) rs ≡ Some r
found_by_own run r rs found = subst (λ n. find (is_number n) rs ≡ Some r) (sym (number_is run r rs found)) found

first_found : (r : Run) (rs : List Run) → find (is_number r.number) (r ∷ rs) ≡ Some r
first_found r rs = let e : (r.number == r.number) ≡ true = search (rules, nat_tests) in rw e refl

behind : (x r : Run) (rs : List Run) (b : Bool) → is_number r.number x ≡ b → tally (is_number r.number) (x ∷ rs) ≤ 1 → find (is_number r.number) rs ≡ Some r
    → find (is_number r.number) (x ∷ rs) ≡ Some r
behind x r rs true e one found =
    let h : 1 + tally (is_number r.number) rs ≤ 1 = rw e at one in
    let some = tally_some (is_number r.number) r rs found in
    absurd (omega (arith, h, some))
behind x r rs false e one found = rw e found

fewer : (x : Run) (rs : List Run) (run : ℕ) → tally (is_number run) (x ∷ rs) ≤ 1 → tally (is_number run) rs ≤ 1
fewer x rs run one = omega (arith, one)

-- where no two have one number, each is found by its own
pub each_found : (rs : List Run) → ((run : ℕ) → tally (is_number run) rs ≤ 1) → AllByRecursion (λ r. find (is_number r.number) rs ≡ Some r) rs
each_found [] single = tt
each_found (x ∷ rs) single = (
  first_found x rs,
  all_more _ _ rs (λ r found. behind x r rs (is_number r.number x) refl (single r.number) found) (each_found rs (λ run. fewer x rs run (single run))),
)
