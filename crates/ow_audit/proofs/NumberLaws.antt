-- Requests that found the book full.
use Rattle.std.proofs.Common.{◌≡◌, ℕ, ◌<◌, ◌≤◌, cond, ltb, List, Some, None, arith, sym, subst, ◌∙◌, ◌≢◌}
use Rattle.std.specs.List.{All}
use Rattle.std.proofs.lemmas.Bool.Decides.{nat_tests}
use Rattle.std.proofs.lemmas.List.Elements.{All-weaker}
use Rattle.std.proofs.lemmas.Bool.{ltb-true}
use Rattle.std.proofs.lemmas.Option.{cond_some}
use Rattle.ow_hall.specs.Ledger.{Ledger}
use Rattle.ow_desk.specs.declared.marks.Mark.{Mark}
use Rattle.ow_desk.specs.declared.marks.Mark.TheVariants as marks
use Rattle.ow_desk.specs.Notes.{Notes}
use Rattle.ow_audit.specs.Numbers.{IsWithin, NumbersMatch, WrongNumber, above, denied_differs, first_above, first_above_of, full_above, quiet_differs, stored_differs}
use Rattle.ow_audit.proofs.FirstLaws.{none_first, some_first}

not_above : (n c : ℕ) → cond (ltb n c) (Some c) None ≡ None → c ≤ n
not_above n c e = grind (arith, nat_tests)

within : (n : ℕ) (m : Mark) → above n m ≡ None → IsWithin n m
within n (marks.Full c s) e = not_above n c e
within n marks.Stored e = tt
within n (marks.Denied d) e = tt

none_above : (n : ℕ) (all : List Notes) → first_above_of n all ≡ None → All (λ r. All (IsWithin n) r.marks) all
none_above n all e =
    All-weaker (λ r. first_above n r.marks ≡ None) (λ r. All (IsWithin n) r.marks)
    (λ r none. All-weaker (λ m. above n m ≡ None) (IsWithin n) (within n) r.marks (none_first (above n) r.marks none))
    all (none_first (λ r. first_above n r.marks) all e)

-- where the book counts so much
pub none_above_at : (m n : ℕ) (all : List Notes) → m ≡ n → None ≡ first_above_of m all → All (λ r. All (IsWithin n) r.marks) all
none_above_at m n all same none = subst (λ (k : ℕ). All (λ r. All (IsWithin k) r.marks) all) same (none_above m all (sym none))

-- ---- a request that found more in the book than there is

more_above : (n c k : ℕ) → cond (ltb n c) (Some c) None ≡ Some k → (n < k) × (c ≤ n → ⊥)
more_above n c k e = let some = cond_some (ltb n c) c k e in let lt = ltb-true n c some.0 in let same = some.1 in (omega arith, λ le. omega arith)

beyond : (n : ℕ) (m : Mark) (k : ℕ) → above n m ≡ Some k → (n < k) × (IsWithin n m → ⊥)
beyond n (marks.Full c s) k e = more_above n c k e
beyond n marks.Stored k e = cc e
beyond n (marks.Denied d) k e = cc e

pub above_beyond : (n : ℕ) (all : List Notes) (k : ℕ) → first_above_of n all ≡ Some k → All (λ r. All (IsWithin n) r.marks) all → ⊥
above_beyond n all k e within =
    some_first (λ r. first_above n r.marks) (λ r. All (IsWithin n) r.marks) k (λ r. some_first (above n) (IsWithin n) k (λ m h. (beyond n m k h).1) r.marks) all e within

pub above_more : (n : ℕ) (all : List Notes) (k : ℕ) → first_above_of n all ≡ Some k → k ≤ n → ⊥
above_more n all k e le =
    some_first (λ r. first_above n r.marks) (λ r. Unit {0}) k
    (λ r h u. some_first (above n) (λ m. Unit {0}) k (λ m one v. let lt = (beyond n m k one).0 in omega arith) r.marks h (λ i d w. tt)) all e (λ i d w. tt)

-- numbers of which one isn't the book's
pub wrong_apart : (all : List Notes) (L : Ledger) (held kept : ℕ) → WrongNumber all L held kept → held ≢ kept
wrong_apart all L held kept (stored_differs h k apart) = apart
wrong_apart all L held kept (quiet_differs s h k apart) = apart
wrong_apart all L held kept (denied_differs s q h k apart) = apart
wrong_apart all L held kept (full_above s q d first is) = λ same. above_more kept all held first (omega arith)

pub wrong_unmatched : (all : List Notes) (L : Ledger) (held kept : ℕ) → WrongNumber all L held kept → NumbersMatch all L → ⊥
wrong_unmatched all L held kept (stored_differs h k apart) m = apart (h ∙ (m.stored ∙ sym k))
wrong_unmatched all L held kept (quiet_differs s h k apart) m = apart (h ∙ (m.quiet ∙ sym k))
wrong_unmatched all L held kept (denied_differs s q h k apart) m = apart (h ∙ (m.denied ∙ sym k))
wrong_unmatched all L held kept (full_above s q d first is) m =
    above_beyond kept all held first (subst (λ (n : ℕ). All (λ r. All (IsWithin n) r.marks) all) (sym is) m.full)
