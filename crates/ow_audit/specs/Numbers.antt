-- The numbers of receipts, and those of a book.
use Rattle.std.specs.Prelude.{◌≡◌, ◌≢◌, ◌-◌, ◌^◌, ◌≤◌, ℕ, Bool, true, false, List, Option, Some, None, cond, min, nat_lt}
use Rattle.std.specs.List.{All, count_by, sum_by}
use Rattle.ow_desk.specs.declared.marks.Mark.{Mark}
use Rattle.ow_desk.specs.declared.marks.Mark.TheVariants as marks
use Rattle.ow_desk.specs.Notes.{Notes}
use Rattle.ow_hall.specs.History.{counted}
use Rattle.ow_hall.specs.Ledger.{Ledger}
use Rattle.ow_audit.specs.First.{first_found}

-- a sum saturates at the greatest u64
abbrev pub capped : ℕ → ℕ
capped n = min n (2 ^ 64 - 1)

abbrev pub is_stored : Mark → Bool
is_stored marks.Stored = true
is_stored m = false

-- how many calls met a fault of the store, by all receipts
abbrev pub stored : List Notes → ℕ
stored all = capped (sum_by (λ n. count_by is_stored n.marks) all)

-- how many calls of `next` weren't booked
abbrev pub quiet : List Notes → ℕ
quiet all = capped (sum_by (λ n. n.quiet) all)

-- how many events of runners were refused
abbrev pub denied : List Notes → ℕ
denied all = capped (sum_by (λ n. n.denied) all)

-- ---- requests that found the book full

-- what the book counted then is at most what it counts
abbrev pub IsWithin : ℕ → Mark → Type 0
IsWithin n (marks.Full counted size) = counted ≤ n
IsWithin n m = Unit {0}

-- what the book counted then, where that is more than it counts
abbrev pub above : ℕ → Mark → Option ℕ
above n (marks.Full counted size) = cond (nat_lt n counted) (Some counted) None
above n m = None

-- the first of these
abbrev pub first_above : ℕ → List Mark → Option ℕ
first_above n ms = first_found (above n) ms

-- the first of all receipts
abbrev pub first_above_of : ℕ → List Notes → Option ℕ
first_above_of n all = first_found (λ r. first_above n r.marks) all

-- ---- all numbers

-- the tallies are the book's, and no request found more in the book than there is
pub record NumbersMatch (all : List Notes) (L : Ledger) : Type 0 where
  pub stored : stored all ≡ L.stored
  pub quiet : quiet all ≡ L.quiet
  pub denied : denied all ≡ L.denied
  pub full : All (λ n. All (IsWithin (counted L.entries)) n.marks) all

-- the first number that isn't the book's, of the receipts and of the book
pub data WrongNumber (all : List Notes) (L : Ledger) (held kept : ℕ) : Type 0 where
  stored_differs : held ≡ stored all → kept ≡ L.stored → held ≢ kept → WrongNumber all L held kept
  quiet_differs : stored all ≡ L.stored → held ≡ quiet all → kept ≡ L.quiet → held ≢ kept → WrongNumber all L held kept
  denied_differs : stored all ≡ L.stored → quiet all ≡ L.quiet → held ≡ denied all → kept ≡ L.denied → held ≢ kept → WrongNumber all L held kept
  full_above : stored all ≡ L.stored → quiet all ≡ L.quiet → denied all ≡ L.denied → first_above_of kept all ≡ Some held → kept ≡ counted L.entries → WrongNumber all L held kept
