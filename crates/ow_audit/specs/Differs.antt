-- How receipts match a book, and where they differ.
use Rattle.std.specs.Prelude.{◌≡◌, ◌≢◌, ◌<◌, ◌≤◌, ℕ, true, false, List, Option, Some, None, length, reverse, slice_get}
use Rattle.std.specs.List.{All, Contains, find}
use Rattle.std.specs.Option.{option_to_list, unwrap_or}
use Rattle.ow_hall.specs.declared.entry.Entry.{Entry}
use Rattle.ow_hall.specs.History.{History}
use Rattle.ow_hall.specs.Ledger.{Ledger}
use Rattle.ow_desk.specs.declared.placed.Placed.{Placed}
use Rattle.ow_desk.specs.Notes.{Notes}
use Rattle.ow_audit.specs.declared.sides.Difference.{Difference}
use Rattle.ow_audit.specs.declared.sides.Side.{Side}
use Rattle.ow_audit.specs.declared.sides.Side.TheVariants as sides
use Rattle.ow_audit.specs.Places.{IsRight, Rises, first_fall_of, placed, standing_at, times}
use Rattle.ow_audit.specs.Numbers.{NumbersMatch, WrongNumber, capped}
use Rattle.ow_audit.specs.Drains.{ends_drained, is_asked, is_drain, last_place}

-- receipts match a book: at each place they have the book's entry, once; in each receipts the places rise; the numbers are the book's;
-- and the book ends drained
pub record Matches (all : List Notes) (L : Ledger) : Type 0 where
  pub entries : (k : ℕ) → standing_at k (placed all) ≡ option_to_list (slice_get (reverse L.entries) k)
  pub rise : All (λ n. Rises n.entries) all
  pub numbers : NumbersMatch all L
  pub drained : ends_drained L.entries ≡ true

-- ---- one kind of difference each

-- an entry, where there is one
abbrev pub side_of : Option Entry → Side
side_of None = sides.Nothing
side_of (Some e) = sides.One e

-- what the receipts have at a place that isn't right: an entry that isn't the book's, or nothing where no entry has that place
abbrev pub HeldWrongly : List Entry → List Placed → ℕ → Side → Type 0
HeldWrongly book ps k (sides.One e) = Contains (standing_at k ps) e × (slice_get book k ≢ Some e)
HeldWrongly book ps k (sides.Count n) = ⊥
HeldWrongly book ps k sides.Nothing = (k < length book) × (times k ps ≡ 0)

-- the first place that isn't right
pub record WrongEntry (book : List Entry) (ps : List Placed) (d : Difference) : Type 0 where
  pub before : (k : ℕ) → k < d.place → IsRight book ps k
  pub held : HeldWrongly book ps d.place d.held
  pub kept : d.kept ≡ side_of (slice_get book d.place)

-- of two numbers at a place
pub record Counts (at m n : ℕ) (d : Difference) : Type 0 where
  pub place : d.place ≡ at
  pub held : d.held ≡ sides.Count m
  pub kept : d.kept ≡ sides.Count n

-- after the last request no drain answered that all is drained. The difference has the last drain, and that request
pub record Undrained (B : History) (d : Difference) : Type 0 where
  pub undrained : ends_drained B ≡ false
  pub place : d.place ≡ unwrap_or (last_place is_asked B) (length B)
  pub held : d.held ≡ side_of (find is_drain B)
  pub kept : d.kept ≡ side_of (find is_asked B)

-- the first place that occurs more than once, and how many times
pub record Twice (ps : List Placed) (d : Difference) : Type 0 where
  pub before : (k : ℕ) → k < d.place → times k ps ≤ 1
  pub twice : 1 < times d.place ps
  pub counts : Counts d.place (capped (times d.place ps)) 1 d

-- ---- the first that applies

-- each place is right
abbrev pub AreRight : List Notes → Ledger → Type 0
AreRight all L = (k : ℕ) → IsRight (reverse L.entries) (placed all) k

-- no place occurs more than once
abbrev pub AreOnce : List Notes → Type 0
AreOnce all = (k : ℕ) → times k (placed all) ≤ 1

-- the first of these in which receipts and a book differ: an entry at a place; a number; the drain; a place that occurs more than
-- once; places that don't rise in one receipts
pub data Differs (all : List Notes) (L : Ledger) (d : Difference) : Type 0 where
  entry : WrongEntry (reverse L.entries) (placed all) d → Differs all L d
  number : (held kept : ℕ) → AreRight all L → WrongNumber all L held kept → Counts (length L.entries) held kept d → Differs all L d
  drain : AreRight all L → NumbersMatch all L → Undrained L.entries d → Differs all L d
  twice : AreRight all L → NumbersMatch all L → ends_drained L.entries ≡ true → Twice (placed all) d → Differs all L d
  fall : (earlier later : ℕ) → AreRight all L → NumbersMatch all L → ends_drained L.entries ≡ true → AreOnce all
      → first_fall_of all ≡ Some (earlier, later) → Counts later earlier later d → Differs all L d

-- ---- the two sides

-- none of the entries is a request or a drain
abbrev pub HasNeither : List Placed → Type 0
HasNeither ps = All (λ p. (is_asked p.entry ≡ false) × (is_drain p.entry ≡ false)) ps

-- they are the same only where the receipts have no request and no drain at all
abbrev pub SidesDiffer : List Notes → Difference → Type 0
SidesDiffer all d = d.held ≡ d.kept → HasNeither (placed all)
