-- The places of the entries of receipts.
use Rattle.std.specs.Prelude.{◌≡◌, ◌<◌, ◌==◌, ℕ, List, [], ◌∷◌, Option, Some, None, cond, length, map, nat_le, nat_lt, slice_get, slice_index}
use Rattle.std.specs.List.{All, AllPairs, Contains, count_by, filter, flat_map}
use Rattle.ow_hall.specs.declared.entry.Entry.{Entry}
use Rattle.ow_desk.specs.declared.placed.Placed.{Placed}
use Rattle.ow_desk.specs.Notes.{Notes, ReceiptsView}
use Rattle.ow_audit.specs.First.{first_found}
use Rattle.ow_audit.specs.Numbers.{capped}

-- ---- the entries at a place

-- what all receipts hold
abbrev pub notes_of : List ReceiptsView → List Notes
notes_of receipts = map (λ r. r.notes) receipts

-- the entries of all receipts, with their places
abbrev pub placed : List Notes → List Placed
placed all = flat_map (λ n. n.entries) all

-- the entries at a place
abbrev pub standing_at : ℕ → List Placed → List Entry
standing_at k ps = map (λ p. p.entry) (filter (λ p. p.place == k) ps)

-- how many of the entries are at a place
abbrev pub times : ℕ → List Placed → ℕ
times k ps = count_by (λ p. p.place == k) ps

-- the book, the oldest entry first, has this entry at its place, for private clauses
abbrev pub IsBooked : List Entry → Placed → Type 0
IsBooked book p = slice_get book p.place ≡ Some p.entry

-- each entry at this place is the book's, and there is one where the book has one
pub record IsRight (book : List Entry) (ps : List Placed) (k : ℕ) : Type 0 where
  pub same : All (λ e. slice_get book k ≡ Some e) (standing_at k ps)
  pub stands : k < length book → 0 < times k ps

-- for each place of the book how many entries are at it, for private clauses
pub record AreTimes (book : ℕ) (ps : List Placed) (counts : List ℕ) : Type 0 where
  pub len : length counts ≡ book
  pub counted : (k : ℕ) → k < book → slice_index counts k ≡ capped (times k ps)

-- ---- the least place with an entry that isn't the book's

-- of two entries the one at the lesser place, or the first where both are at one place, for private clauses
abbrev pub sooner : Option Placed → Option Placed → Option Placed
sooner None q = q
sooner (Some p) None = Some p
sooner (Some p) (Some q) = cond (nat_le p.place q.place) (Some p) (Some q)

-- an entry that isn't the book's, with none at a lesser place; none where each is the book's, for private clauses
abbrev pub IsSoonest : List Entry → List Placed → Option Placed → Type 0
IsSoonest book ps None = All (IsBooked book) ps
IsSoonest book ps (Some w) = Contains ps w × (IsBooked book w → ⊥) × All (λ p. p.place < w.place → IsBooked book p) ps

-- ---- places that rise

abbrev pub Rises : List Placed → Type 0
Rises ps = AllPairs (λ p q. p.place < q.place) ps

-- of the places after a last one, where there is one, the first that doesn't rise, with the one before it
abbrev pub fall_behind : Option ℕ → List Placed → Option (ℕ × ℕ)
fall_behind last [] = None
fall_behind None (p ∷ ps) = fall_behind (Some p.place) ps
fall_behind (Some k) (p ∷ ps) = cond (nat_lt k p.place) (fall_behind (Some p.place) ps) (Some (k, p.place))

-- the first two neighbouring places of which the later doesn't rise
abbrev pub first_fall : List Placed → Option (ℕ × ℕ)
first_fall ps = fall_behind None ps

-- the first of all receipts
abbrev pub first_fall_of : List Notes → Option (ℕ × ℕ)
first_fall_of all = first_found (λ n. first_fall n.entries) all
