-- Which entries are at a place, and how often a place occurs.
use Rattle.std.proofs.Common.{◌≡◌, ℕ, zero, suc, ◌+◌, ◌<◌, ◌≤◌, Bool, true, false, cond, eqb, ltb, leb, List, [], ◌∷◌, ◌++◌, Option, Some, None, length, get_or, map, arith, refl, sym, take, ap, ◌∙◌, subst}
use Rattle.std.specs.List.{All, Contains, filter}
use Rattle.std.specs.Option.{option_to_list}
use Rattle.std.specs.Prelude.{slice_get, slice_index}
use Rattle.std.proofs.lemmas.Bool.{eqb-true, eqb-false, leb-true, leb-false, ltb-true}
use Rattle.std.proofs.lemmas.Grind.{flat_map-append}
use Rattle.std.proofs.lemmas.List.{append-nil, length-map, map_more, take_more}
use Rattle.std.proofs.lemmas.List.Elements.{All-append, All-cons, All-head, All-nil, All-tail, All-weaker, Contains-append_left, Contains-append_right}
use Rattle.std.proofs.lemmas.List.Sums.{length-filter}
use Rattle.std.proofs.lemmas.Option.{slice_get_past, slice_get_within}
use Rattle.ow_hall.specs.declared.entry.Entry.{Entry}
use Rattle.ow_desk.specs.declared.placed.Placed.{Placed}
use Rattle.ow_desk.specs.Notes.{Notes, ReceiptsView}
use Rattle.ow_audit.specs.Places.{AreTimes, IsBooked, IsRight, IsSoonest, Rises, fall_behind, first_fall, first_fall_of, notes_of, placed, sooner, standing_at, times}
use Rattle.ow_audit.proofs.FirstLaws.{none_first}

-- ---- the entry that isn't the book's, at the least place

soonest_of_two : (book : List Entry) (xs ys : List Placed) (p q : Placed) (t : Bool) → leb p.place q.place ≡ t → IsSoonest book xs (Some p) → IsSoonest book ys (Some q)
    → IsSoonest book (xs ++ ys) (cond t (Some p) (Some q))
soonest_of_two book xs ys p q true e h j = let le = leb-true p.place q.place e in (
  Contains-append_left xs ys p h.0,
  h.1,
  All-append (λ r. r.place < p.place → IsBooked book r) xs ys h.2 (All-weaker (λ r. r.place < q.place → IsBooked book r) (λ r. r.place < p.place → IsBooked book r) (λ r f lt. f (omega arith)) ys j.2),
)
soonest_of_two book xs ys p q false e h j = let lt = leb-false p.place q.place e in (
  Contains-append_right xs ys q j.0,
  j.1,
  All-append (λ r. r.place < q.place → IsBooked book r) xs ys (All-weaker (λ r. r.place < p.place → IsBooked book r) (λ r. r.place < q.place → IsBooked book r) (λ r f less. f (omega arith)) xs h.2) j.2,
)

pub soonest_append : (book : List Entry) (xs ys : List Placed) (p q : Option Placed) → IsSoonest book xs p → IsSoonest book ys q → IsSoonest book (xs ++ ys) (sooner p q)
soonest_append book xs ys None None h j = All-append (IsBooked book) xs ys h j
soonest_append book xs ys None (Some q) h j = (
  Contains-append_right xs ys q j.0,
  j.1,
  All-append (λ r. r.place < q.place → IsBooked book r) xs ys (All-weaker (IsBooked book) (λ r. r.place < q.place → IsBooked book r) (λ r b lt. b) xs h) j.2,
)
soonest_append book xs ys (Some p) None h j = (
  Contains-append_left xs ys p h.0,
  h.1,
  All-append (λ r. r.place < p.place → IsBooked book r) xs ys h.2 (All-weaker (IsBooked book) (λ r. r.place < p.place → IsBooked book r) (λ r b lt. b) ys j),
)
soonest_append book xs ys (Some p) (Some q) h j = soonest_of_two book xs ys p q (leb p.place q.place) refl h j

pub soonest_more : (book : List Entry) (ps : List Placed) (i : ℕ) (x : Placed) (p q o : Option Placed) → i < length ps → x ≡ get_or ps i x → IsSoonest book (take i ps) p → IsSoonest book (x ∷ []) q → o ≡ sooner p q
    → IsSoonest book (take (i + 1) ps) o
soonest_more book ps i x p q o lt item before one is =
    let more : take (i + 1) ps ≡ take i ps ++ x ∷ [] = take_more ps i x lt ∙ ap (λ y. take i ps ++ y ∷ []) (sym item) in
    subst (λ (r : Option Placed). IsSoonest book (take (i + 1) ps) r) (sym is)
    (subst (λ (xs : List Placed). IsSoonest book xs (sooner p q)) (sym more) (soonest_append book (take i ps) (x ∷ []) p q before one))

-- the entries of one receipts more
pub placed_more : (rs : List ReceiptsView) (i : ℕ) (r : ReceiptsView) → i < length rs → r ≡ get_or rs i r → placed (notes_of (take (i + 1) rs)) ≡ placed (notes_of (take i rs)) ++ r.notes.entries
placed_more rs i r lt item =
    ap placed (map_more (λ q. q.notes) rs i r lt)
    ∙ (flat_map-append (λ n. n.entries) (notes_of (take i rs)) ((get_or rs i r).notes ∷ [])
    ∙ (ap (λ (xs : List Placed). placed (notes_of (take i rs)) ++ xs) (append-nil (get_or rs i r).notes.entries)
    ∙ ap (λ (q : ReceiptsView). placed (notes_of (take i rs)) ++ q.notes.entries) (sym item)))

pub soonest_of_more : (book : List Entry) (rs : List ReceiptsView) (i : ℕ) (r : ReceiptsView) (ps : List Placed) (p q o : Option Placed) → i < length rs → r ≡ get_or rs i r → ps ≡ r.notes.entries
    → IsSoonest book (placed (notes_of (take i rs))) p → IsSoonest book ps q → o ≡ sooner p q → IsSoonest book (placed (notes_of (take (i + 1) rs))) o
soonest_of_more book rs i r ps p q o lt item held before one is =
    let more : placed (notes_of (take (i + 1) rs)) ≡ placed (notes_of (take i rs)) ++ ps = placed_more rs i r lt item ∙ ap (λ (xs : List Placed). placed (notes_of (take i rs)) ++ xs) (sym held) in
    subst (λ (r : Option Placed). IsSoonest book (placed (notes_of (take (i + 1) rs))) r) (sym is)
    (subst (λ (xs : List Placed). IsSoonest book xs (sooner p q)) (sym more) (soonest_append book (placed (notes_of (take i rs))) ps p q before one))

-- ---- the entries at a place

same_by : (book : List Entry) (k : ℕ) (p : Placed) (ps : List Placed) (t : Bool) → eqb p.place k ≡ t → (p.place ≡ k → IsBooked book p) → All (λ e. slice_get book k ≡ Some e) (standing_at k ps)
    → All (λ e. slice_get book k ≡ Some e) (map (λ q. q.entry) (cond t (p ∷ filter (λ q. eqb q.place k) ps) (filter (λ q. eqb q.place k) ps)))
same_by book k p ps true e booked rest = let same = eqb-true p.place k e in
    All-cons (λ e. slice_get book k ≡ Some e) p.entry (standing_at k ps) (subst (λ (n : ℕ). slice_get book n ≡ Some p.entry) same (booked same)) rest
same_by book k p ps false e booked rest = rest

same_at : (book : List Entry) (k : ℕ) (ps : List Placed) → All (λ p. p.place ≡ k → IsBooked book p) ps → All (λ e. slice_get book k ≡ Some e) (standing_at k ps)
same_at book k [] all = All-nil (λ e. slice_get book k ≡ Some e)
same_at book k (p ∷ ps) all = same_by book k p ps (eqb p.place k) refl (All-head (λ q. q.place ≡ k → IsBooked book q) p ps all) (same_at book k ps (All-tail (λ q. q.place ≡ k → IsBooked book q) p ps all))

contains_cons : {X : Type 0} (x : X) (xs : List X) (y : X) → Contains xs y → Contains (x ∷ xs) y
contains_cons x xs y h = Contains-append_right (x ∷ []) xs y h

contains_by : (k : ℕ) (p w : Placed) (ps : List Placed) (t : Bool) → Contains (standing_at k ps) w.entry
    → Contains (map (λ q. q.entry) (cond t (p ∷ filter (λ q. eqb q.place k) ps) (filter (λ q. eqb q.place k) ps))) w.entry
contains_by k p w ps true h = contains_cons p.entry (standing_at k ps) w.entry h
contains_by k p w ps false h = h

contains_first : (p w : Placed) (ps : List Placed) (t : Bool) → eqb p.place w.place ≡ t → p ≡ w
    → Contains (map (λ q. q.entry) (cond t (p ∷ filter (λ q. eqb q.place w.place) ps) (filter (λ q. eqb q.place w.place) ps))) w.entry
contains_first p w ps true e same = (0, omega arith, ap (λ (q : Placed). q.entry) same)
contains_first p w ps false e same = absurd (eqb-false p.place w.place e (ap (λ (q : Placed). q.place) same))

stands_by_index : (ps : List Placed) (w : Placed) (i : ℕ) → i < length ps → get_or ps i w ≡ w → Contains (standing_at w.place ps) w.entry
stands_by_index [] w i lt e = absurd (omega arith)
stands_by_index (p ∷ ps) w zero lt e = contains_first p w ps (eqb p.place w.place) refl e
stands_by_index (p ∷ ps) w (suc i) lt e = contains_by w.place p w ps (eqb p.place w.place) (stands_by_index ps w i (omega arith) e)

-- an entry of receipts is among the entries at its place
pub stands : (ps : List Placed) (w : Placed) → Contains ps w → Contains (standing_at w.place ps) w.entry
stands ps w h = stands_by_index ps w h.0 h.1 h.2

pub times_standing : (k : ℕ) (ps : List Placed) → length (standing_at k ps) ≡ times k ps
times_standing k ps = length-map (filter (λ p. eqb p.place k) ps) (λ p. p.entry) ∙ length-filter (λ p. eqb p.place k) ps

-- ---- places that are right

-- where none of a lesser place is wrong, a lesser place that is there is right
pub right_before : (book : List Entry) (ps : List Placed) (n k : ℕ) → k < n → All (λ p. p.place < n → IsBooked book p) ps → (k < length book → 0 < times k ps) → IsRight book ps k
right_before book ps n k lt booked there = record {
  same = same_at book k ps (All-weaker (λ p. p.place < n → IsBooked book p) (λ p. p.place ≡ k → IsBooked book p) (λ p f e. f (omega arith)) ps booked);
  stands = there;
}

pub right_all : (book : List Entry) (ps : List Placed) (k : ℕ) → All (IsBooked book) ps → (k < length book → 0 < times k ps) → IsRight book ps k
right_all book ps k booked there = record {
  same = same_at book k ps (All-weaker (IsBooked book) (λ p. p.place ≡ k → IsBooked book p) (λ p b e. b) ps booked);
  stands = there;
}

-- a right place that occurs at most once has what the book has there
once_by : (book : List Entry) (k : ℕ) (es : List Entry) (o : Option Entry) → slice_get book k ≡ o → All (λ e. slice_get book k ≡ Some e) es → (k < length book → 0 < length es) → length es ≤ 1 → es ≡ option_to_list o
once_by book k [] None is all there few = refl
once_by book k [] (Some e) is all there few = let lt = slice_get_within book k e is in let more = there lt in absurd (omega arith)
once_by book k (e ∷ []) o is all there few = let same : o ≡ Some e = sym is ∙ All-head (λ x. slice_get book k ≡ Some x) e [] all in ap option_to_list (sym same)
once_by book k (e ∷ f ∷ es) o is all there few = absurd (omega arith)

pub once_right : (book : List Entry) (ps : List Placed) (k : ℕ) → IsRight book ps k → times k ps ≤ 1 → standing_at k ps ≡ option_to_list (slice_get book k)
once_right book ps k right few = once_by book k (standing_at k ps) (slice_get book k) refl right.same (λ lt. let there = right.stands lt in omega (arith, times_standing k ps)) (omega (arith, times_standing k ps))

-- beyond the end of the book no entry is right
none_past : (book : List Entry) (k : ℕ) (es : List Entry) → length book ≤ k → All (λ e. slice_get book k ≡ Some e) es → length es ≡ 0
none_past book k [] le all = refl
none_past book k (e ∷ es) le all = let past = slice_get_past book k le in let is = All-head (λ x. slice_get book k ≡ Some x) e es all in cc

pub once_past : (book : List Entry) (ps : List Placed) (k : ℕ) → IsRight book ps k → length book ≤ k → times k ps ≤ 1
once_past book ps k right le = omega (arith, times_standing k ps, none_past book k (standing_at k ps) le right.same)

-- ---- counts

pub counted_there : (n : ℕ) (ps : List Placed) (counts : List ℕ) (k : ℕ) → AreTimes n ps counts → 0 < slice_index counts k → k < n → 0 < times k ps
counted_there n ps counts k are more lt = omega (arith, are.counted k lt)

pub counted_none : (n : ℕ) (ps : List Placed) (counts : List ℕ) (k : ℕ) → AreTimes n ps counts → slice_index counts k ≡ 0 → k < n → times k ps ≡ 0
counted_none n ps counts k are none lt = omega (arith, are.counted k lt)

pub counted_once : (n : ℕ) (ps : List Placed) (counts : List ℕ) (k : ℕ) → AreTimes n ps counts → slice_index counts k ≤ 1 → k < n → times k ps ≤ 1
counted_once n ps counts k are few lt = omega (arith, are.counted k lt)

-- ---- places that rise

rises_cons : (p : Placed) (ps : List Placed) → All (λ q. p.place < q.place) ps → Rises ps → Rises (p ∷ ps)
rises_cons p ps more rises zero zero d lt within = absurd (omega arith)
rises_cons p ps more rises zero (suc j) d lt within = more j d (omega arith)
rises_cons p ps more rises (suc i) zero d lt within = absurd (omega arith)
rises_cons p ps more rises (suc i) (suc j) d lt within = rises i j d (omega arith) (omega arith)

behind_by : (k : ℕ) (p : Placed) (ps : List Placed) (t : Bool) → ltb k p.place ≡ t → cond t (fall_behind (Some p.place) ps) (Some (k, p.place)) ≡ None
    → (fall_behind (Some p.place) ps ≡ None → All (λ q. p.place < q.place) ps × Rises ps) → All (λ q. k < q.place) (p ∷ ps) × Rises (p ∷ ps)
behind_by k p ps true e none rest = let lt = ltb-true k p.place e in let r = rest none in (
  All-cons (λ q. k < q.place) p ps lt (All-weaker (λ q. p.place < q.place) (λ q. k < q.place) (λ q less. omega arith) ps r.0),
  rises_cons p ps r.0 r.1,
)
behind_by k p ps false e none rest = cc none

behind_rises : (k : ℕ) (ps : List Placed) → fall_behind (Some k) ps ≡ None → All (λ q. k < q.place) ps × Rises ps
behind_rises k [] none = (All-nil (λ q. k < q.place), λ i j d lt within. absurd (omega arith))
behind_rises k (p ∷ ps) none = behind_by k p ps (ltb k p.place) refl none (behind_rises p.place ps)

no_fall_rises : (ps : List Placed) → first_fall ps ≡ None → Rises ps
no_fall_rises [] none = λ i j d lt within. absurd (omega arith)
no_fall_rises (p ∷ ps) none = let r = behind_rises p.place ps none in rises_cons p ps r.0 r.1

pub no_fall_rise : (all : List Notes) → first_fall_of all ≡ None → All (λ n. Rises n.entries) all
no_fall_rise all none =
    All-weaker (λ n. first_fall n.entries ≡ None) (λ n. Rises n.entries) (λ n e. no_fall_rises n.entries e) all (none_first (λ n. first_fall n.entries) all none)
