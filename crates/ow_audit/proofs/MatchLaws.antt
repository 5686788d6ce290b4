-- Receipts that differ from a book don't match it, and the two sides of a difference differ.
use Rattle.std.proofs.Common.{◌≡◌, ◌≢◌, ℕ, zero, suc, ◌+◌, ◌-◌, ◌<◌, ◌≤◌, Bool, true, false, cond, eqb, ltb, List, [], ◌∷◌, Option, Some, None, length, get_or, reverse, arith, refl, sym, ap, ◌∙◌, subst, ◌↔◌}
use Rattle.std.specs.List.{All, Contains, find}
use Rattle.std.specs.Option.{option_to_list}
use Rattle.std.specs.Prelude.{IfSome, IsNone, MatchOption, slice_get}
use Rattle.std.proofs.lemmas.Bool.{eq-eqb, false≢true, ltb-false}
use Rattle.std.proofs.lemmas.List.{get_or-reverse, length-reverse}
use Rattle.std.proofs.lemmas.List.Elements.{All-cons, All-contains, All-nil, All-weaker, Contains-get_or}
use Rattle.std.proofs.lemmas.List.Sums.{sum_by-append, sum_by-cons}
use Rattle.std.proofs.lemmas.Option.{get_or_from_slice_get, slice_get_within, some_pair_parts}
use Rattle.ow_decide.specs.declared.events.Event.{Event}
use Rattle.ow_decide.specs.declared.events.Event.TheVariants as events
use Rattle.ow_hall.specs.declared.entry.Entry.{Entry}
use Rattle.ow_hall.specs.History.{History}
use Rattle.ow_hall.specs.Ledger.{Ledger}
use Rattle.ow_desk.specs.declared.placed.Placed.{Placed}
use Rattle.ow_desk.specs.Notes.{Notes}
use Rattle.ow_audit.specs.declared.sides.Difference.{Difference}
use Rattle.ow_audit.specs.declared.sides.Side.{Side}
use Rattle.ow_audit.specs.declared.sides.Side.TheVariants as sides
use Rattle.ow_audit.specs.Places.{IsBooked, Rises, fall_behind, first_fall, first_fall_of, placed, standing_at, times}
use Rattle.ow_audit.specs.Numbers.{capped}
use Rattle.ow_audit.specs.Drains.{asks, asks_drain, is_asked, is_drain}
use Rattle.ow_audit.specs.Differs.{AreRight, Differs, HasNeither, HeldWrongly, Matches, SidesDiffer, drain, entry, fall, number, side_of, twice}
use Rattle.ow_audit.proofs.FirstLaws.{some_first}
use Rattle.ow_audit.proofs.NumberLaws.{wrong_apart, wrong_unmatched}
use Rattle.ow_audit.proofs.PlaceLaws.{stands, times_standing}

-- ---- an entry at a place

there : {X : Type 0} (xs : List X) (k : ℕ) → k < length xs → slice_get xs k ≢ None
there [] k lt e = omega arith
there (x ∷ xs) zero lt e = cc e
there (x ∷ xs) (suc k) lt e = there xs k (omega arith) e

at_first : (e f : Entry) (i : ℕ) → i < 1 → get_or (f ∷ []) i e ≡ e → ◌≡◌ {A = Option Entry} (Some f) (Some e)
at_first e f zero lt same = ap Some same
at_first e f (suc i) lt same = absurd (omega arith)

one_of : (e : Entry) (o : Option Entry) → Contains (option_to_list o) e → o ≡ Some e
one_of e None c = let lt = c.1 in absurd (omega arith)
one_of e (Some f) c = at_first e f c.0 c.1 c.2

nothing_by : (book : List Entry) (k : ℕ) (o : Option Entry) → slice_get book k ≡ o → k < length book → length (option_to_list o) ≡ 0 → ⊥
nothing_by book k None is lt len = there book k lt is
nothing_by book k (Some e) is lt len = omega arith

one_side : (e : Entry) (o : Option Entry) → sides.One e ≡ side_of o → o ≡ Some e
one_side e None same = cc same
one_side e (Some f) same = cc same

no_side : (o : Option Entry) → sides.Nothing ≡ side_of o → o ≡ None
no_side None same = refl
no_side (Some f) same = cc same

at_most_one : (o : Option Entry) → length (option_to_list o) ≤ 1
at_most_one None = omega arith
at_most_one (Some e) = omega arith

twice_unmatched : (book : List Entry) (ps : List Placed) (k : ℕ) (o : Option Entry) → 1 < times k ps → standing_at k ps ≡ option_to_list o → ⊥
twice_unmatched book ps k o more is = let few = at_most_one o in omega (arith, more, few, times_standing k ps, ap length is)

held_unmatched : (book : List Entry) (ps : List Placed) (k : ℕ) (s : Side) → HeldWrongly book ps k s → standing_at k ps ≡ option_to_list (slice_get book k) → ⊥
held_unmatched book ps k (sides.One e) wrong is = wrong.1 (one_of e (slice_get book k) (subst (λ (es : List Entry). Contains es e) is wrong.0))
held_unmatched book ps k (sides.Count n) wrong is = wrong
held_unmatched book ps k sides.Nothing wrong is = nothing_by book k (slice_get book k) refl wrong.0 (ap length (sym is) ∙ (times_standing k ps ∙ wrong.1))

held_apart : (book : List Entry) (ps : List Placed) (k : ℕ) (s : Side) → HeldWrongly book ps k s → s ≢ side_of (slice_get book k)
held_apart book ps k (sides.One e) wrong same = wrong.1 (one_side e (slice_get book k) same)
held_apart book ps k (sides.Count n) wrong same = wrong
held_apart book ps k sides.Nothing wrong same = there book k wrong.0 (no_side (slice_get book k) same)

-- ---- the drain

exclusive : (ev : Event) → asks_drain ev ≡ true → asks ev ≡ true → ⊥
exclusive events.Drain d a = false≢true a
exclusive ev d a = false≢true d

passes_by : (test : Entry → Bool) (e f : Entry) (B : History) (t : Bool) → test e ≡ t → (find test B ≡ Some f → test f ≡ true) → cond t (Some e) (find test B) ≡ Some f → test f ≡ true
passes_by test e f B true is rest found = let same : e ≡ f = cc found in subst (λ (x : Entry). test x ≡ true) same is
passes_by test e f B false is rest found = rest found

passes : (test : Entry → Bool) (B : History) (f : Entry) → find test B ≡ Some f → test f ≡ true
passes test [] f found = cc found
passes test (e ∷ B) f found = passes_by test e f B (test e) refl (passes test B f) found

none_by : (test : Entry → Bool) (e : Entry) (B : History) (t : Bool) → test e ≡ t → (find test B ≡ None → All (λ x. test x ≡ false) B) → cond t (Some e) (find test B) ≡ None → All (λ x. test x ≡ false) (e ∷ B)
none_by test e B true is rest none = cc none
none_by test e B false is rest none = All-cons (λ x. test x ≡ false) e B is (rest none)

none_passes : (test : Entry → Bool) (B : History) → find test B ≡ None → All (λ x. test x ≡ false) B
none_passes test [] none = All-nil (λ x. test x ≡ false)
none_passes test (e ∷ B) none = none_by test e B (test e) refl (none_passes test B) none

-- where each place is right, no entry of receipts passes that none of the book passes
none_placed : (test : Entry → Bool) (B : History) (p : Placed) → find test B ≡ None → IsBooked (reverse B) p → test p.entry ≡ false
none_placed test B p none booked =
    let within = slice_get_within (reverse B) p.place p.entry booked in
    let same = get_or_from_slice_get (reverse B) p.place p.entry p.entry booked in
    let len = length-reverse B in
    let turned = get_or-reverse B p.place p.entry (omega (arith, within, len)) in
    let at : test (get_or B (length B - 1 - p.place) p.entry) ≡ false = none_passes test B none (length B - 1 - p.place) p.entry (omega (arith, within, len)) in
    subst (λ (x : Entry). test x ≡ false) (sym turned ∙ same) at

booked : (all : List Notes) (L : Ledger) (i : ℕ) (p : Placed) → AreRight all L → i < length (placed all) → IsBooked (reverse L.entries) (get_or (placed all) i p)
booked all L i p right lt =
    let q = get_or (placed all) i p in
    All-contains (λ e. slice_get (reverse L.entries) q.place ≡ Some e) (standing_at q.place (placed all)) q.entry (right q.place).same (stands (placed all) q (Contains-get_or (placed all) i p lt))

neither_by : (all : List Notes) (L : Ledger) (o r : Option Entry) → AreRight all L → find is_drain L.entries ≡ o → find is_asked L.entries ≡ r → side_of o ≡ side_of r → HasNeither (placed all)
neither_by all L None None right d a same = λ i p lt. let b = booked all L i p right lt in
    (none_placed is_asked L.entries (get_or (placed all) i p) a b, none_placed is_drain L.entries (get_or (placed all) i p) d b)
neither_by all L None (Some f) right d a same = cc same
neither_by all L (Some e) None right d a same = cc same
neither_by all L (Some e) (Some f) right d a same =
    let one : e ≡ f = cc same in
    let asked : is_asked e ≡ true = subst (λ (x : Entry). is_asked x ≡ true) (sym one) (passes is_asked L.entries f a) in
    absurd (exclusive e.event (passes is_drain L.entries e d) asked)

-- ---- places that don't rise

falls_by : (k a b : ℕ) (p : Placed) (ps : List Placed) (t : Bool) → ltb k p.place ≡ t → (fall_behind (Some p.place) ps ≡ Some (a, b) → Rises (p ∷ ps) → ⊥)
    → cond t (fall_behind (Some p.place) ps) (Some (k, p.place)) ≡ Some (a, b) → k < p.place → Rises (p ∷ ps) → ⊥
falls_by k a b p ps true is rest found lt rises = rest found rises
falls_by k a b p ps false is rest found lt rises = let le = ltb-false k p.place is in omega arith

falls : (p : Placed) (ps : List Placed) (a b : ℕ) → fall_behind (Some p.place) ps ≡ Some (a, b) → Rises (p ∷ ps) → ⊥
falls p [] a b found rises = cc found
falls p (q ∷ ps) a b found rises =
    falls_by p.place a b q ps (ltb p.place q.place) refl (falls q ps a b) found (rises 0 1 p (omega arith) (omega arith)) (λ i j d lt within. rises (suc i) (suc j) d (omega arith) (omega arith))

first_falls : (ps : List Placed) (a b : ℕ) → first_fall ps ≡ Some (a, b) → Rises ps → ⊥
first_falls [] a b found rises = cc found
first_falls (p ∷ ps) a b found rises = falls p ps a b found rises

some_falls : (all : List Notes) (a b : ℕ) → first_fall_of all ≡ Some (a, b) → All (λ n. Rises n.entries) all → ⊥
some_falls all a b found rise = some_first (λ n. first_fall n.entries) (λ n. Rises n.entries) (a, b) (λ n h rises. first_falls n.entries a b h rises) all found rise

-- two neighbours at one place: that place occurs twice
once_more : (a : ℕ) (p : Placed) (ps : List Placed) → times a (p ∷ ps) ≡ cond (eqb p.place a) 1 0 + times a ps
once_more a p ps = sum_by-cons (λ q. cond (eqb q.place a) 1 0) p ps

same_by : (k a : ℕ) (p : Placed) (ps : List Placed) (t : Bool) → (fall_behind (Some p.place) ps ≡ Some (a, a) → 2 ≤ cond (eqb p.place a) 1 0 + times a ps)
    → cond t (fall_behind (Some p.place) ps) (Some (k, p.place)) ≡ Some (a, a) → 2 ≤ cond (eqb k a) 1 0 + times a (p ∷ ps)
same_by k a p ps true rest found = let more = rest found in omega (arith, once_more a p ps)
same_by k a p ps false rest found =
    let parts = some_pair_parts k a p.place a found in
    let one : eqb k a ≡ true = eq-eqb k a parts.0 in
    let other : eqb p.place a ≡ true = eq-eqb p.place a parts.1 in
    let first : cond {A = ℕ} (eqb k a) 1 0 ≡ 1 = ap (λ (t : Bool). cond {A = ℕ} t 1 0) one in
    let second : cond {A = ℕ} (eqb p.place a) 1 0 ≡ 1 = ap (λ (t : Bool). cond {A = ℕ} t 1 0) other in
    omega (arith, once_more a p ps)

same_behind : (k a : ℕ) (ps : List Placed) → fall_behind (Some k) ps ≡ Some (a, a) → 2 ≤ cond (eqb k a) 1 0 + times a ps
same_behind k a [] found = cc found
same_behind k a (p ∷ ps) found = same_by k a p ps (ltb k p.place) (same_behind p.place a ps) found

same_first : (a : ℕ) (ps : List Placed) → first_fall ps ≡ Some (a, a) → 2 ≤ times a ps
same_first a [] found = cc found
same_first a (p ∷ ps) found = let more = same_behind p.place a ps found in omega (arith, once_more a p ps)

within_all : (a : ℕ) (all : List Notes) → All (λ n. times a n.entries ≤ times a (placed all)) all
within_all a [] = All-nil (λ n. times a n.entries ≤ 0)
within_all a (n ∷ all) =
    let both = sum_by-append (λ q. cond (eqb q.place a) 1 0) n.entries (placed all) in
    All-cons (λ m. times a m.entries ≤ times a (placed (n ∷ all))) n all (omega (arith, both))
    (All-weaker (λ m. times a m.entries ≤ times a (placed all)) (λ m. times a m.entries ≤ times a (placed (n ∷ all))) (λ m le. omega (arith, both, le)) all (within_all a all))

same_twice : (a : ℕ) (all : List Notes) → first_fall_of all ≡ Some (a, a) → times a (placed all) ≤ 1 → ⊥
same_twice a all found few =
    some_first (λ n. first_fall n.entries) (λ n. times a n.entries ≤ times a (placed all)) (a, a)
    (λ n h le. let more = same_first a n.entries h in omega (arith, more, le, few)) all found (within_all a all)

-- ---- all kinds

pub unmatched : (all : List Notes) (L : Ledger) (d : Difference) → Differs all L d → Matches all L → ⊥
unmatched all L d (entry w) m = held_unmatched (reverse L.entries) (placed all) d.place d.held w.held (m.entries d.place)
unmatched all L d (number held kept right w c) m = wrong_unmatched all L held kept w m.numbers
unmatched all L d (drain right numbers u) m = false≢true (sym u.undrained ∙ m.drained)
unmatched all L d (twice right numbers drained t) m = twice_unmatched (reverse L.entries) (placed all) d.place (slice_get (reverse L.entries) d.place) t.twice (m.entries d.place)
unmatched all L d (fall earlier later right numbers drained once found c) m = some_falls all earlier later found m.rise

count_same : (m n : ℕ) (s t : Side) → s ≡ sides.Count m → t ≡ sides.Count n → s ≡ t → m ≡ n
count_same m n s t a b same = let one : sides.Count m ≡ sides.Count n = sym a ∙ (same ∙ b) in cc one

pub sides_differ : (all : List Notes) (L : Ledger) (d : Difference) → Differs all L d → SidesDiffer all d
sides_differ all L d (entry w) same = absurd (held_apart (reverse L.entries) (placed all) d.place d.held w.held (same ∙ w.kept))
sides_differ all L d (number held kept right w c) same = absurd (wrong_apart all L held kept w (count_same held kept d.held d.kept c.held c.kept same))
sides_differ all L d (drain right numbers u) same = neither_by all L (find is_drain L.entries) (find is_asked L.entries) right refl refl (sym u.held ∙ (same ∙ u.kept))
sides_differ all L d (twice right numbers drained t) same =
    let more = t.twice in
    let one = count_same (capped (times d.place (placed all))) 1 d.held d.kept t.counts.held t.counts.kept same in
    absurd (omega (arith, more, one))
sides_differ all L d (fall earlier later right numbers drained once found c) same =
    let one : earlier ≡ later = count_same earlier later d.held d.kept c.held c.kept same in
    let again : first_fall_of all ≡ Some (earlier, earlier) = found ∙ ap (λ (n : ℕ). Some (earlier, n)) (sym one) in
    absurd (same_twice earlier all again (once earlier))

-- there is no difference exactly where they match
pub none_matches : (all : List Notes) (L : Ledger) (r : Option Difference) → MatchOption r (Matches all L) (Differs all L) → IsNone r ↔ Matches all L
none_matches all L None m = (λ none. m, λ m. refl)
none_matches all L (Some d) m = (λ none. cc none, λ matches. absurd (unmatched all L d m matches))

pub some_sides : (all : List Notes) (L : Ledger) (r : Option Difference) → MatchOption r (Matches all L) (Differs all L) → IfSome r (SidesDiffer all)
some_sides all L None m = tt
some_sides all L (Some d) m = sides_differ all L d m
